-- What was written of a note.
use Rattle.std.proofs.Common.{◌≡◌, ◌∙◌, ℕ, Bool, true, false, List, [], ◌++◌, Option, refl, sym, ap, inl, inr, append-nil, append_assoc}
use Rattle.rail_io.specs.Faults.{Rose}
use Rattle.rail_io.specs.Told.{with_end}
use Rattle.session_loop.specs.Writes.{Writes}
use Rattle.session_loop.proofs.WriteLemmas.{end_more}
use Rattle.host_catalogue.specs.Noted.{IsNoted}

pub noted : (before after : Option (List ℕ)) (faults_before faults_after : ℕ) (text : List ℕ) (all : Bool) → Writes before after text all
    → (all ≡ false → Rose faults_before faults_after) → IsNoted before after faults_before faults_after text
noted before after faults_before faults_after text true w cause = record {
  written = w.written;
  left = w.left;
  told = w.told;
  is = w.is;
  whole = inl (w.whole refl);
}
noted before after faults_before faults_after text false w cause = record {
  written = w.written;
  left = w.left;
  told = w.told;
  is = w.is;
  whole = inr (cause refl);
}

-- a piece, whole, and then another
pub writes_two : (before mid after : Option (List ℕ)) (p q : List ℕ) (ok : Bool)
    → Writes before mid p true → Writes mid after q ok → Writes before after (p ++ q) ok
writes_two before mid after p q ok first second =
    let all : p ≡ first.written = first.is ∙ ap (λ (l : List ℕ). first.written ++ l) (first.whole refl) ∙ append-nil first.written in
    record {
      written = first.written ++ second.written;
      left = second.left;
      told = second.told ∙ ap (λ (t : Option (List ℕ)). with_end t second.written) first.told ∙ end_more before first.written second.written;
      is = ap (λ (l : List ℕ). l ++ q) all ∙ ap (λ (l : List ℕ). first.written ++ l) second.is
          ∙ sym (append_assoc first.written second.written second.left);
      whole = second.whole;
    }

-- A sum, read.
use Rattle.std.proofs.Common.{◌≡◌, ℕ, ◌+◌, List, [], ◌∷◌, ◌++◌, length, take, drop, Some, None, sym, ap, subst, ◌∙◌, arith}
use Rattle.std.proofs.lemmas.List.{append_cancel_left}
use Rattle.std.specs.List.{AllPass}
use Rattle.line_text.specs.Reads.{Reads}
use Rattle.journal_text.specs.declared.sum.Sum.{Sum}
use Rattle.journal_text.specs.Texts.{is_hex}
use Rattle.journal_text.specs.Reads.{IsSum, sum_field}
use Rattle.journal_text.proofs.Splits.{back_is, front_is, halves_are, length_of}

module _ {old mid digits more : List ℕ} (e : old ≡ 32 ∷ mid) (d : digits ≡ take 64 mid) (m : more ≡ drop 64 mid) (len : length more + 64 ≡ length mid) where
  halves : mid ≡ digits ++ more
  halves = halves_are mid digits more 64 d m

  digits_are : (a : Sum) (rest : List ℕ) → IsSum a → old ≡ sum_field a ++ rest → (digits ≡ a.digits) × (more ≡ rest)
  digits_are a rest is at =
      let same : mid ≡ a.digits ++ rest = append_cancel_left (32 ∷ []) mid (a.digits ++ rest) (sym e ∙ at) in
      (d ∙ front_is mid a.digits rest 64 is.0 same, m ∙ back_is mid a.digits rest 64 is.0 same)

  pub not_hex : {new : List ℕ} → (AllPass is_hex digits → ⊥) → Reads sum_field IsSum old new None
  not_hex never =
      record {
        found = tt;
        only = λ a rest is cut at. absurd (never (subst (λ (x : List ℕ). AllPass is_hex x) (sym (digits_are a rest is at).0) is.1));
      }

  pub sum_read : AllPass is_hex digits → Reads sum_field IsSum old more (Some (record { digits = digits }))
  sum_read hex =
      record {
        found = ((let h = length_of mid digits more halves in omega arith, hex), e ∙ ap (λ (x : List ℕ). 32 ∷ x) halves);
        only = λ a rest is cut at.
            let h = digits_are a rest is at in
            (ap (λ (x : List ℕ). Some (record { digits = x })) h.0, h.1);
      }

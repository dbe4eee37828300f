-- A successor that is none, read.
use Rattle.std.proofs.Common.{◌≡◌, ℕ, ◌^◌, ◌<◌, true, List, [], ◌∷◌, ◌++◌, codes, decimal, Option, Some, None, refl, sym, ◌∙◌, subst, arith, append_assoc}
use Rattle.std.proofs.lemmas.Fmt.{decimal_nonempty}
use Rattle.std.proofs.lemmas.List.{append_cancel_left}
use Rattle.line_text.specs.declared.ends.SaidRow.{SaidRow}
use Rattle.line_text.specs.Lines.{AreSuccessorNumbers, successor_field}
use Rattle.line_text.specs.Reads.{Eats, IsCut, Reads, number_part}
use Rattle.line_text.proofs.Numbers.{AreDigits-decimal, no_digit}

behind : (c : ℕ) (x y : List ℕ) → c ∷ x ≡ c ∷ y → x ≡ y
behind c = append_cancel_left (c ∷ [])

-- no number begins with another sign
no_sign : (c n : ℕ) (x y : List ℕ) → n < 2 ^ 64 → IsCut (c ∷ x) → c ∷ x ≡ decimal n ++ y → ⊥
no_sign c n x y fits cut e =
    no_digit (decimal n) y (decimal_nonempty n fits) (AreDigits-decimal n (omega arith)) (subst IsCut e cut)

-- a successor

is_none : (s : Option SaidRow) (rest new : List ℕ) → AreSuccessorNumbers s → 32 ∷ 45 ∷ new ≡ successor_field s ++ rest → (Some None ≡ Some s) × (new ≡ rest)
is_none None rest new h is = (refl, behind 45 new rest (behind 32 (45 ∷ new) (45 ∷ rest) is))
is_none (Some s) rest new h is =
    let t : 45 ∷ new ≡ (decimal s.row ++ number_part s.generation) ++ rest = behind 32 _ _ is in
    absurd (no_sign 45 s.row new (number_part s.generation ++ rest) h.0 refl (t ∙ append_assoc (decimal s.row) (number_part s.generation) rest))

pub no_successor : {old new : List ℕ} → Eats (codes " -") old new true → Reads successor_field AreSuccessorNumbers old new (Some None)
no_successor {new = new} e =
    record { found = (tt, e.found refl); only = λ s rest h cut is. is_none s rest new h (sym (e.found refl) ∙ is) }

-- Places of a new coach in rising number: none of them stood before.
use Rattle.std.proofs.Common.{◌≡◌, ◌∙◌, ℕ, ◌+◌, ◌<◌, ◌≤◌, ◌==◌, ◌&&◌, Bool, true, false, List, [], ◌∷◌, ◌++◌, None, refl, arith, eqb-true}
use Rattle.std.specs.List.{AllByRecursion}
use Rattle.std.proofs.lemmas.Bool.Decides.{nat_tests}
use Rattle.place_map.specs.declared.coach.Place.{Place}
use Rattle.place_map.specs.Places.{is_same_place, has_place, first_repeat, AreOfOthers, AreRisingFrom}

-- a place of the coach has a lower number
abbrev Stands : ℕ → ℕ → Place → Type 0
Stands coach least q = q.coach ≡ coach → q.number < least

less : (m n : ℕ) → m < n → (m == n) ≡ false
less m n h = grind (arith, nat_tests)

no_both : (a b : Bool) → b ≡ false → (a && b) ≡ false
no_both true b e = e
no_both false b e = refl

no_same : (p q : Place) → Stands p.coach p.number q → is_same_place p q ≡ false
no_same p q h = no_both (q.run.0 == p.run.0) ((q.coach == p.coach) && (q.number == p.number)) (by_coach (q.coach == p.coach) refl)
  where
    by_coach : (b : Bool) → (q.coach == p.coach) ≡ b → (b && (q.number == p.number)) ≡ false
    by_coach true e = less q.number p.number (h (eqb-true q.coach p.coach e))
    by_coach false e = refl

has_none : (places : List Place) (p : Place) → AllByRecursion (Stands p.coach p.number) places → has_place places p ≡ false
has_none [] p h = refl
has_none (q ∷ qs) p h = rw (no_same p q h.0, has_none qs p h.1) refl

stand_before : (coach least : ℕ) (p : Place) (qs : List Place) → p.coach ≡ coach → least ≤ p.number → AllByRecursion (Stands coach least) qs → AllByRecursion (Stands p.coach p.number) qs
stand_before coach least p [] at low h = tt
stand_before coach least p (q ∷ qs) at low h = ((λ same. (let l = h.0 (same ∙ at) in omega (arith, l, low))), stand_before coach least p qs at low h.1)

stand_with : (coach least : ℕ) (p : Place) (qs : List Place) → least ≤ p.number → AllByRecursion (Stands coach least) qs → AllByRecursion (Stands coach (p.number + 1)) (qs ++ p ∷ [])
stand_with coach least p [] low h = ((λ same. omega arith), tt)
stand_with coach least p (q ∷ qs) low h = ((λ same. (let l = h.0 same in omega (arith, l, low))), stand_with coach least p qs low h.1)

others_stand : (coach : ℕ) (qs : List Place) → AreOfOthers coach qs → AllByRecursion (Stands coach 0) qs
others_stand coach [] h = tt
others_stand coach (q ∷ qs) h = ((λ same. absurd (h.0 same)), others_stand coach qs h.1)

none_from : (coach least : ℕ) (before fresh : List Place) → AllByRecursion (Stands coach least) before → AreRisingFrom coach least fresh → first_repeat before fresh ≡ None
none_from coach least before [] h rising = refl
none_from coach least before (p ∷ rest) h rising =
    rw (has_none before p (stand_before coach least p before rising.0 rising.1 h))
    (none_from coach (p.number + 1) (before ++ p ∷ []) rest (stand_with coach least p before rising.1 h) rising.2)

pub none_repeats : (coach : ℕ) (before fresh : List Place) → AreOfOthers coach before → AreRisingFrom coach 0 fresh → first_repeat before fresh ≡ None
none_repeats coach before fresh others rising = none_from coach 0 before fresh (others_stand coach before others) rising

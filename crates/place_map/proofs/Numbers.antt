-- The numbers of the places that pass lie where the run's places lie.
use Rattle.std.proofs.Common.{◌≡◌, ℕ, suc, ◌+◌, ◌<◌, ◌≤◌, ◌==◌, ◌&&◌, Bool, true, false, List, [], ◌∷◌, length, get_or, if◌then◌else◌, slice_get, refl, sym, subst, ap, ◌∙◌, arith}
use Rattle.std.specs.List.{AllByRecursion}
use Rattle.std.proofs.lemmas.Bool.Decides.{nat_tests}
use Rattle.rail_ids.specs.declared.PlaceNo.{PlaceNo}
use Rattle.place_map.specs.declared.coach.Class.{Class}
use Rattle.place_map.specs.declared.coach.Place.{Place}
use Rattle.place_map.specs.Candidates.{is_candidate, numbers_of, candidates_of, IsOfRun, AreRising}

-- where no place passes there is no number
pub numbers_of-none : (passes : Place → Bool) (k : ℕ) (places : List Place) → ((i : ℕ) (d : Place) → i < length places → passes (get_or places i d) ≡ false) → numbers_of passes k places ≡ []
numbers_of-none passes k [] h = refl
numbers_of-none passes k (p ∷ places) h =
    ap (λ (b : Bool). if b then (record { 0 = k }) ∷ numbers_of passes (k + 1) places else numbers_of passes (k + 1) places) (h 0 p (omega arith))
    ∙ numbers_of-none passes (k + 1) places (λ i d small. h (suc i) d (omega arith))

passes_run : (a b : ℕ) (c : Bool) → (a == b && c) ≡ true → a ≡ b
passes_run a b c h = grind (arith, nat_tests)

-- every candidate is a place of the run
numbers_of_run : (run : ℕ) (class : Class) (wanted k : ℕ) (all places : List Place) → ((i : ℕ) → slice_get places i ≡ slice_get all (k + i)) → AllByRecursion (IsOfRun run all) (numbers_of (is_candidate run class wanted) k places)
numbers_of_run run class wanted k all [] at = cc
numbers_of_run run class wanted k all (p ∷ places) at =
    one (is_candidate run class wanted p) refl (numbers_of_run run class wanted (k + 1) all places (λ i. at (suc i) ∙ ap (slice_get all) (omega arith)))
  where
    one : (b : Bool) → is_candidate run class wanted p ≡ b → AllByRecursion (IsOfRun run all) (numbers_of (is_candidate run class wanted) (k + 1) places)
        → AllByRecursion (IsOfRun run all) (if b then (record { 0 = k }) ∷ numbers_of (is_candidate run class wanted) (k + 1) places else numbers_of (is_candidate run class wanted) (k + 1) places)
    one true e rest = ((p, ap (slice_get all) (omega arith) ∙ sym (at 0), passes_run p.run.0 run _ e), rest)
    one false e rest = rest

pub candidates_of_run : (run : ℕ) (class : Class) (wanted : ℕ) (places : List Place) → AllByRecursion (IsOfRun run places) (candidates_of run class wanted places)
candidates_of_run run class wanted places = numbers_of_run run class wanted 0 places places (λ i. ap (slice_get places) (omega arith))

rising_from : (low high : ℕ) (ns : List PlaceNo) → low ≤ high → AreRising high ns → AreRising low ns
rising_from low high [] h r = cc
rising_from low high (n ∷ ns) h r = (omega (arith, h, r.0), r.1)

pub numbers_rise : (passes : Place → Bool) (k : ℕ) (places : List Place) → AreRising k (numbers_of passes k places)
numbers_rise passes k [] = cc
numbers_rise passes k (p ∷ places) = one (passes p) (numbers_rise passes (k + 1) places)
  where
    one : (b : Bool) → AreRising (k + 1) (numbers_of passes (k + 1) places) → AreRising k (if b then (record { 0 = k }) ∷ numbers_of passes (k + 1) places else numbers_of passes (k + 1) places)
    one true rest = (omega arith, rest)
    one false rest = rising_from k (k + 1) (numbers_of passes (k + 1) places) (omega arith) rest

-- the candidates rise, so they differ
pub candidates_rise : (run : ℕ) (class : Class) (wanted : ℕ) (places : List Place) → AreRising 0 (candidates_of run class wanted places)
candidates_rise run class wanted places = numbers_rise (is_candidate run class wanted) 0 places

-- likewise where the list and the places are given by other terms
pub are_of_run : (run : ℕ) (class : Class) (wanted : ℕ) (numbers : List PlaceNo) (here places : List Place) → numbers ≡ candidates_of run class wanted here → here ≡ places → AllByRecursion (IsOfRun run places) numbers
are_of_run run class wanted numbers here places e same =
    subst (λ (l : List PlaceNo). AllByRecursion (IsOfRun run places) l) (sym (e ∙ ap (candidates_of run class wanted) same)) (candidates_of_run run class wanted places)

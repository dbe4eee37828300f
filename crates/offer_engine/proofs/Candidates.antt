-- The candidates of a segment are places of the catalogue.
use Rattle.std.proofs.Common.{◌≡◌, ℕ, zero, suc, ◌+◌, ◌<◌, ◌≤◌, Bool, true, false, List, [], ◌∷◌, length, arith, subst, sym, if◌then◌else◌}
use Rattle.std.specs.Prelude.{slice_index_or}
use Rattle.rail_ids.specs.declared.PlaceNo.{PlaceNo}
use Rattle.place_map.specs.declared.coach.Class.{Class}
use Rattle.place_map.specs.declared.coach.Place.{Place}
use Rattle.place_map.specs.Candidates.{is_candidate, numbers_of, candidates_of}

front_below : (k n : ℕ) (xs : List PlaceNo) → k < n → ((i : ℕ) (d : PlaceNo) → i < length xs → (slice_index_or xs i d).0 < n) → (i : ℕ) (d : PlaceNo) → i < length (record { 0 = k } ∷ xs) → (slice_index_or (record { 0 = k } ∷ xs) i d).0 < n
front_below k n xs first rest zero d h = first
front_below k n xs first rest (suc i) d h = rest i d (omega arith)

pub numbers_below : (passes : Place → Bool) (k n : ℕ) (places : List Place) → k + length places ≤ n → (i : ℕ) (d : PlaceNo) → i < length (numbers_of passes k places) → (slice_index_or (numbers_of passes k places) i d).0 < n
numbers_below passes k n [] h = λ i d less. absurd (let none : i < 0 = less in omega arith)
numbers_below passes k n (p ∷ places) h = by_test (passes p) (numbers_below passes (k + 1) n places (omega arith))
  where
    by_test : (b : Bool) → ((i : ℕ) (d : PlaceNo) → i < length (numbers_of passes (k + 1) places) → (slice_index_or (numbers_of passes (k + 1) places) i d).0 < n)
        → (i : ℕ) (d : PlaceNo) → i < length (if b then record { 0 = k } ∷ numbers_of passes (k + 1) places else numbers_of passes (k + 1) places)
        → (slice_index_or (if b then record { 0 = k } ∷ numbers_of passes (k + 1) places else numbers_of passes (k + 1) places) i d).0 < n
    by_test true rest = front_below k n (numbers_of passes (k + 1) places) (omega arith) rest
    by_test false rest = rest

pub numbers_few : (passes : Place → Bool) (k : ℕ) (places : List Place) → length (numbers_of passes k places) ≤ length places
numbers_few passes k [] = omega arith
numbers_few passes k (p ∷ places) = by_test (passes p) (numbers_few passes (k + 1) places)
  where
    by_test : (b : Bool) → length (numbers_of passes (k + 1) places) ≤ length places → length (if b then record { 0 = k } ∷ numbers_of passes (k + 1) places else numbers_of passes (k + 1) places) ≤ suc (length places)
    by_test true more = omega arith
    by_test false more = omega arith

pub candidates_few : (xs : List PlaceNo) (run wanted : ℕ) (class : Class) (places : List Place) → xs ≡ candidates_of run class wanted places → length xs ≤ length places
candidates_few xs run wanted class places is = subst (λ (l : List PlaceNo). length l ≤ length places) (sym is) (numbers_few (is_candidate run class wanted) 0 places)

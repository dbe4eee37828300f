-- The places of the one coach: how many they are, that each is one of its own, and which of them a wish may have.
use Rattle.std.proofs.Common.{◌≡◌, ℕ, zero, suc, ◌+◌, ◌<◌, ◌≤◌, ◌==◌, false, List, [], ◌∷◌, ◌++◌, length, map, replicate, All, None, Ok, nat_lt, if◌then◌else◌, refl, ap, ap₂, arith}
use Rattle.std.proofs.lemmas.Bool.Decides.{nat_tests}
use Rattle.std.proofs.lemmas.List.Elements.{All-nil, All-head, All-tail, All-push}
use Rattle.std.proofs.lemmas.List.Sums.{sum_by-cons}
use Rattle.place_map.specs.declared.coach.Class.TheVariants.{Second}
use Rattle.place_map.specs.declared.coach.Place.{Place}
use Rattle.place_map.specs.Candidates.{is_candidate, numbers_of}
use Rattle.place_map.specs.Places.{places_from, has_place, first_repeat, count_in_run, is_same_place, run_number, with_places}
use Rattle.hold_core.specs.Tries.{place_number}
use Rattle.host_drill.specs.Fits.{numbers_from}

-- the second-class place of coach 1 of run 0 with this number
abbrev place_at : ℕ → Place
place_at number = record { run = record { 0 = 0 }; coach = 1; number = number; class = Second; traits = 0 }

-- so many of them, from this number on
abbrev pub group_from : ℕ → ℕ → List Place
group_from first n = places_from 0 1 Second 0 first n

-- ---- they can be added to no others

length-group_from : (first n : ℕ) → length (group_from first n) ≡ n
length-group_from first zero = refl
length-group_from first (suc n) = let rest = length-group_from (first + 1) n in omega arith

abbrev one_in_run : Place → ℕ
one_in_run p = if run_number p == 0 then 1 else 0

count_in_run-group_from : (first n : ℕ) → count_in_run 0 (group_from first n) ≡ n
count_in_run-group_from first zero = refl
count_in_run-group_from first (suc n) =
    let rest = count_in_run-group_from (first + 1) n in
    let more : count_in_run 0 (group_from first (suc n)) ≡ 1 + count_in_run 0 (group_from (first + 1) n) = sum_by-cons one_in_run (place_at first) (group_from (first + 1) n) in
    omega arith

-- each has a number below this one
abbrev AreBelow : ℕ → List Place → Type 0
AreBelow number places = All (λ p. p.number < number) places

is_same_place-below : (p q : Place) → q.number < p.number → is_same_place p q ≡ false
is_same_place-below p q less = grind (arith, nat_tests)

has_place-below : (p : Place) (places : List Place) → AreBelow p.number places → has_place places p ≡ false
has_place-below p [] below = refl
has_place-below p (q ∷ places) below =
    rw (is_same_place-below p q (All-head (λ r. r.number < p.number) q places below)) (has_place-below p places (All-tail (λ r. r.number < p.number) q places below))

first_repeat-group_from : (before : List Place) (first n : ℕ) → AreBelow first before → first_repeat before (group_from first n) ≡ None
first_repeat-group_from before first zero below = refl
first_repeat-group_from before first (suc n) below =
    let p = place_at first in
    let further : AreBelow (first + 1) before = λ k none less. omega (arith, below k none less) in
    rw (has_place-below p before below) (first_repeat-group_from (before ++ p ∷ []) (first + 1) n (All-push (λ r. r.number < first + 1) before p further (omega arith)))

pub with_places-group_from : (n : ℕ) → n ≤ 1_200 → with_places 0 [] (group_from 1 n) ≡ Ok (group_from 1 n)
with_places-group_from n few =
    let none : AreBelow 1 [] = All-nil (λ p. p.number < 1) in
    let in_run : nat_lt 1_200 n ≡ false = grind (arith, nat_tests) in
    let in_all : nat_lt 4_194_304 n ≡ false = grind (arith, nat_tests) in
    rw (count_in_run-group_from 1 n, length-group_from 1 n, first_repeat-group_from [] 1 n none, in_run, in_all)

-- ---- a second-class wish of the run may have each, in order

pub numbers_of-group_from : (k first n : ℕ) → map place_number (numbers_of (is_candidate 0 Second 0) k (group_from first n)) ≡ numbers_from k n
numbers_of-group_from k first zero = refl
numbers_of-group_from k first (suc n) = ap (λ (l : List ℕ). k ∷ l) (numbers_of-group_from (k + 1) (first + 1) n)

-- ---- what is the same of each place of the run

pub map-group_from : (f : Place → ℕ) (x : ℕ) → ((p : Place) → run_number p ≡ 0 → f p ≡ x) → (first n : ℕ) → map f (group_from first n) ≡ replicate n x
map-group_from f x same first zero = refl
map-group_from f x same first (suc n) = ap₂ (λ (y : ℕ) (l : List ℕ). y ∷ l) (same (place_at first) refl) (map-group_from f x same (first + 1) n)

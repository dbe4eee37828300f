-- What a coach adds to the places of all runs, or why it is refused.
use Rattle.std.specs.Prelude.{ℕ, zero, suc, ◌+◌, ◌-◌, ◌≤◌, ◌==◌, ◌&&◌, ◌||◌, nat_lt, Bool, List, [], ◌∷◌, ◌++◌, All, length, count_by, filter, flat_map, if◌then◌else◌, Option, Some, None, Result, Ok, Err, ◌≡◌, ◌≢◌, true, false}
use Rattle.std.specs.List.{list_any, AllByRecursion}
use Rattle.std.specs.List.Sorted.{IsNonDecreasingBy, IsPartitionPoint}
use Rattle.place_map.specs.declared.coach.Class.{Class}
use Rattle.place_map.specs.declared.coach.Place.{Place}
use Rattle.place_map.specs.Seats.{Seats}
use Rattle.place_map.specs.declared.coach.PlaceFault.{PlaceFault}
use Rattle.place_map.specs.declared.coach.PlaceFault.TheVariants.{TooManyPlaces, DoublePlace}

abbrev pub run_number : Place → ℕ
run_number p = p.run.0

-- the places of a run, in the order of their numbers
abbrev pub places_of : ℕ → List Place → List Place
places_of run places = filter (λ p. run_number p == run) places

-- n places of consecutive numbers, from this number on
abbrev pub places_from : ℕ → ℕ → Class → ℕ → ℕ → ℕ → List Place
places_from run coach class traits number zero = []
places_from run coach class traits number (suc n) =
    record { run = record { 0 = run }; coach = coach; number = number; class = class; traits = traits }
    ∷ places_from run coach class traits (number + 1) n

abbrev pub group_size : Seats → ℕ
group_size g = g.last + 1 - g.first

-- one place for each number of the group
abbrev pub group_places : ℕ → ℕ → Class → Seats → List Place
group_places run coach class g = places_from run coach class g.traits g.first (group_size g)

-- the places of a coach, group by group
abbrev pub coach_places : ℕ → ℕ → Class → List Seats → List Place
coach_places run coach class groups = flat_map (group_places run coach class) groups

-- two places are the same one where run, coach and number agree
abbrev pub is_same_place : Place → Place → Bool
is_same_place p q = q.run.0 == p.run.0 && (q.coach == p.coach && q.number == p.number)

abbrev pub has_place : List Place → Place → Bool
has_place places p = list_any (is_same_place p) places

-- the first of the new places that stood before
abbrev pub first_repeat : List Place → List Place → Option Place
first_repeat before [] = None
first_repeat before (p ∷ rest) = if has_place before p then Some p else first_repeat (before ++ p ∷ []) rest

-- none of the places is of the coach
abbrev pub AreOfOthers : ℕ → List Place → Type 0
AreOfOthers coach places = AllByRecursion (λ p. p.coach ≢ coach) places

-- the places are of the coach, and their numbers rise from this one on
abbrev pub AreRisingFrom : ℕ → ℕ → List Place → Type 0
AreRisingFrom coach least [] = Unit {0}
AreRisingFrom coach least (p ∷ rest) = (p.coach ≡ coach) × (least ≤ p.number) × AreRisingFrom coach (p.number + 1) rest

abbrev pub count_in_run : ℕ → List Place → ℕ
count_in_run run places = count_by (λ p. run_number p == run) places

-- the run has over 1,200 places, or all runs have over 4,194,304
abbrev pub are_too_many : ℕ → List Place → Bool
are_too_many run places = nat_lt 1200 (count_in_run run places) || nat_lt 4_194_304 (length places)

abbrev pub unless_repeated : List Place → List Place → Option Place → Result (List Place) PlaceFault
unless_repeated places fresh None = Ok (places ++ fresh)
unless_repeated places fresh (Some p) = Err (DoublePlace p.coach p.number)

-- the places with these further ones of a run, or the first fault
abbrev pub with_places : ℕ → List Place → List Place → Result (List Place) PlaceFault
with_places run places fresh =
    if are_too_many run (places ++ fresh) then Err TooManyPlaces
    else unless_repeated places fresh (first_repeat places fresh)

-- no place is of a later run
abbrev pub EndsWithRun : ℕ → List Place → Type 0
EndsWithRun run places = All (λ p. run_number p ≤ run) places

-- the runs do not fall
abbrev pub AreByRun : List Place → Type 0
AreByRun places = IsNonDecreasingBy run_number places

-- the first n places pass, and the others don't
abbrev pub IsSplit : (Place → Bool) → List Place → ℕ → Type 0
IsSplit passes places n = IsPartitionPoint (λ p. passes p ≡ true) (λ p. passes p ≡ false) places n

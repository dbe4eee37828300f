-- Which places a wish may have.
use Rattle.std.specs.Prelude.{◌≡◌, ℕ, ◌+◌, ◌≤◌, ◌==◌, ◌&&◌, Bool, true, false, List, [], ◌∷◌, if◌then◌else◌, bit_and, Some, slice_get}
use Rattle.place_map.specs.declared.coach.Class.{Class}
use Rattle.place_map.specs.declared.coach.Class.TheVariants.{First, Second}
use Rattle.place_map.specs.declared.coach.Place.{Place}
use Rattle.rail_ids.specs.declared.PlaceNo.{PlaceNo}
use Rattle.place_map.specs.Places.{run_number}

abbrev pub is_class : Class → Class → Bool
is_class First First = true
is_class First Second = false
is_class Second First = false
is_class Second Second = true

-- a place of the run and the class that has all wanted traits
abbrev pub is_candidate : ℕ → Class → ℕ → Place → Bool
is_candidate run class wanted p = p.run.0 == run && (is_class p.class class && bit_and p.traits wanted == wanted)

-- the numbers of the places that pass, where the first place has the number k
abbrev pub numbers_of : (Place → Bool) → ℕ → List Place → List PlaceNo
numbers_of passes k [] = []
numbers_of passes k (p ∷ rest) =
    if passes p then (record { 0 = k }) ∷ numbers_of passes (k + 1) rest else numbers_of passes (k + 1) rest

-- a place of the run and the class
abbrev pub is_of_class : ℕ → Class → Place → Bool
is_of_class run class p = p.run.0 == run && is_class p.class class

-- the numbers of the run's places of the class
abbrev pub class_places_of : ℕ → Class → List Place → List PlaceNo
class_places_of run class places = numbers_of (is_of_class run class) 0 places

abbrev pub candidates_of : ℕ → Class → ℕ → List Place → List PlaceNo
candidates_of run class wanted places = numbers_of (is_candidate run class wanted) 0 places

-- the number is that of a place of the run
abbrev pub IsOfRun : ℕ → List Place → PlaceNo → Type 0
IsOfRun run places n = (p : Place) × (slice_get places n.0 ≡ Some p) × (run_number p ≡ run)

-- the numbers rise, from this one on
abbrev pub AreRising : ℕ → List PlaceNo → Type 0
AreRising least [] = Unit {0}
AreRising least (n ∷ ns) = (least ≤ n.0) × AreRising (n.0 + 1) ns

-- The numbers of the places of each class, as they are kept.
use Rattle.std.specs.Prelude.{◌≡◌, ℕ, zero, suc, ◌+◌, ◌&&◌, Bool, true, false, List, [], ◌∷◌, ◌++◌, nat_le, nat_lt, bit_and, ◌==◌, slice_index_or}
use Rattle.std.specs.List.Sorted.{IsPartitionPoint}
use Rattle.place_map.specs.declared.coach.Class.{Class}
use Rattle.place_map.specs.declared.coach.Class.TheVariants.{First, Second}
use Rattle.place_map.specs.declared.coach.Place.{Place}
use Rattle.rail_ids.specs.declared.PlaceNo.{PlaceNo}
use Rattle.place_map.specs.Candidates.{is_class, numbers_of}

pub record ByClass : Type 0 where
  pub first : List PlaceNo
  pub second : List PlaceNo

abbrev pub of_class : Class → ByClass → List PlaceNo
of_class First n = n.first
of_class Second n = n.second

-- with further numbers of a class
abbrev pub with_numbers : Class → List PlaceNo → ByClass → ByClass
with_numbers First more n = record { first = n.first ++ more; second = n.second }
with_numbers Second more n = record { first = n.first; second = n.second ++ more }

-- that many numbers, from this one up
abbrev pub numbers_up : ℕ → ℕ → List PlaceNo
numbers_up from zero = []
numbers_up from (suc n) = record { 0 = from } ∷ numbers_up (from + 1) n

abbrev pub is_between : ℕ → ℕ → PlaceNo → Bool
is_between first end n = nat_le first n.0 && nat_lt n.0 end

-- the first n numbers are before the limit, and the others are not
abbrev pub SplitsNumbers : ℕ → List PlaceNo → ℕ → Type 0
SplitsNumbers limit numbers n =
    IsPartitionPoint (λ it. nat_lt it.0 limit ≡ true) (λ it. nat_lt it.0 limit ≡ false) numbers n

-- the numbers of each class are those of the places of it
abbrev pub AreByClass : List Place → ByClass → Type 0
AreByClass places n = (class : Class) → of_class class n ≡ numbers_of (λ p. is_class p.class class) 0 places

abbrev pub no_place : Place
no_place = record { run = record { 0 = 0 }; coach = 0; number = 0; class = First; traits = 0 }

-- the place of the number has all wanted traits
abbrev pub has_traits : ℕ → List Place → PlaceNo → Bool
has_traits wanted places n = bit_and (slice_index_or places n.0 no_place).traits wanted == wanted

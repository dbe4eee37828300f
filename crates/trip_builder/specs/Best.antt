-- The best trips: the first sixteen, whatever order they are found in.
use Rattle.std.specs.Prelude.{◌≡◌, ◌≤◌, ◌⊎◌, true, List, [], ◌∷◌, length}
use Rattle.std.specs.List.{AllByRecursion}
use Rattle.train_runs.specs.declared.segment.Segment.{Segment}
use Rattle.train_runs.specs.Runs.{RunsView}
use Rattle.train_runs.specs.declared.wish.TripWish.{TripWish}
use Rattle.trip_builder.specs.Segments.{IsKnown}
use Rattle.trip_builder.specs.Order.{stands_before}
use Rattle.trip_builder.specs.Trips.{is_trip, most_trips}

-- it is one of these
abbrev pub IsAmong : {X : Type 0} → List X → X → Type 0
IsAmong [] t = ⊥
IsAmong (u ∷ us) t = (u ≡ t) ⊎ IsAmong us t

-- no two of them are the same
abbrev pub AreApart : {X : Type 0} → List X → Type 0
AreApart [] = Unit {0}
AreApart (t ∷ ts) = (¬ IsAmong ts t) × AreApart ts

abbrev pub AllStandBefore : RunsView → List (List Segment) → List Segment → Type 0
AllStandBefore r trips t = AllByRecursion (λ u. stands_before r u t ≡ true) trips

-- each stands before those after it
abbrev pub AreInOrder : RunsView → List (List Segment) → Type 0
AreInOrder r [] = Unit {0}
AreInOrder r (t ∷ ts) = AllByRecursion (λ u. stands_before r t u ≡ true) ts × AreInOrder r ts

-- the trip is among the best, or they are sixteen and each of them stands before it
abbrev pub IsDecided : RunsView → List (List Segment) → List Segment → Type 0
IsDecided r best t = IsAmong best t ⊎ ((length best ≡ most_trips) × AllStandBefore r best t)

-- a trip of the wish
pub record IsTrip (r : RunsView) (w : TripWish) (t : List Segment) : Type 0 where
  pub some : 1 ≤ length t
  pub few : length t ≤ 3
  pub known : AllByRecursion (IsKnown r) t
  pub trip : is_trip r w t ≡ true

-- up to sixteen trips of the wish, in order
pub record AreBest (r : RunsView) (w : TripWish) (best : List (List Segment)) : Type 0 where
  pub few : length best ≤ most_trips
  pub order : AreInOrder r best
  pub trips : AllByRecursion (IsTrip r w) best

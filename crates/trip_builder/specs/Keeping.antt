-- What a search keeps: the best sixteen so far, and how late the last of them arrives.
use Rattle.std.specs.Prelude.{◌≡◌, ◌<◌, ◌≤◌, ◌⊎◌, ◌+◌, ℕ, true, length, List, [], slice_index_or}
use Rattle.train_runs.specs.declared.segment.Segment.{Segment}
use Rattle.train_runs.specs.Runs.{RunsView}
use Rattle.train_runs.specs.declared.wish.TripWish.{TripWish}
use Rattle.trip_builder.specs.declared.best.Best.{Best}
use Rattle.trip_builder.specs.declared.found.Found.{Found}
use Rattle.trip_builder.specs.Order.{last_arrival, first_departure, exceeds}
use Rattle.trip_builder.specs.Trips.{most_trips}
use Rattle.trip_builder.specs.Best.{AreBest}
use Rattle.trip_builder.specs.Search.{AllArriveBefore}
use Rattle.trip_builder.specs.Bounds.{never, AreBounds}
use Rattle.trip_builder.specs.Ends.{AreEnds}
use Rattle.trip_builder.specs.Shortest.{AreShortest}

-- the last of sixteen trips
abbrev pub sixteenth : List (List Segment) → List Segment
sixteenth best = slice_index_or best 15 []

-- when the sixteenth arrives; before there are sixteen, later than each arrival
abbrev pub IsLimit : RunsView → List (List Segment) → ℕ → Type 0
IsLimit r best limit = (limit ≡ never) ⊎ ((length best ≡ most_trips) × (last_arrival r (sixteenth best) ≡ limit))

pub record IsKept (r : RunsView) (w : TripWish) (best : Best) : Type 0 where
  pub are : AreBest r w best.trips.items
  pub limit : IsLimit r best.trips.items best.limit

pub record IsSearch (r : RunsView) (w : TripWish) (found : Found) : Type 0 where
  pub kept : IsKept r w found.best
  pub ends : AreEnds r w found.ends
  pub bounds : AreBounds r w found.bounds
  pub shortest : AreShortest r w found.shortest

-- ---- what can't come among the best

-- what begins so and has that many more segments stands after the trip, if it arrives with it: it departs earlier, or
-- then has more segments, or then higher ones
abbrev pub BeginsBehind : RunsView → List Segment → List Segment → ℕ → Type 0
BeginsBehind r trip begun more =
    (first_departure r begun < first_departure r trip) ⊎ ((first_departure r begun ≡ first_departure r trip)
    × ((length trip < length begun + more) ⊎ ((length begun + more ≡ length trip) × (exceeds begun trip ≡ true))))

-- likewise after the sixteenth, if it arrives no earlier than the bound
pub record IsBehindLast (r : RunsView) (best : List (List Segment)) (bound : ℕ) (begun : List Segment)
    (more : ℕ) : Type 0 where
  pub full : length best ≡ most_trips
  pub some : 1 ≤ length begun
  pub arrival : last_arrival r (sixteenth best) ≤ bound
  pub key : BeginsBehind r (sixteenth best) begun more

-- what begins so, has that many more segments and arrives no earlier than the bound stands after sixteen
abbrev pub IsOutdone : RunsView → List (List Segment) → ℕ → List Segment → ℕ → Type 0
IsOutdone r best bound begun more = AllArriveBefore r best bound ⊎ IsBehindLast r best bound begun more

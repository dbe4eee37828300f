-- Where one may be after that many trains of a wish: from when to when a train may be taken at each station.
use Rattle.std.specs.Prelude.{◌≡◌, ◌<◌, ◌≤◌, ◌+◌, ◌++◌, ◌∷◌, ℕ, length, Bool, true, List, slice_index_or}
use Rattle.train_runs.specs.declared.segment.Segment.{Segment}
use Rattle.train_runs.specs.declared.run.Stop.{Stop}
use Rattle.train_runs.specs.Stops.{stop_at}
use Rattle.train_runs.specs.Runs.{RunsView, stops_of}
use Rattle.train_runs.specs.declared.wish.TripWish.{TripWish}
use Rattle.trip_builder.specs.declared.reached.Times.{Times}
use Rattle.trip_builder.specs.declared.reached.Near.{Near}
use Rattle.trip_builder.specs.Segments.{first_stop}
use Rattle.trip_builder.specs.Trips.{longest_wait}
use Rattle.trip_builder.specs.Best.{IsTrip}

-- the station's times go from the one moment or earlier to the other or later; where there are none for it, nothing is
-- left out
abbrev pub Hold : List Times → ℕ → ℕ → ℕ → Type 0
Hold times station from to =
    (none : Times) → station < length times → ((slice_index_or times station none).from ≤ from)
    × (to ≤ (slice_index_or times station none).to)

-- what leaves at this stop may be taken
abbrev pub HoldTrain : List Times → Stop → Type 0
HoldTrain times stop = Hold times stop.station.0 stop.depart stop.depart

-- who gets off at this stop may wait there for the longest
abbrev pub HoldWait : List Times → Stop → Type 0
HoldWait times off = Hold times off.station.0 off.arrive (off.arrive + longest_wait)

-- none got shorter
abbrev pub AreStretched : List Times → List Times → Type 0
AreStretched old new = (station from to : ℕ) → Hold old station from to → Hold new station from to

-- who takes the run by the times before may get off at each later stop by those after it
abbrev pub IsRidden : RunsView → List Times → List Times → ℕ → Type 0
IsRidden r before after run =
    (j k : ℕ) → j < k → k < length (stops_of r run) → HoldTrain before (stop_at (stops_of r run) j)
    → HoldWait after (stop_at (stops_of r run) k)

-- each trip's train that comes after that many at most may be taken
abbrev pub AreReached : RunsView → TripWish → ℕ → List Times → Type 0
AreReached r w trains times =
    (way : List Segment) (s : Segment) (rest : List Segment) → length way ≤ trains → IsTrip r w (way ++ s ∷ rest)
    → HoldTrain times (first_stop r s)

-- after one train at most, and after two
pub record IsNear (r : RunsView) (w : TripWish) (near : Near) : Type 0 where
  pub one : AreReached r w 1 near.one
  pub two : AreReached r w 2 near.two

-- a station that is marked stays so where a train may be taken there
abbrev pub StayMarked : List Times → List Bool → List Bool → Type 0
StayMarked times old new =
    (station at : ℕ) → Hold times station at at → slice_index_or old station true ≡ true
    → slice_index_or new station true ≡ true

-- Where the runs come to the destination, as far as they were looked up.
use Rattle.std.specs.Prelude.{◌≡◌, ◌<◌, ℕ, length, List, slice_index_or}
use Rattle.train_runs.specs.Stops.{stop_at, most_stops}
use Rattle.train_runs.specs.Runs.{RunsView, stops_of}
use Rattle.train_runs.specs.declared.wish.TripWish.{TripWish}
use Rattle.trip_builder.specs.declared.ends.Call.{Call}
use Rattle.trip_builder.specs.declared.ends.End.{End}
use Rattle.trip_builder.specs.declared.ends.End.TheVariants.{Unknown, Nowhere, At}

-- the stop of the run is at the destination
abbrev pub IsThere : RunsView → TripWish → ℕ → ℕ → Type 0
IsThere r w run stop = (stop_at (stops_of r run) stop).station.0 ≡ w.destination.0

-- the run comes to the destination at this stop alone, and arrives then
pub record IsCall (r : RunsView) (w : TripWish) (run : ℕ) (c : Call) : Type 0 where
  pub within : c.stop < length (stops_of r run)
  pub few : c.stop < most_stops
  pub there : IsThere r w run c.stop
  pub arrives : (stop_at (stops_of r run) c.stop).arrive ≡ c.arrive
  pub alone : (k : ℕ) → k < length (stops_of r run) → IsThere r w run k → k ≡ c.stop

-- what was looked up of the run
abbrev pub IsEnd : RunsView → TripWish → ℕ → End → Type 0
IsEnd r w run Unknown = ⊥
IsEnd r w run Nowhere = (k : ℕ) → k < length (stops_of r run) → ¬ IsThere r w run k
IsEnd r w run (At c) = IsCall r w run c

-- what is known of the run
abbrev pub IsEndSoFar : RunsView → TripWish → ℕ → End → Type 0
IsEndSoFar r w run Unknown = Unit {0}
IsEndSoFar r w run Nowhere = IsEnd r w run Nowhere
IsEndSoFar r w run (At c) = IsEnd r w run (At c)

abbrev pub AreEnds : RunsView → TripWish → List End → Type 0
AreEnds r w ends = (n : ℕ) (none : End) → n < length ends → IsEndSoFar r w n (slice_index_or ends n none)

use Rattle.std.proofs.Common.{◌≡◌, ℕ, ◌<◌, true, get_or}
use Rattle.train_runs.specs.Stops.{stop_at}
use Rattle.trip_builder.specs.Bounds.{KeepMarks, StayLastRides}
use Rattle.trip_builder.proofs.bounds.mark_run.Given as goal

abbrev pub invariant-loop-stop : goal.invariant-loop-stop
invariant-loop-stop l = record {
  rides : StayLastRides l.runs l.ranks l.fn.rides l.rides;
  kept : KeepMarks l.fn.rides.marks.items l.rides.marks.items;
  marked : (k : ℕ) → k < l.stop → get_or l.rides.marks.items (stop_at l.stops k).station.0 true ≡ true;
}

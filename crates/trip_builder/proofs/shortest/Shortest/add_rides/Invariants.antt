use Rattle.std.proofs.Common.{ℕ, ◌<◌}
use Rattle.train_runs.specs.Stops.{stop_at}
use Rattle.train_runs.specs.Runs.{stops_of}
use Rattle.trip_builder.specs.Shortest.{AreLowered, IsRide}
use Rattle.trip_builder.proofs.shortest.Shortest.add_rides.Given as goal

abbrev pub invariant-loop-from : goal.invariant-loop-from
invariant-loop-from l = record {
  lowered : AreLowered l.fn.self l.self;
  rides : (k : ℕ) → k < l.from → IsRide l.self (stop_at (stops_of l.runs l.fn.run.0) k).station.0 (stop_at (stops_of l.runs l.fn.run.0) k).depart (stop_at (stops_of l.runs l.fn.run.0) l.fn.to).arrive;
}

use Rattle.std.proofs.Common.{◌≡◌, ℕ, ◌<◌, ◌+◌, length}
use Rattle.train_runs.specs.Runs.{stops_of}
use Rattle.trip_builder.specs.Ends.{IsThere}
use Rattle.trip_builder.specs.Shortest.{AreLowered, AreRidesTo}
use Rattle.trip_builder.proofs.shortest.Shortest.add_last_stops.Given as goal

abbrev pub invariant-loop-run : goal.invariant-loop-run
invariant-loop-run l = record {
  lowered : AreLowered l.fn.self l.self;
  rides : (run : ℕ) → run < l.run → (to : ℕ) → to + 1 ≡ length (stops_of l.runs run) → IsThere l.runs l.wish run to → AreRidesTo l.runs run to l.self;
}

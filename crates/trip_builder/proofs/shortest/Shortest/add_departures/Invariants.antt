use Rattle.std.proofs.Common.{ℕ, ◌<◌, get_or}
use Rattle.train_runs.specs.declared.departure.Departure.{Departure}
use Rattle.trip_builder.specs.Shortest.{AreRidesTo}
use Rattle.trip_builder.proofs.shortest.Shortest.add_departures.Given as goal

abbrev pub invariant-loop-departure : goal.invariant-loop-departure
invariant-loop-departure l = (k : ℕ) (none : Departure) → k < l.departure-index → AreRidesTo l.runs (get_or l.departures k none).run.0 (get_or l.departures k none).stop l.self

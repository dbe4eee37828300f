use Rattle.std.proofs.Common.{ℕ, ◌<◌, ◌+◌, ◌*◌, get_or}
use Rattle.train_runs.specs.declared.departure.Departure.{Departure}
use Rattle.trip_builder.specs.Segments.{segment}
use Rattle.trip_builder.specs.Search.{Grows, AreDecidedWith}
use Rattle.trip_builder.specs.Keeping.{IsSearch}
use Rattle.trip_builder.proofs.search.+search.Given as goal

abbrev pub decreases-go_on : goal.decreases-go_on
decreases-go_on l = 2 * l.changes + 1

abbrev pub decreases-ride : goal.decreases-ride
decreases-ride l = 2 * l.changes

abbrev pub invariant-go_on-loop-departure : goal.invariant-go_on-loop-departure
invariant-go_on-loop-departure l = record {
  grows : Grows l.runs l.wish l.fn.found.best.trips.items l.found.best.trips.items;
  search : IsSearch l.runs l.wish l.found;
  tried : (k : ℕ) → k < l.departure-index → (none : Departure) (to : ℕ)
      → AreDecidedWith l.runs l.wish l.found.best.trips.items l.way l.changes (segment (get_or l.departure-items k none).run.0 (get_or l.departure-items k none).stop to);
}

abbrev pub invariant-ride-loop-to : goal.invariant-ride-loop-to
invariant-ride-loop-to l = record {
  grows : Grows l.runs l.wish l.fn.found.best.trips.items l.found.best.trips.items;
  search : IsSearch l.runs l.wish l.found;
  tried : (k : ℕ) → k < l.to → AreDecidedWith l.runs l.wish l.found.best.trips.items l.way l.changes (segment l.departure.run.0 l.departure.stop k);
}

use Rattle.std.proofs.Common.{◌+◌, ◌*◌}
use Rattle.trip_builder.specs.Search.{Grows}
use Rattle.trip_builder.specs.Keeping.{IsSearch}
use Rattle.trip_builder.proofs.ahead.+ahead.Given as goal

abbrev pub decreases-take : goal.decreases-take
decreases-take l = 3 * l.changes + 2

abbrev pub decreases-reach : goal.decreases-reach
decreases-reach l = 3 * l.trains + 1

abbrev pub decreases-change : goal.decreases-change
decreases-change l = 3 * l.trains

abbrev pub invariant-take-loop-to : goal.invariant-take-loop-to
invariant-take-loop-to l = record {
  search : IsSearch l.runs l.wish l.found;
  grows : Grows l.runs l.wish l.fn.found.best.trips.items l.found.best.trips.items;
}

abbrev pub invariant-change-trains : goal.invariant-change-trains
invariant-change-trains l = record {
  search : IsSearch l.runs l.wish l.found;
  grows : Grows l.runs l.wish l.fn.found.best.trips.items l.found.best.trips.items;
}

abbrev pub decreases-change-trains : goal.decreases-change-trains
decreases-change-trains l = l.left

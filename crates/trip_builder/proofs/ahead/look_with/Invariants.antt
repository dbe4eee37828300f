use Rattle.trip_builder.specs.Search.{Grows}
use Rattle.trip_builder.specs.Keeping.{IsSearch}
use Rattle.trip_builder.proofs.ahead.look_with.Given as goal

abbrev pub invariant-loop-departure : goal.invariant-loop-departure
invariant-loop-departure l = record {
  search : IsSearch l.runs l.wish l.found;
  grows : Grows l.runs l.wish l.fn.found.best.trips.items l.found.best.trips.items;
}

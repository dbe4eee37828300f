use Rattle.trip_builder.specs.Search.{Grows}
use Rattle.trip_builder.specs.Keeping.{IsSearch}
use Rattle.trip_builder.proofs.ahead.look_at.Given as goal

abbrev pub invariant-loop-changes : goal.invariant-loop-changes
invariant-loop-changes l = record {
  search : IsSearch l.runs l.wish l.found;
  grows : Grows l.runs l.wish l.fn.found.best.trips.items l.found.best.trips.items;
}

use Rattle.std.proofs.Common.{◌-◌}
use Rattle.trip_builder.specs.Bounds.{never}
use Rattle.trip_builder.specs.Search.{Grows}
use Rattle.trip_builder.specs.Keeping.{IsSearch}
use Rattle.trip_builder.proofs.ahead.look_ahead.Given as goal

abbrev pub invariant-ceilings : goal.invariant-ceilings
invariant-ceilings l = record {
  search : IsSearch l.runs l.wish l.found;
  grows : Grows l.runs l.wish l.fn.found.best.trips.items l.found.best.trips.items;
}

abbrev pub decreases-ceilings : goal.decreases-ceilings
decreases-ceilings l = never - l.ceiling

use Rattle.std.proofs.Common.{◌≤◌, length}
use Rattle.trip_builder.specs.Search.{Grows}
use Rattle.trip_builder.specs.Keeping.{IsSearch}
use Rattle.trip_builder.proofs.ahead.look_until.Given as goal

abbrev pub invariant-groups : goal.invariant-groups
invariant-groups l = record {
  within : l.end ≤ length l.departures;
  search : IsSearch l.runs l.wish l.found;
  grows : Grows l.runs l.wish l.fn.found.best.trips.items l.found.best.trips.items;
}

abbrev pub decreases-groups : goal.decreases-groups
decreases-groups l = l.end

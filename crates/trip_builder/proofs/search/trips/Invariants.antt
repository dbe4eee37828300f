use Rattle.std.proofs.Common.{ℕ, ◌<◌, []}
use Rattle.trip_builder.specs.Search.{AreDecided}
use Rattle.trip_builder.specs.Keeping.{IsSearch}
use Rattle.trip_builder.proofs.search.trips.Given as goal

abbrev pub invariant-loop-changes : goal.invariant-loop-changes
invariant-loop-changes l = record {
  search : IsSearch l.runs l.wish l.found;
  decided : (n : ℕ) → n < l.changes → AreDecided l.runs l.wish l.found.best.trips.items [] n;
}

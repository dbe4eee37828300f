use Rattle.std.proofs.Common.{◌≡◌, length}
use Rattle.trip_builder.specs.Bounds.{AreRanks, AreBounds}
use Rattle.trip_builder.proofs.bounds.Bounds.add_levels.Given as goal

abbrev pub invariant-loop-changes : goal.invariant-loop-changes
invariant-loop-changes l = record {
  count : length l.self.levels ≡ l.changes;
  ranks : AreRanks l.runs l.wish l.self.ranks;
  are : AreBounds l.runs l.wish l.self;
}

use Rattle.std.proofs.Common.{ℕ, ◌<◌}
use Rattle.trip_builder.specs.Bounds.{IsPlacedRun}
use Rattle.trip_builder.specs.Ends.{AreEnds}
use Rattle.trip_builder.proofs.ranks.Ranks.are_right.Given as goal

abbrev pub invariant-loop-run : goal.invariant-loop-run
invariant-loop-run l = record {
  ends : AreEnds l.runs l.wish l.ends;
  placed : (run : ℕ) → run < l.run → IsPlacedRun l.runs l.wish l.self run;
}

use Rattle.trip_builder.specs.Ends.{AreEnds}
use Rattle.trip_builder.proofs.ranks.arrivals_of.Given as goal

abbrev pub invariant-loop-run : goal.invariant-loop-run
invariant-loop-run l = AreEnds l.runs l.wish l.ends

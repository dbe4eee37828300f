use Rattle.trip_builder.proofs.Resting.{IsSettling}
use Rattle.trip_builder.proofs.rests.settle.Given as goal

abbrev pub invariant-loop-back : goal.invariant-loop-back
invariant-loop-back l = IsSettling l.fn.rests l.rests l.back l.next

use Rattle.trip_builder.specs.Reached.{StayMarked}
use Rattle.trip_builder.proofs.rides.unmark_far.Given as goal

abbrev pub invariant-loop-station : goal.invariant-loop-station
invariant-loop-station l = StayMarked l.reached l.fn.marks l.marks

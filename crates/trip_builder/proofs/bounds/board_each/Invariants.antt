use Rattle.trip_builder.specs.Bounds.{StayRides}
use Rattle.trip_builder.proofs.bounds.board_each.Given as goal

abbrev pub invariant-loop-departure : goal.invariant-loop-departure
invariant-loop-departure l = StayRides l.runs l.ranks l.reach l.fn.rides l.rides

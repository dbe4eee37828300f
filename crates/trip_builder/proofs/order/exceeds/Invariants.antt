use Rattle.std.proofs.Common.{◌≡◌, drop}
use Rattle.trip_builder.specs.Order.{exceeds}
use Rattle.trip_builder.proofs.order.exceeds.Given as goal

abbrev pub invariant-loop-n : goal.invariant-loop-n
invariant-loop-n l = exceeds (drop l.n l.begun) (drop l.n l.trip) ≡ exceeds l.begun l.trip

use Rattle.std.proofs.Common.{◌≡◌, drop}
use Rattle.trip_builder.specs.Order.{are_lower}
use Rattle.trip_builder.proofs.order.are_lower.Given as goal

abbrev pub invariant-loop-n : goal.invariant-loop-n
invariant-loop-n l = are_lower (drop l.n l.a) (drop l.n l.b) ≡ are_lower l.a l.b

use Rattle.std.proofs.Common.{◌≡◌, ◌∙◌, sym, arith, length}
use Rattle.trip_builder.proofs.Ordering.{exceeds_end}
use Rattle.trip_builder.proofs.order.exceeds.Goals as goal

pub returns : goal.returns
returns c =
    let e : length c.args.begun.now ≡ c.loop-n.n = omega arith in
    sym (exceeds_end c.args.begun.now c.args.trip.now c.loop-n.n e) ∙ c.loop-n.invariant

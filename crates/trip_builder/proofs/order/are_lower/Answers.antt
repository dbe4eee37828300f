use Rattle.std.proofs.Common.{◌≡◌, ◌∙◌, sym, arith, length}
use Rattle.trip_builder.proofs.Ordering.{lower_end}
use Rattle.trip_builder.proofs.order.are_lower.Goals as goal

pub returns : goal.returns
returns c =
    let e : length c.args.a.now ≡ c.loop-n.n = omega arith in
    sym (lower_end c.args.a.now c.args.b.now c.loop-n.n e) ∙ c.loop-n.invariant

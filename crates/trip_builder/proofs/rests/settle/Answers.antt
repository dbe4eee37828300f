use Rattle.std.proofs.Common.{◌-◌, arith, length}
use Rattle.trip_builder.proofs.Resting.{settling_none, settling_on, settling_all}
use Rattle.trip_builder.proofs.rests.settle.Goals as goal

pub loop-back-init : goal.loop-back-init
loop-back-init c = settling_none c.args.rests.now _

pub loop-back-preserved : goal.loop-back-preserved
loop-back-preserved c =
    let first = c.args.rests.now in
    let back = c.loop-back.back in
    settling_on first c.loop-back.rests back (length first - 1 - back) c.loop-back.next c.join-next.result c.loop-back-test.true (omega arith) c.join-next.ensures.left c.join-next.ensures.right c.loop-back.invariant

pub returns : goal.returns
returns c = settling_all c.args.rests.now c.loop-back.rests c.loop-back.back c.loop-back.next c.loop-back-test.false c.loop-back.invariant

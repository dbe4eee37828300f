use Rattle.std.proofs.Common.{arith}
use Rattle.trip_builder.proofs.Resting.{kept_by_set, told_set}
use Rattle.trip_builder.proofs.rests.put.Goals as goal

pub returns-then-count-gt0-clause-kept : goal.returns-then-count-gt0-clause-kept
returns-then-count-gt0-clause-kept c =
    let some = c.if-count-gt0.true in
    let at = c.min-place.ensures in
    kept_by_set c.args.rests.now c.min-place.result c.args.two (omega (arith, some, at))

pub returns-then-count-gt0-clause-told : goal.returns-then-count-gt0-clause-told
returns-then-count-gt0-clause-told c =
    let some = c.if-count-gt0.true in
    let at = c.min-place.ensures in
    λ rank has. told_set c.args.rests.now c.min-place.result c.args.part c.args.two rank (omega (arith, some, at)) at has

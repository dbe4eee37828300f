use Rattle.std.proofs.Common.{arith}
use Rattle.trip_builder.proofs.Ways.{each_known}
use Rattle.trip_builder.proofs.ahead.are_known.Goals as goal

pub returns : goal.returns
returns c =
    let ended = c.loop-segment-test.false in
    λ e. each_known c.args.runs.now c.args.way.now (λ k h none. c.loop-segment.invariant k (omega (arith, h, ended)) none)

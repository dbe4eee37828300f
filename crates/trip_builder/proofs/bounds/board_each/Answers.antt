use Rattle.std.proofs.Common.{◌+◌}
use Rattle.trip_builder.proofs.bounds.board_each.Goals as goal

pub loop-departure-preserved : goal.loop-departure-preserved
loop-departure-preserved c =
    λ w changes reach are.
    c.put.ensures.rides c.args.runs.now w c.args.ranks.now (changes + 1) (c.loop-departure.invariant w changes reach are) (c.firsts_after-firsts.ensures w changes reach)

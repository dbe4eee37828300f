use Rattle.std.proofs.Common.{arith}
use Rattle.rail_io.proofs.Transfers.{both_told}
use Rattle.rail_io.proofs.standard.WriterSinkSink.write_both.Goals as goal

pub returns-in-Took-write-2-clause-hands_on : goal.returns-in-Took-write-2-clause-hands_on
returns-in-Took-write-2-clause-hands_on g c =
    both_told _ _ _ c.args.first.now c.args.second.now c.in-Took-write.count c.in-Took-write-2.more
    c.in-Took-write.ensures.hands_on c.in-Took-write-2.ensures.hands_on (omega (arith, c.if-count-first.false))

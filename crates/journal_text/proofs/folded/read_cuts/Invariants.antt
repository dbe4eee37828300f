use Rattle.std.proofs.Common.{length}
use Rattle.journal_text.proofs.CutsRead.{AreRead}
use Rattle.journal_text.proofs.folded.read_cuts.Given as goal

abbrev pub invariant-loop-cut : goal.invariant-loop-cut
invariant-loop-cut l = AreRead (length l.fn.lasts) l.fn.first.digits l.fn.reader.rest.now l.reader.rest.now l.lasts l.cuts.count l.cuts.sum.digits

abbrev pub decreases-loop-cut : goal.decreases-loop-cut
decreases-loop-cut l = length l.reader.rest.now

use Rattle.std.proofs.Common.{length}
use Rattle.journal_text.proofs.Scanned.{IsScanned}
use Rattle.journal_text.proofs.cut.holds_cut.Given as goal

abbrev pub invariant-loop-reader : goal.invariant-loop-reader
invariant-loop-reader l = IsScanned l.text l.reader.rest.now

abbrev pub decreases-loop-reader : goal.decreases-loop-reader
decreases-loop-reader l = length l.reader.rest.now

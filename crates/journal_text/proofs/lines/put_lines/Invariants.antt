use Rattle.std.proofs.Common.{◌-◌}
use Rattle.journal_text.specs.Reads.{said_cut}
use Rattle.journal_text.proofs.Putting.{IsPut}
use Rattle.journal_text.proofs.lines.put_lines.Given as goal

abbrev pub invariant-loop-count : goal.invariant-loop-count
invariant-loop-count l = IsPut l.fn.lasts l.lasts (said_cut l.cut) l.reader.rest.now l.least l.count

abbrev pub decreases-loop-count : goal.decreases-loop-count
decreases-loop-count l = l.cut.count - l.count

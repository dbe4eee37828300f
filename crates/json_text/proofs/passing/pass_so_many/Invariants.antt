use Rattle.std.proofs.Common.{◌≡◌, ◌≤◌, length}
use Rattle.json_text.specs.Outlines.{behind_so_many}
use Rattle.json_text.proofs.passing.pass_so_many.Given as goal

abbrev pub invariant-loop-left : goal.invariant-loop-left
invariant-loop-left l = (behind_so_many l.depth l.count l.fn.reader ≡ behind_so_many l.depth l.left l.reader) × (length l.reader ≤ length l.fn.reader)

abbrev pub decreases-loop-left : goal.decreases-loop-left
decreases-loop-left l = l.left

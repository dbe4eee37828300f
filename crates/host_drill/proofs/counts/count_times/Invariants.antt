use Rattle.std.proofs.Common.{◌≡◌, ◌≤◌, ◌+◌, length}
use Rattle.host_drill.specs.Totals.{times}
use Rattle.host_drill.proofs.counts.count_times.Given as goal

abbrev pub invariant-loop-more : goal.invariant-loop-more
invariant-loop-more l = (l.count + times l.line l.rest ≡ times l.line l.text) × (l.count + length l.rest ≤ length l.text)

abbrev pub decreases-loop-more : goal.decreases-loop-more
decreases-loop-more l = length l.rest

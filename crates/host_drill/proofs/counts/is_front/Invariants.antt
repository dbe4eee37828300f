use Rattle.std.proofs.Common.{◌≡◌, length}
use Rattle.host_drill.specs.Totals.{begins}
use Rattle.host_drill.proofs.counts.is_front.Given as goal

abbrev pub invariant-loop-first : goal.invariant-loop-first
invariant-loop-first l = begins l.left l.rest ≡ begins l.front l.text

abbrev pub decreases-loop-first : goal.decreases-loop-first
decreases-loop-first l = length l.left

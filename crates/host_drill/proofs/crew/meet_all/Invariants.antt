use Rattle.std.proofs.Common.{length}
use Rattle.host_drill.proofs.Taking.{IsTaking}
use Rattle.host_drill.proofs.crew.meet_all.Given as goal

abbrev pub invariant-loop-connection : goal.invariant-loop-connection
invariant-loop-connection l = IsTaking l.books l.cat l.fn.said l.desk l.left.items l.answers.refused l.answers.busy

abbrev pub decreases-loop-connection : goal.decreases-loop-connection
decreases-loop-connection l = length l.left.items

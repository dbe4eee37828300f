use Rattle.std.proofs.Common.{length}
use Rattle.json_text.proofs.Outlined.{IsSoFar}
use Rattle.json_text.proofs.outline.outline_of_members.Given as goal

abbrev pub invariant-members : goal.invariant-members
invariant-members l = IsSoFar l.name l.fn.reader l.kept.items l.place l.count l.reader

abbrev pub decreases-members : goal.decreases-members
decreases-members l = length l.reader

use Rattle.std.proofs.Common.{◌≡◌}
use Rattle.rail_service.specs.Paths.{part}
use Rattle.rail_service.proofs.parts.part.Given as goal

abbrev pub invariant-loop-left : goal.invariant-loop-left
invariant-loop-left l = part l.left l.rest ≡ part l.number l.path

abbrev pub decreases-loop-left : goal.decreases-loop-left
decreases-loop-left l = l.left

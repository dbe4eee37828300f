use Rattle.std.proofs.Common.{◌≡◌, ◌+◌, ◌-◌, ◌≤◌, length, drop}
use Rattle.std.specs.List.{prefix_len}
use Rattle.std.specs.Prelude.{◌==◌, not}
use Rattle.rail_service.proofs.parts.before_slash.Given as goal

abbrev pub invariant-loop-end : goal.invariant-loop-end
invariant-loop-end l =
    (l.end ≤ length l.path)
    × (prefix_len (λ b. not (b == 47)) l.path ≡ l.end + prefix_len (λ b. not (b == 47)) (drop l.end l.path))

abbrev pub decreases-loop-end : goal.decreases-loop-end
decreases-loop-end l = length l.path - l.end

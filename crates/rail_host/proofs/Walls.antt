-- The wall of a drill.
use Rattle.std.proofs.Common.{◌≡◌, Option, Some, None, refl}
use Rattle.std.specs.Prelude.{option_map}
use Rattle.claim_rule.specs.Walls.{WallView}

-- it is the one that is handed on
pub same_wall : (wall : Option WallView) → option_map (λ w. w) wall ≡ wall
same_wall None = refl
same_wall (Some wall) = refl

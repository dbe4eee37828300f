use Rattle.std.proofs.Common.{[], refl}
use Rattle.leg_masks.proofs.HalfLegs.{pieces-whole}
use Rattle.hold_core.proofs.Blocks.{one_part}
use Rattle.hold_core.proofs.tries.try_place.Goals as goal

pub returns-then-is_piece-clause-tried : goal.returns-then-is_piece-clause-tried
returns-then-is_piece-clause-tried c =
    one_part c.args.desk.now c.try_piece.new.desk c.args.hold.now c.try_piece.new.hold c.args.place.0 c.args.span c.args.span [] c.try_piece.result
    (pieces-whole c.args.span (c.if-is_piece.ensures.piece.0 refl)) (λ _. refl) c.try_piece.ensures.tried

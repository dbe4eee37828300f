use Rattle.std.proofs.Common.{List, get_or, ap, ◌∙◌, sym}
use Rattle.leg_masks.specs.Interval.{Interval}
use Rattle.claim_rule.proofs.Out.{endings_then}
use Rattle.leg_masks.proofs.InPieces.{first_is, none_left, second_of}
use Rattle.hold_core.proofs.Blocks.{one_part, two_parts}
use Rattle.hold_core.proofs.tries.try_parts.Goals as goal

pub returns-then-len-eq1-clause-tried : goal.returns-then-len-eq1-clause-tried
returns-then-len-eq1-clause-tried c =
    let ps = c.pieces-parts.result.items in
    let x = c.index-deref-0.result in
    let f = first_is c.args.span x ps c.pieces-parts.ensures.value (c.index-deref-0.is ∙ ap (λ (l : List Interval). get_or l 0 x) c.deref.ensures.0) in
    one_part c.args.desk.now c.try_piece.new.desk c.args.hold.now c.try_piece.new.hold c.args.place.0 c.args.span x f.0 _ f.1
    (λ _. none_left c.args.span x f.0 ps c.pieces-parts.ensures.value f.1 (sym c.len.ensures.value ∙ c.if-len-eq1.true)) c.in-Won.ensures.tried

pub returns-else-len-eq1-clause-tried : goal.returns-else-len-eq1-clause-tried
returns-else-len-eq1-clause-tried c =
    let ps = c.pieces-parts.result.items in
    let x = c.index-deref-0.result in
    let y = c.index-deref-1.result in
    let f = first_is c.args.span x ps c.pieces-parts.ensures.value (c.index-deref-0.is ∙ ap (λ (l : List Interval). get_or l 0 x) c.deref.ensures.0) in
    let two = second_of c.args.span x y f.0 ps c.pieces-parts.ensures.value c.pieces-parts.ensures.each f.1 (λ e. c.if-len-eq1.false (c.len.ensures.value ∙ e))
    (c.index-deref-1.is ∙ ap (λ (l : List Interval). get_or l 1 y) c.deref-in-Won.ensures.0) in
    two_parts c.args.desk.now c.try_piece.new.desk c.try_second.new.desk c.args.hold.now c.try_piece.new.hold c.try_second.new.hold c.args.place.0 c.args.span x y c.try_second.result two.are c.in-Won.ensures.tried c.try_second.ensures.tried

pub returns-else-len-eq1-clause-endings : goal.returns-else-len-eq1-clause-endings
returns-else-len-eq1-clause-endings c = endings_then c.args.desk.now c.try_piece.new.desk c.try_second.new.desk c.in-Won.ensures.endings c.try_second.ensures.endings

pub returns-in-Refused-clause-tried : goal.returns-in-Refused-clause-tried
returns-in-Refused-clause-tried c =
    let ps = c.pieces-parts.result.items in
    let x = c.index-deref-0.result in
    let f = first_is c.args.span x ps c.pieces-parts.ensures.value (c.index-deref-0.is ∙ ap (λ (l : List Interval). get_or l 0 x) c.deref.ensures.0) in
    one_part c.args.desk.now c.try_piece.new.desk c.args.hold.now c.try_piece.new.hold c.args.place.0 c.args.span x f.0 _ f.1 (λ e. cc) c.in-Refused.ensures.tried

pub returns-in-Contended-clause-tried : goal.returns-in-Contended-clause-tried
returns-in-Contended-clause-tried c =
    let ps = c.pieces-parts.result.items in
    let x = c.index-deref-0.result in
    let f = first_is c.args.span x ps c.pieces-parts.ensures.value (c.index-deref-0.is ∙ ap (λ (l : List Interval). get_or l 0 x) c.deref.ensures.0) in
    one_part c.args.desk.now c.try_piece.new.desk c.args.hold.now c.try_piece.new.hold c.args.place.0 c.args.span x f.0 _ f.1 (λ e. cc) c.in-Contended.ensures.tried

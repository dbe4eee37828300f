use Rattle.std.proofs.Common.{List, ◌∷◌, get_or, ap, ◌∙◌, sym}
use Rattle.leg_masks.specs.Interval.{Interval}
use Rattle.leg_masks.proofs.InPieces.{first_is, none_left, second_of}
use Rattle.availability.proofs.looks.parts_of.Goals as goal

pub returns-then-len-eq1-clause-parts : goal.returns-then-len-eq1-clause-parts
returns-then-len-eq1-clause-parts c =
    let ps = c.pieces-parts.result.items in
    let x = c.index-deref-0.result in
    let f = first_is c.args.span x ps c.pieces-parts.ensures.value (c.index-deref-0.is ∙ ap (λ (l : List Interval). get_or l 0 x) c.deref.ensures.0) in
    f.1 ∙ ap (λ (l : List Interval). x ∷ l) (none_left c.args.span x f.0 ps c.pieces-parts.ensures.value f.1 (sym c.len.ensures.value ∙ c.if-len-eq1.true))

pub returns-clause-parts : goal.returns-clause-parts
returns-clause-parts c =
    let ps = c.pieces-parts.result.items in
    let x = c.index-deref-0.result in
    let y = c.index-deref-1.result in
    let f = first_is c.args.span x ps c.pieces-parts.ensures.value (c.index-deref-0.is ∙ ap (λ (l : List Interval). get_or l 0 x) c.deref.ensures.0) in
    let two = second_of c.args.span x y f.0 ps c.pieces-parts.ensures.value c.pieces-parts.ensures.each f.1 (λ e. c.if-len-eq1.false (c.len.ensures.value ∙ e))
    (c.index-deref-1.is ∙ ap (λ (l : List Interval). get_or l 1 y) c.deref-2.ensures.0) in
    two.are

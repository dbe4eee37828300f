use Rattle.std.proofs.Common.{ℕ, bit_and, w64, sym, subst}
use Rattle.leg_masks.specs.Interval.{PlacedSpan as Item, half_of, mask}
use Rattle.std.specs.Int.{bit_not}
use Rattle.claim_rule.specs.Rule.{Steps}
use Rattle.claim_rule.proofs.Moves.{gives}
use Rattle.claim_rule.proofs.books.Books.undo_at.Goals as goal
use Rattle.history_model.specs.declared.entry.Step.TheVariants.{Give}
use Rattle.history_model.specs.declared.word.Word.TheVariants.{Place}

pub and_as-requires-clause-step : goal.and_as-requires-clause-step
and_as-requires-clause-step c =
    let lay = c.args.self.now.layout in
    let v = c.args.seat.now.me.0 in
    let mask_is = c.mask_of-kept.ensures.value in
    let half_is = c.half_of.ensures.value in
    subst (λ (x : ℕ × ℕ). Steps lay v (Place c.item.inside.place x.1) (λ n. bit_and n (bit_not w64 x.0)) (λ _. Give c.args.row c.args.left)) (λ k. (sym mask_is k, sym half_is k))
    (subst (λ (x : Item). Steps lay v (Place x.place (half_of x.span)) (λ n. bit_and n (bit_not w64 (mask x.span))) (λ _. Give c.args.row c.args.left)) (sym c.item.view_is)
    (gives lay c.args.seat.now c.args.row c.args.left c.args.item c.requires.row))

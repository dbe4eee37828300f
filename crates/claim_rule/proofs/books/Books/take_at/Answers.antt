use Rattle.std.proofs.Common.{ℕ, ◌==◌, bit_or, sym, subst}
use Rattle.leg_masks.specs.Interval.{PlacedSpan as Item, half_of, mask}
use prog.Atomic.{either}
use Rattle.claim_rule.specs.Rule.{Steps}
use Rattle.claim_rule.specs.Seats.{either_step}
use Rattle.claim_rule.proofs.Moves.{takes}
use Rattle.claim_rule.proofs.books.Books.take_at.Goals as goal
use Rattle.history_model.specs.declared.entry.Step.TheVariants.{Take}
use Rattle.history_model.specs.declared.word.Word.TheVariants.{Place}

pub exchange_as-requires-clause-step : goal.exchange_as-requires-clause-step
exchange_as-requires-clause-step c =
    let lay = c.args.self.now.layout in
    let v = c.args.seat.now.me.0 in
    let r = c.args.row in
    let old = c.args.expected in
    let inside = c.item.inside in
    let mask_is = c.mask_of.ensures.value in
    let half_is = c.half_of.ensures.value in
    subst (λ (x : ℕ × ℕ). Steps lay v (Place inside.place x.1) (λ n. either (n == old) (bit_or old x.0) n) (either_step old (Take r inside.place inside.span) (Place inside.place x.1))) (λ k. (sym mask_is k, sym half_is k))
    (subst (λ (x : Item). Steps lay v (Place x.place (half_of x.span)) (λ n. either (n == old) (bit_or old (mask x.span)) n) (either_step old (Take r x.place x.span) (Place x.place (half_of x.span)))) (sym c.item.view_is)
    (takes lay c.args.seat.now r c.args.item.now old c.requires.row c.requires.item c.requires.free))

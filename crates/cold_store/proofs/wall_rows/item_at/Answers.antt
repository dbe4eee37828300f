use Rattle.std.proofs.Common.{◌≡◌, ◌∙◌, Option, Some, IsSomeAnd, arith, ap, subst, sym}
use Rattle.std.specs.Prelude.{map, slice_get}
use Rattle.leg_masks.specs.Interval.{IsItemOf}
use Rattle.leg_masks.specs.Interval.{PlacedSpan as Item}
use Rattle.history_model.specs.Booking.{Booking}
use Rattle.claim_rule.specs.Openings.{placed}
use Rattle.cold_store.proofs.WallRows.{get_placed, item_there}
use Rattle.cold_store.proofs.wall_rows.item_at.Goals as goal

pub overflow_add-item : goal.overflow_add-item
overflow_add-item c =
    let x = item_there c.args.wall.now c.args.row c.args.item c.requires.closed c.requires.item in
    omega (arith, x.2.few)

pub word_at-requires-clause-row : goal.word_at-requires-clause-row
word_at-requires-clause-row c =
    let x = item_there c.args.wall.now c.args.row c.args.item c.requires.closed c.requires.item in
    (c.requires.row, x.2.few)

pub unreachable-requires : goal.unreachable-requires
unreachable-requires c =
    let x = item_there c.args.wall.now c.args.row c.args.item c.requires.closed c.requires.item in
    c.in-None.ensures.none x.1.place x.1.span (subst (IsItemOf x.1.place x.1.span) (sym c.word_at.ensures) x.2.word)

pub returns : goal.returns
returns c =
    let x = item_there c.args.wall.now c.args.row c.args.item c.requires.closed c.requires.item in
    let same = c.in-Some.ensures.only x.1.place x.1.span (subst (IsItemOf x.1.place x.1.span) (sym c.word_at.ensures) x.2.word) in
    let read : Item = record { place = c.in-Some.item.place; span = c.in-Some.item.span } in
    let it : placed x.1 ≡ read = λ j. record { place = same.0 j; span = same.1 j } in
    subst (λ (o : Option Booking). IsSomeAnd o (λ b. slice_get (map placed b.items) c.args.item ≡ Some read)) (sym x.2.at)
    (get_placed x.0.items c.args.item x.1 x.2.is ∙ ap (λ (i : Item). Some i) it)

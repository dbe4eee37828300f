use Rattle.std.proofs.Common.{◌≡◌, ◌<◌, ◌≤◌, ◌+◌, ℕ, min, List, [], ◌∷◌, length-append, length, ap, ◌∙◌, subst, sym, arith, All}
use Rattle.std.specs.List.{AllByRecursion}
use Rattle.leg_masks.specs.Interval.{most_places, most_legs}
use Rattle.history_model.specs.Booking.{Layout, most_items, row_words}
use Rattle.history_model.specs.declared.entry.Step.TheVariants.{SawRow}
use Rattle.claim_rule.specs.Desks.{AddsSteps}
use Rattle.claim_rule.proofs.Shapes.{step_shape, shape_none}
use Rattle.booking_rows.specs.SealedRows.{IsItemWord, IsStillPresent}
use Rattle.booking_rows.specs.Views.{word_looks}
use Rattle.booking_rows.proofs.ViewLemmas.{shows_item, items_on, sealed_on, still_before, one_more, words_on}
use Rattle.booking_rows.proofs.views.read_item_words.Goals as goal

below : (i n count : ℕ) → i < n → n ≡ min count most_items → (i < count) × (i < most_items)
below i n count l e = (omega (arith, l, e), omega (arith, l, e))

small_word : (i : ℕ) → i < most_items → 8 + i < row_words
small_word i l = omega arith

small_byte : (i : ℕ) → i < most_items → 8 + i < 256
small_byte i l = omega arith

pub loop-i-init : goal.loop-i-init
loop-i-init c =
    let none = c.new-items.ensures in
    let desk = c.args.desk.now in record {
      own = c.requires.own;
      sealed = c.requires.sealed;
      counted = c.requires.count;
      many = ap length none;
      kept = λ i. desk.kept;
      words = λ _. subst (AllByRecursion IsItemWord) (sym none) tt;
      seen = subst (λ (l : List ℕ). AddsSteps desk desk (word_looks c.args.row.row 8 l)) (sym none) (shape_none desk c.requires.own.legal);
    }

pub overflow_add-i : goal.overflow_add-i
overflow_add-i c = record { fits = small_byte c.loop-i.i (below c.loop-i.i c.at_most_items-i-end.result c.args.count c.loop-i-test.true c.at_most_items-i-end.ensures.least).1 }

pub step_read-requires-clause-row : goal.step_read-requires-clause-row
step_read-requires-clause-row c = (c.requires.row, small_word c.loop-i.i (below c.loop-i.i c.at_most_items-i-end.result c.args.count c.loop-i-test.true c.at_most_items-i-end.ensures.least).1)

pub push-requires : goal.push-requires
push-requires c =
    (omega arith, subst (λ (n : ℕ). n < most_items) (sym c.loop-i.invariant.many) (below c.loop-i.i c.at_most_items-i-end.result c.args.count c.loop-i-test.true c.at_most_items-i-end.ensures.least).1)

pub loop-i-preserved : goal.loop-i-preserved
loop-i-preserved c =
    let v = c.step_read.result in
    let k = c.loop-i.i in
    let row = c.args.row in
    let old = c.loop-i.desk in
    let new = c.step_read.new.desk in
    let is = c.loop-i.items.items in
    let so = c.loop-i.invariant in
    let look = c.step_read.ensures.look in
    let shape = step_shape (SawRow row.row (8 + k) v) old new look in
    let low = (below k c.at_most_items-i-end.result c.args.count c.loop-i-test.true c.at_most_items-i-end.ensures.least).0 in
    let lay = sym c.step_read.ensures.own.layout in
    let before : IsStillPresent new row → IsStillPresent old row = still_before old new (SawRow row.row (8 + k) v ∷ []) row shape so.sealed in
    let pushed = c.push.ensures.items in record {
      own = c.step_read.ensures.own;
      sealed = sealed_on old new (SawRow row.row (8 + k) v ∷ []) row shape so.sealed;
      counted = λ now. items_on old new (SawRow row.row (8 + k) v ∷ []) row c.args.count shape (so.counted (before now));
      many = ap length pushed ∙ (length-append is (v ∷ []) ∙ ap (λ (n : ℕ). n + 1) so.many);
      kept = look.same.5 ∙ so.kept;
      words = λ now. subst (AllByRecursion IsItemWord) (sym pushed) (words_on IsItemWord is v (so.words (before now))
          (shows_item row v k c.args.count old new
          (subst (λ (l : Layout). length l.legs ≤ most_places) lay c.requires.fit.places)
          (subst (λ (l : Layout). All (λ n. n ≤ most_legs) l.legs) lay c.requires.fit.legs)
          look so.sealed (so.counted (before now)) now low));
      seen = subst (λ (l : List ℕ). AddsSteps c.args.desk.now new (word_looks row.row 8 l)) (sym pushed) (one_more c.args.desk.now old new row.row v k is so.many so.seen look);
    }

-- the loop ended
at_end : (n i many count : ℕ) → n ≡ i → i ≤ many → many ≤ i → many ≡ min count most_items → n ≡ min count most_items
at_end n i many count a l m b = omega (arith, a, l, m, b)

pub returns-clause-many : goal.returns-clause-many
returns-clause-many c =
    at_end (length c.loop-i.items.items) c.loop-i.i c.at_most_items-i-end.result c.args.count c.loop-i.invariant.many c.loop-i.auto.i-end c.loop-i-test.false c.at_most_items-i-end.ensures.least

use Rattle.std.proofs.Common.{◌<◌, ◌≤◌, ◌+◌, ℕ, ◌≡◌, List, [], ◌∷◌, ◌++◌, length-append, length, All, ap, ◌∙◌, subst, sym, arith}
use Rattle.leg_masks.specs.Interval.{most_legs, most_places}
use Rattle.leg_masks.specs.Interval.{PlacedSpan as Item}
use Rattle.history_model.specs.Booking.{Layout, most_items, row_words}
use Rattle.history_model.specs.declared.entry.Step.TheVariants.{SawRow}
use Rattle.claim_rule.specs.Rule.{BooksView}
use Rattle.claim_rule.specs.Desks.{Stepped, AddsSteps}
use Rattle.claim_rule.specs.Endings.{EndingView, item_looks}
use Rattle.claim_rule.proofs.Shapes.{step_shape}
use Rattle.claim_rule.proofs.Reading.{ReadSoFar, read_count, read_none, read_more, items_fit, shown_item, seen_more}
use Rattle.claim_rule.proofs.books.Books.read_items.Goals as goal

small : (v : ℕ) → v ≤ most_items → v < 256
small v l = omega arith

below_word : (i n : ℕ) → i < n → n ≤ most_items → 8 + i < row_words
below_word i n l m = omega arith

below_byte : (i n : ℕ) → i < n → n ≤ most_items → 8 + i < 256
below_byte i n l m = omega arith

below_items : (i n : ℕ) → i < n → n ≤ most_items → i < most_items
below_items i n l m = omega arith

pub overflow_cast-count : goal.overflow_cast-count
overflow_cast-count c = let look = subst (λ (r : ℕ). Stepped (SawRow r 4 c.step_read-count.result) c.args.desk.now c.step_read-count.new.desk) (ap (λ (e : EndingView). e.row.row) c.ending.view_is) c.step_read-count.ensures.look in
    record { fits = small c.step_read-count.result (read_count c.step_read-count.result c.args.desk.now c.step_read-count.new.desk c.args.ending.now look c.requires.ending).2 }

pub loop-i-init : goal.loop-i-init
loop-i-init c =
    let v = c.step_read-count.result in
    let e = c.args.ending.now in
    let new = c.step_read-count.new.desk in
    let look = subst (λ (r : ℕ). Stepped (SawRow r 4 v) c.args.desk.now new) (ap (λ (e : EndingView). e.row.row) c.ending.view_is) c.step_read-count.ensures.look in
    let most = subst (λ (l : Layout). All (λ n. n ≤ most_legs) l.legs) (ap (λ (b : BooksView). b.layout) c.self.view_is ∙ sym c.requires.own.layout) c.self.invariant.6 in
    let none = c.new-items.ensures in record {
      own = c.step_read-count.ensures.own;
      so_far = subst (ReadSoFar new e v 0) (sym none) (read_none v c.args.desk.now new e look c.requires.ending (items_fit c.args.desk.now e c.requires.own.legal most c.requires.ending));
      kept = look.same.5;
      few = subst (λ (l : List Item). length l ≤ most_items) (sym none) (omega arith);
      seen = subst (λ (l : List Item). AddsSteps c.args.desk.now new (SawRow e.row.row 4 v ∷ item_looks e.row.row 8 l)) (sym none) (step_shape (SawRow e.row.row 4 v) c.args.desk.now new look);
    }

pub overflow_add-i : goal.overflow_add-i
overflow_add-i c = let look = subst (λ (r : ℕ). Stepped (SawRow r 4 c.step_read-count.result) c.args.desk.now c.step_read-count.new.desk) (ap (λ (e : EndingView). e.row.row) c.ending.view_is) c.step_read-count.ensures.look in
    record { fits = below_byte c.loop-i.i c.step_read-count.result c.loop-i-test.true (read_count c.step_read-count.result c.args.desk.now c.step_read-count.new.desk c.args.ending.now look c.requires.ending).2 }

pub step_read-word-requires-clause-row : goal.step_read-word-requires-clause-row
step_read-word-requires-clause-row c = let look = subst (λ (r : ℕ). Stepped (SawRow r 4 c.step_read-count.result) c.args.desk.now c.step_read-count.new.desk) (ap (λ (e : EndingView). e.row.row) c.ending.view_is) c.step_read-count.ensures.look in (
  subst (λ (x : ℕ × Layout). x.0 < x.1.rows) (λ i. (sym (ap (λ (e : EndingView). e.row.row) c.ending.view_is) i, c.requires.own.layout i)) c.requires.ending.row,
  below_word c.loop-i.i c.step_read-count.result c.loop-i-test.true (read_count c.step_read-count.result c.args.desk.now c.step_read-count.new.desk c.args.ending.now look c.requires.ending).2,
)

pub item_of-requires : goal.item_of-requires
item_of-requires c =
    let v = c.step_read-word.result in
    let new = c.step_read-word.new.desk in
    let look = subst (λ (r : ℕ). Stepped (SawRow r (8 + c.loop-i.i) v) c.loop-i.desk new) (ap (λ (e : EndingView). e.row.row) c.ending.view_is) c.step_read-word.ensures.look in
    let few = subst (λ (l : Layout). length l.legs ≤ most_places) (ap (λ (b : BooksView). b.layout) c.self.view_is ∙ sym c.step_read-word.ensures.own.layout) c.self.invariant.5 in
    record { item = shown_item v c.loop-i.i c.step_read-count.result c.loop-i.desk new c.args.ending.now c.loop-i.items.items few look c.requires.unread.0 c.loop-i.invariant.so_far c.loop-i-test.true }

pub push-requires : goal.push-requires
push-requires c = let look = subst (λ (r : ℕ). Stepped (SawRow r 4 c.step_read-count.result) c.args.desk.now c.step_read-count.new.desk) (ap (λ (e : EndingView). e.row.row) c.ending.view_is) c.step_read-count.ensures.look in
    (omega arith, subst (λ (n : ℕ). n < most_items) (sym c.loop-i.invariant.so_far.many) (below_items c.loop-i.i c.step_read-count.result c.loop-i-test.true (read_count c.step_read-count.result c.args.desk.now c.step_read-count.new.desk c.args.ending.now look c.requires.ending).2))

one_less : (is : List Item) (i : Item) (k n : ℕ) → length is ≡ k → k < n → n ≤ most_items → length (is ++ i ∷ []) ≤ most_items
one_less is i k n e l m = let a = length-append is (i ∷ []) in omega arith

pub loop-i-preserved : goal.loop-i-preserved
loop-i-preserved c =
    let v = c.step_read-word.result in
    let e = c.args.ending.now in
    let k = c.loop-i.i in
    let count = c.step_read-count.result in
    let old = c.loop-i.desk in
    let new = c.step_read-word.new.desk in
    let i = c.item_of.result in
    let so = c.loop-i.invariant.so_far in
    let look = subst (λ (r : ℕ). Stepped (SawRow r (8 + k) v) old new) (ap (λ (e : EndingView). e.row.row) c.ending.view_is) c.step_read-word.ensures.look in
    let few = subst (λ (l : Layout). length l.legs ≤ most_places) (ap (λ (b : BooksView). b.layout) c.self.view_is ∙ sym c.step_read-word.ensures.own.layout) c.self.invariant.5 in
    let first = subst (λ (r : ℕ). Stepped (SawRow r 4 c.step_read-count.result) c.args.desk.now c.step_read-count.new.desk) (ap (λ (e : EndingView). e.row.row) c.ending.view_is) c.step_read-count.ensures.look in
    let pushed = c.push.ensures.items in record {
      own = c.step_read-word.ensures.own;
      so_far = subst (ReadSoFar new e count (k + 1)) (sym pushed) (read_more v k count old new e c.loop-i.items.items i few look c.requires.unread.0 so c.loop-i-test.true c.item_of.ensures.item);
      kept = look.same.5 ∙ c.loop-i.invariant.kept;
      few = subst (λ (l : List Item). length l ≤ most_items) (sym pushed) (one_less c.loop-i.items.items i k count so.many c.loop-i-test.true (read_count count c.args.desk.now c.step_read-count.new.desk e first c.requires.ending).2);
      seen = subst (λ (l : List Item). AddsSteps c.args.desk.now new (SawRow e.row.row 4 count ∷ item_looks e.row.row 8 l)) (sym pushed)
          (seen_more c.args.desk.now old new e.row.row v k count c.loop-i.items.items i so.many c.item_of.ensures.item c.loop-i.invariant.seen look);
    }

use Rattle.std.proofs.Common.{◌≡◌, ◌≤◌, ℕ, min, length, [], ◌∷◌, ◌++◌, arith}
use Rattle.history_model.specs.declared.entry.Step.TheVariants.{SawRow}
use Rattle.history_model.specs.Booking.{most_items}
use Rattle.claim_rule.proofs.Shapes.{shape_then}
use Rattle.booking_rows.specs.Views.{word_looks}
use Rattle.booking_rows.proofs.ViewLemmas.{reads, four_looks, since_on, sealed_of, still_before}
use Rattle.booking_rows.proofs.views.read_words.Goals as goal

pub read_item_words-items-requires-clause-sealed : goal.read_item_words-items-requires-clause-sealed
read_item_words-items-requires-clause-sealed c =
    sealed_of c.step_read-count.new.desk c.args.row c.args.phase
    (reads c.args.row c.args.phase c.args.desk.now c.step_read-retailer.new.desk c.step_read-limit.new.desk c.step_read-total.new.desk c.step_read-count.new.desk c.step_read-retailer.result c.step_read-limit.result c.step_read-total.result c.step_read-count.result
    c.requires.sealed c.step_read-retailer.ensures.look c.step_read-limit.ensures.look c.step_read-total.ensures.look c.step_read-count.ensures.look).since

pub read_item_words-items-requires-clause-count : goal.read_item_words-items-requires-clause-count
read_item_words-items-requires-clause-count c = λ now.
    ((reads c.args.row c.args.phase c.args.desk.now c.step_read-retailer.new.desk c.step_read-limit.new.desk c.step_read-total.new.desk c.step_read-count.new.desk c.step_read-retailer.result c.step_read-limit.result c.step_read-total.result c.step_read-count.result
    c.requires.sealed c.step_read-retailer.ensures.look c.step_read-limit.ensures.look c.step_read-total.ensures.look c.step_read-count.ensures.look).before now).4

pub read_end-end-requires-clause-sealed : goal.read_end-end-requires-clause-sealed
read_end-end-requires-clause-sealed c =
    let i = c.read_item_words-items in
    since_on c.step_read-count.new.desk i.new.desk (word_looks c.args.row.row 8 i.result.items) c.args.row c.args.phase i.ensures.entries
    (reads c.args.row c.args.phase c.args.desk.now c.step_read-retailer.new.desk c.step_read-limit.new.desk c.step_read-total.new.desk c.step_read-count.new.desk c.step_read-retailer.result c.step_read-limit.result c.step_read-total.result c.step_read-count.result
    c.requires.sealed c.step_read-retailer.ensures.look c.step_read-limit.ensures.look c.step_read-total.ensures.look c.step_read-count.ensures.look).since

pub returns-clause-sealed : goal.returns-clause-sealed
returns-clause-sealed c =
    let i = c.read_item_words-items in
    let e = c.read_end-end in
    let so = reads c.args.row c.args.phase c.args.desk.now c.step_read-retailer.new.desk c.step_read-limit.new.desk c.step_read-total.new.desk c.step_read-count.new.desk c.step_read-retailer.result c.step_read-limit.result c.step_read-total.result c.step_read-count.result
    c.requires.sealed c.step_read-retailer.ensures.look c.step_read-limit.ensures.look c.step_read-total.ensures.look c.step_read-count.ensures.look in
    since_on i.new.desk e.new.desk (word_looks c.args.row.row 5 e.result.items) c.args.row c.args.phase e.ensures.entries
    (since_on c.step_read-count.new.desk i.new.desk (word_looks c.args.row.row 8 i.result.items) c.args.row c.args.phase i.ensures.entries so.since)

pub returns-clause-read : goal.returns-clause-read
returns-clause-read c = record { sealed = c.requires.phase; items = c.read_item_words-items.ensures.many; end = c.read_end-end.ensures.many }

pub returns-clause-entries : goal.returns-clause-entries
returns-clause-entries c =
    let row = c.args.row.row in
    let i = c.read_item_words-items in
    let e = c.read_end-end in
    shape_then c.args.desk.now c.step_read-count.new.desk e.new.desk
    (SawRow row 1 c.step_read-retailer.result ∷ SawRow row 2 c.step_read-limit.result ∷ SawRow row 3 c.step_read-total.result ∷ SawRow row 4 c.step_read-count.result ∷ [])
    (word_looks row 8 i.result.items ++ word_looks row 5 e.result.items)
    (four_looks c.args.desk.now c.step_read-retailer.new.desk c.step_read-limit.new.desk c.step_read-total.new.desk c.step_read-count.new.desk row c.step_read-retailer.result c.step_read-limit.result c.step_read-total.result c.step_read-count.result
    c.step_read-retailer.ensures.look c.step_read-limit.ensures.look c.step_read-total.ensures.look c.step_read-count.ensures.look)
    (shape_then c.step_read-count.new.desk i.new.desk e.new.desk (word_looks row 8 i.result.items) (word_looks row 5 e.result.items) i.ensures.entries e.ensures.entries)

-- a number that isn't above the most is the lesser of both
all_of : (count many : ℕ) → many ≡ min count most_items → count ≤ most_items → count ≡ many
all_of count many e l = omega (arith, e, l)

pub returns-clause-fit : goal.returns-clause-fit
returns-clause-fit c = λ now.
    let row = c.args.row in
    let ph = c.args.phase in
    let i = c.read_item_words-items in
    let e = c.read_end-end in
    let so = reads row ph c.args.desk.now c.step_read-retailer.new.desk c.step_read-limit.new.desk c.step_read-total.new.desk c.step_read-count.new.desk c.step_read-retailer.result c.step_read-limit.result c.step_read-total.result c.step_read-count.result
    c.requires.sealed c.step_read-retailer.ensures.look c.step_read-limit.ensures.look c.step_read-total.ensures.look c.step_read-count.ensures.look in
    let after = since_on c.step_read-count.new.desk i.new.desk (word_looks row.row 8 i.result.items) row ph i.ensures.entries so.since in
    let items_now = still_before i.new.desk e.new.desk (word_looks row.row 5 e.result.items) row e.ensures.entries (sealed_of i.new.desk row ph after) now in
    let count_now = still_before c.step_read-count.new.desk i.new.desk (word_looks row.row 8 i.result.items) row i.ensures.entries (sealed_of c.step_read-count.new.desk row ph so.since) items_now in
    let fit = so.before count_now in record {
      retailer = fit.0;
      limit = fit.1;
      total = fit.2;
      count = all_of c.step_read-count.result (length i.result.items) i.ensures.many fit.3;
      items = i.ensures.words items_now;
      end = e.ensures.words now;
    }

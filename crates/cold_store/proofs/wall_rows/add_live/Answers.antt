use Rattle.std.proofs.Common.{◌≡◌, ◌∙◌, ◌+◌, ◌<◌, ◌≤◌, ℕ, List, false, sym, ap, subst, arith}
use Rattle.history_model.specs.Booking.{phase_of_row}
use Rattle.history_model.specs.Phase.{is_live}
use Rattle.history_model.specs.Words.{row_word}
use Rattle.cold_store.specs.Exports.{state_on}
use Rattle.cold_store.proofs.ItemWords.{AreWordsBy}
use Rattle.cold_store.proofs.LiveRows.{item_within, live_done, live_goes_on, row_lives, live_skips, taken_by}
use Rattle.cold_store.proofs.SealedRows.{has_item}
use Rattle.cold_store.proofs.wall_rows.add_live.Goals as goal

pub returns-then-not-is_live : goal.returns-then-not-is_live
returns-then-not-is_live c =
    let w = c.args.wall.now in
    let dead : is_live (phase_of_row (state_on w) c.args.row) ≡ false =
    ap is_live (sym c.shown_at.ensures.phase) ∙ (sym c.is_live.ensures ∙ c.if-not-is_live.true) in
    live_skips w c.args.row c.args.words.now c.requires.closed dead c.requires.words

pub overflow_cast-k-end : goal.overflow_cast-k-end
overflow_cast-k-end c =
    let b = row_lives c.args.wall.now c.args.row c.shown_at.result.0 c.is_live.result c.requires.closed c.shown_at.ensures.phase c.is_live.ensures c.if-not-is_live.false in
    omega (arith, c.word_at-k-end.ensures, b.1.on.count, b.1.on.sound.count)

pub item_at-requires-clause-item : goal.item_at-requires-clause-item
item_at-requires-clause-item c =
    let b = row_lives c.args.wall.now c.args.row c.shown_at.result.0 c.is_live.result c.requires.closed c.shown_at.ensures.phase c.is_live.ensures c.if-not-is_live.false in
    has_item c.args.wall.now c.args.row c.loop-k.k b.0 b.1.on (subst (λ n. c.loop-k.k < n) c.word_at-k-end.ensures c.loop-k-test.true)

pub add_item-requires : goal.add_item-requires
add_item-requires c =
    let b = row_lives c.args.wall.now c.args.row c.shown_at.result.0 c.is_live.result c.requires.closed c.shown_at.ensures.phase c.is_live.ensures c.if-not-is_live.false in
    let has = has_item c.args.wall.now c.args.row c.loop-k.k b.0 b.1.on (subst (λ n. c.loop-k.k < n) c.word_at-k-end.ensures c.loop-k-test.true) in
    let within = item_within c.args.wall.now c.args.row c.loop-k.k b.0 c.item_at.result c.requires.closed b.1 has c.item_at.ensures in
    record { place = omega (arith, within, c.loop-k.invariant.count) }

pub loop-k-preserved : goal.loop-k-preserved
loop-k-preserved c =
    let w = c.args.wall.now in
    let b = row_lives c.args.wall.now c.args.row c.shown_at.result.0 c.is_live.result c.requires.closed c.shown_at.ensures.phase c.is_live.ensures c.if-not-is_live.false in
    let has = has_item w c.args.row c.loop-k.k b.0 b.1.on (subst (λ n. c.loop-k.k < n) c.word_at-k-end.ensures c.loop-k-test.true) in
    subst (λ (words : List ℕ). AreWordsBy w (taken_by w c.args.row (c.loop-k.k + 1)) words) (sym c.add_item.ensures)
    (live_goes_on w c.args.row c.loop-k.k c.loop-k.words b.0 c.item_at.result c.requires.closed b.1 has c.item_at.ensures c.loop-k.invariant)

pub returns : goal.returns
returns c =
    let b = row_lives c.args.wall.now c.args.row c.shown_at.result.0 c.is_live.result c.requires.closed c.shown_at.ensures.phase c.is_live.ensures c.if-not-is_live.false in
    let all : row_word (state_on c.args.wall.now) c.args.row 4 ≤ c.loop-k.k = subst (λ n. n ≤ c.loop-k.k) c.word_at-k-end.ensures c.loop-k-test.false in
    live_done c.args.wall.now c.args.row c.loop-k.k c.loop-k.words b.0 c.requires.closed b.1 all c.loop-k.invariant

use Rattle.std.proofs.Common.{◌∙◌, ◌++◌, ◌<◌, ◌≤◌, ap, subst, arith}
use Rattle.history_model.specs.Words.{row_word}
use Rattle.cold_store.specs.Exports.{state_on}
use Rattle.cold_store.proofs.SealedRows.{has_item, items_done, items_go_on, sealed_row}
use Rattle.cold_store.proofs.export.push_items.Goals as goal

pub overflow_cast-k-end : goal.overflow_cast-k-end
overflow_cast-k-end c =
    let b = sealed_row c.args.wall.now c.args.row c.requires.closed c.requires.sealed in
    omega (arith, c.word_at-k-end.ensures, b.1.count, b.1.sound.count)

pub item_at-requires-clause-item : goal.item_at-requires-clause-item
item_at-requires-clause-item c =
    let b = sealed_row c.args.wall.now c.args.row c.requires.closed c.requires.sealed in
    has_item c.args.wall.now c.args.row c.loop-k.k b.0 b.1 (subst (λ n. c.loop-k.k < n) c.word_at-k-end.ensures c.loop-k-test.true)

pub loop-k-preserved : goal.loop-k-preserved
loop-k-preserved c =
    let w = c.args.wall.now in
    let b = sealed_row w c.args.row c.requires.closed c.requires.sealed in
    let has = has_item w c.args.row c.loop-k.k b.0 b.1 (subst (λ n. c.loop-k.k < n) c.word_at-k-end.ensures c.loop-k-test.true) in
    items_go_on w c.args.row c.loop-k.k c.item_at.result _ _ _ c.requires.closed has c.item_at.ensures c.loop-k.invariant c.in_ok-push_item.ensures

pub returns : goal.returns
returns c =
    let w = c.args.wall.now in
    let b = sealed_row w c.args.row c.requires.closed c.requires.sealed in
    let all : row_word (state_on w) c.args.row 4 ≤ c.loop-k.k = subst (λ n. n ≤ c.loop-k.k) c.word_at-k-end.ensures c.loop-k-test.false in
    c.loop-k.invariant ∙ ap (λ t. c.args.text.now.items ++ t) (items_done w c.args.row c.loop-k.k b.0 b.1 all)

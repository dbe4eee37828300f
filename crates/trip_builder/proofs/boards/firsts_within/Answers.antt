use Rattle.std.proofs.Common.{◌-◌, arith, get_or}
use Rattle.std.proofs.lemmas.List.{get_or_default}
use Rattle.trip_builder.specs.Bounds.{no_rank}
use Rattle.trip_builder.proofs.Posting.{none_found, one_block, two_blocks}
use Rattle.trip_builder.proofs.Resting.{nothing}
use Rattle.trip_builder.proofs.boards.firsts_within.Goals as goal

pub returns-then-count-first : goal.returns-then-count-first
returns-then-count-first c =
    none_found c.args.useful.now c.args.from c.args.to c.count_before-first.result c.count_before-count.result (record { first = no_rank; second = no_rank }) c.count_before-first.ensures.earlier c.count_before-count.ensures.later c.if-count-first.true

pub returns-then-earliest-latest : goal.returns-then-earliest-latest
returns-then-earliest-latest c =
    let board = c.args.useful.now in
    let first = c.count_before-first.result in
    let count = c.count_before-count.result in
    let some = c.if-count-first.false in
    let within = c.count_before-count.ensures.within in
    let a = get_or board first nothing in
    let z = get_or board (count - 1) nothing in
    one_block board c.args.from c.args.to first count a z a.onward c.requires.rises within c.count_before-first.ensures.earlier c.count_before-count.ensures.later some
    (get_or_default board first nothing a (omega (arith, some, within))) (get_or_default board (count - 1) nothing z (omega (arith, some, within))) c.if-earliest-latest.true (λ rank on so_far. on)

pub returns-then-saturating_add-latest : goal.returns-then-saturating_add-latest
returns-then-saturating_add-latest c =
    let board = c.args.useful.now in
    let first = c.count_before-first.result in
    let count = c.count_before-count.result in
    let some = c.if-count-first.false in
    let within = c.count_before-count.ensures.within in
    let a = get_or board first nothing in
    let z = get_or board (count - 1) nothing in
    two_blocks board c.args.from c.args.to first count a z c.join.result c.requires.rises within c.count_before-first.ensures.earlier c.count_before-count.ensures.later some
    (get_or_default board first nothing a (omega (arith, some, within))) (get_or_default board (count - 1) nothing z (omega (arith, some, within))) (let next = c.if-saturating_add-latest.true in let sum = c.saturating_add.ensures in omega (arith, next, sum)) c.join.ensures.left c.join.ensures.right

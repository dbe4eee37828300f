use Rattle.std.proofs.Common.{◌≡◌, ◌+◌, ◌<◌, ◌^◌, length, refl, arith}
use Rattle.std.proofs.lemmas.Grind.{common_steps}
use Rattle.cold_store.proofs.Reading.{bad_end, bad_last, bad_line, first_bad, first_read, line_more, may_add, none_left, shorter, some_left, text_read}
use Rattle.cold_store.proofs.import.read_text.Goals as goal

pub returns-in_default-clause-err : goal.returns-in_default-clause-err
returns-in_default-clause-err c = (1, first_bad c.in_default.ensures, refl)

pub loop-reader-init : goal.loop-reader-init
loop-reader-init c = first_read c.in-Some.ensures c.requires.draft

pub returns-in_default-next_line-clause-err : goal.returns-in_default-next_line-clause-err
returns-in_default-next_line-clause-err c =
    let b = c.line_behind.ensures in (
      length c.loop-reader.draft.lines + 2,
      bad_line c.loop-reader.invariant b.few c.loop-reader-test.ensures c.in_default-next_line.ensures.read,
      b.number,
    )

pub add-requires : goal.add-requires
add-requires c =
    let n = c.in-Some-next_line.ensures in
    record { draft = may_add c.loop-reader.invariant (c.eat.ensures.none c.loop-reader-test.true).0 n.read n.some }

pub loop-reader-smaller : goal.loop-reader-smaller
loop-reader-smaller c =
    let n = c.in-Some-next_line.ensures in
    shorter c.loop-reader.invariant (c.loop-reader-test.ensures.none refl).0 n.read n.some

pub loop-reader-preserved : goal.loop-reader-preserved
loop-reader-preserved c =
    let n = c.in-Some-next_line.ensures in
    line_more c.loop-reader.invariant (c.loop-reader-test.ensures.none refl).0 n.read n.some c.in_ok-add.ensures

pub returns-then-not-last_line-clause-err : goal.returns-then-not-last_line-clause-err
returns-then-not-last_line-clause-err c =
    let b = c.line_behind-then-not-last_line.ensures in
    let count : c.len.result ≡ length c.loop-reader.draft.lines = grind (arith, common_steps) in (
      length c.loop-reader.draft.lines + 2,
      bad_last c.loop-reader.invariant b.few c.loop-reader-test.ensures
          c.if-not-last_line.ensures count,
      b.number,
    )

pub returns-then-not-is_empty-clause-err : goal.returns-then-not-is_empty-clause-err
returns-then-not-is_empty-clause-err c =
    let b = c.line_behind-then-not-is_empty.ensures in
    let count : c.len.result ≡ length c.loop-reader.draft.lines = grind (arith, common_steps) in (
      length c.loop-reader.draft.lines + 3,
      bad_end c.loop-reader.invariant b.few c.loop-reader-test.ensures
          c.if-not-last_line.ensures count (some_left _ c.if-not-is_empty.ensures),
      b.number,
    )

pub returns-clause-ok : goal.returns-clause-ok
returns-clause-ok c =
    let count : c.len.result ≡ length c.loop-reader.draft.lines = grind (arith, common_steps) in
    let few : length c.loop-reader.draft.lines < 2 ^ 64 = omega arith in
    text_read c.loop-reader.invariant few c.loop-reader-test.ensures
    c.if-not-last_line.ensures count (none_left _ c.if-not-is_empty.ensures)

pub returns-clause-rows : goal.returns-clause-rows
returns-clause-rows c = c.loop-reader.invariant.same

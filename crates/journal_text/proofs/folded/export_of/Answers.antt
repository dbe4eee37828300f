use Rattle.std.proofs.Common.{◌+◌, ◌^◌, ◌<◌, [], ◌∷◌, ◌++◌, arith, length, refl}
use Rattle.line_text.specs.Lines.{first_line}
use Rattle.journal_text.proofs.Kept.{few_before, one_more_count, one_more_text}
use Rattle.journal_text.proofs.folded.export_of.Goals as goal

pub overflow_add-count : goal.overflow_add-count
overflow_add-count c =
    let inv = c.loop-last.invariant in
    let below : c.loop-last.last-index < length c.args.lasts.now = search in
    let n = one_more_count c.args.lasts.now c.loop-last.last-index _ _ _ below inv.count c.in_ok-count.ensures.count in
    let few = few_before c.args.lasts.now (c.loop-last.last-index + 1) in
    let all : length c.args.lasts.now < 2 ^ 64 = search in
    let sum : c.loop-last.count + c.in_ok-count.field-0 < 2 ^ 64 = omega arith in
    search

pub loop-last-preserved : goal.loop-last-preserved
loop-last-preserved c =
    let inv = c.loop-last.invariant in
    let below : c.loop-last.last-index < length c.args.lasts.now = search in
    record {
      text = one_more_text c.args.lasts.now c.loop-last.last-index _ (first_line c.args.head.now.places c.args.head.now.rows ++ 10 ∷ []) _ _ below inv.text c.in_ok-count.ensures.text;
      count = one_more_count c.args.lasts.now c.loop-last.last-index _ _ _ below inv.count c.in_ok-count.ensures.count;
      end = refl;
      low = omega arith;
    }

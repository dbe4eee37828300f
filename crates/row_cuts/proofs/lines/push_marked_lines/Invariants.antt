use Rattle.std.proofs.Common.{◌*◌, min}
use Rattle.std.specs.List.{range_with_len}
use Rattle.claim_rule.specs.Calls.{AddsStepsBy}
use Rattle.claim_rule.specs.Desks.{IsOf}
use Rattle.claim_rule.specs.Out.{KeepsEndings, KeepsHolds}
use Rattle.row_cuts.specs.Lines.{WritesBlocks, mark_blocks}
use Rattle.row_cuts.proofs.lines.push_marked_lines.Given as goal

abbrev pub invariant-loop-group : goal.invariant-loop-group
invariant-loop-group l = record {
  own : IsOf l.books l.desk;
  holds : KeepsHolds l.fn.desk l.desk;
  endings : KeepsEndings l.fn.desk l.desk;
  lines : AddsStepsBy (WritesBlocks l.books.layout.rows (range_with_len 0 (min (64 * l.group) (mark_blocks l.books.layout.rows))) l.fn.text.items l.text.items l.count) l.fn.desk l.desk;
}

use Rattle.std.proofs.Common.{◌-◌, ◌≤◌}
use Rattle.std.specs.List.{range_with_len}
use Rattle.claim_rule.specs.Calls.{AddsStepsBy}
use Rattle.claim_rule.specs.Desks.{IsOf}
use Rattle.claim_rule.specs.Out.{KeepsEndings, KeepsHolds}
use Rattle.row_cuts.specs.Lines.{WritesBlocks}
use Rattle.row_cuts.proofs.lines.push_group.Given as goal

abbrev pub invariant-loop-block : goal.invariant-loop-block
invariant-loop-block l = record {
  own : IsOf l.books l.desk;
  holds : KeepsHolds l.fn.desk l.desk;
  endings : KeepsEndings l.fn.desk l.desk;
  low : l.fn.start ≤ l.block;
  lines : AddsStepsBy (WritesBlocks l.books.layout.rows (range_with_len l.fn.start (l.block - l.fn.start)) l.fn.text.items l.text.items l.count) l.fn.desk l.desk;
}

use Rattle.std.proofs.Common.{◌≤◌}
use Rattle.claim_rule.specs.Calls.{AddsStepsBy}
use Rattle.claim_rule.specs.Desks.{IsOf}
use Rattle.claim_rule.specs.Out.{KeepsEndings, KeepsHolds}
use Rattle.row_cuts.specs.Lines.{WritesLines}
use Rattle.row_cuts.proofs.Marking.{set_rows}
use Rattle.row_cuts.proofs.lines.push_block.Given as goal

abbrev pub invariant-loop-row : goal.invariant-loop-row
invariant-loop-row l = record {
  own : IsOf l.books l.desk;
  holds : KeepsHolds l.fn.desk l.desk;
  endings : KeepsEndings l.fn.desk l.desk;
  low : l.fn.start ≤ l.row;
  lines : AddsStepsBy (WritesLines (set_rows l.fn.marks l.fn.start l.row) l.fn.text.items l.text.items l.count) l.fn.desk l.desk;
}

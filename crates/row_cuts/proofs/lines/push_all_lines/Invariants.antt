use Rattle.std.specs.List.{range_with_len}
use Rattle.claim_rule.specs.Calls.{AddsStepsBy}
use Rattle.claim_rule.specs.Desks.{IsOf}
use Rattle.claim_rule.specs.Out.{KeepsEndings, KeepsHolds}
use Rattle.row_cuts.specs.Lines.{WritesLines}
use Rattle.row_cuts.proofs.lines.push_all_lines.Given as goal

abbrev pub invariant-loop-row : goal.invariant-loop-row
invariant-loop-row l = record {
  own : IsOf l.books l.desk;
  holds : KeepsHolds l.fn.desk l.desk;
  endings : KeepsEndings l.fn.desk l.desk;
  lines : AddsStepsBy (WritesLines (range_with_len 0 l.row) l.fn.text.items l.text.items l.count) l.fn.desk l.desk;
}

use Rattle.claim_rule.specs.Desks.{IsOf}
use Rattle.claim_rule.specs.Out.{KeepsEndings, KeepsHolds}
use Rattle.row_cuts.proofs.Counting.{CountedTo}
use Rattle.row_cuts.proofs.counts.count_rows.Given as goal

abbrev pub invariant-loop-row : goal.invariant-loop-row
invariant-loop-row l = record {
  own : IsOf l.books l.desk;
  holds : KeepsHolds l.fn.desk l.desk;
  endings : KeepsEndings l.fn.desk l.desk;
  counted : CountedTo l.fn.desk l.desk l.row l.count;
}

use Rattle.claim_rule.specs.Desks.{IsOf}
use Rattle.claim_rule.specs.Out.{KeepsHolds, EndsNone}
use Rattle.expiry_sweeper.proofs.Counting.{SweptTo}
use Rattle.expiry_sweeper.proofs.sweeps.sweep.Given as goal

abbrev pub invariant-loop-row : goal.invariant-loop-row
invariant-loop-row l = record {
  own : IsOf l.books l.desk;
  none : EndsNone l.desk;
  holds : KeepsHolds l.fn.desk l.desk;
  swept : SweptTo l.fn.desk l.desk l.now l.row l.swept;
}

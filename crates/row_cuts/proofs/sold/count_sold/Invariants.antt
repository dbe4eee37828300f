use Rattle.claim_rule.specs.Desks.{IsOf}
use Rattle.claim_rule.specs.Out.{KeepsEndings, KeepsHolds}
use Rattle.row_cuts.proofs.Selling.{SoldTo}
use Rattle.row_cuts.proofs.sold.count_sold.Given as goal

abbrev pub invariant-loop-number : goal.invariant-loop-number
invariant-loop-number l = record {
  own : IsOf l.books l.desk;
  holds : KeepsHolds l.fn.desk l.desk;
  endings : KeepsEndings l.fn.desk l.desk;
  sold : SoldTo l.fn.desk l.desk l.places l.number l.count;
}

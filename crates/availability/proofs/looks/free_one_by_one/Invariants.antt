use Rattle.std.proofs.Common.{◌≤◌}
use Rattle.claim_rule.specs.Desks.{IsOf}
use Rattle.claim_rule.specs.Calls.{AddsStepsBy}
use Rattle.claim_rule.specs.Out.{KeepsHolds, KeepsEndings}
use Rattle.availability.specs.Looks.{CountsFree, row_from}
use Rattle.availability.proofs.looks.free_one_by_one.Given as goal

abbrev pub invariant-loop-n : goal.invariant-loop-n
invariant-loop-n l = record {
  own : IsOf l.books l.desk;
  holds : KeepsHolds l.fn.desk l.desk;
  endings : KeepsEndings l.fn.desk l.desk;
  few : l.free ≤ l.n;
  looked : AddsStepsBy (CountsFree (row_from l.first (l.n)) l.parts l.free) l.fn.desk l.desk;
}

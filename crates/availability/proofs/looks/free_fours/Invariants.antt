use Rattle.std.proofs.Common.{◌≤◌, ◌-◌, ◌*◌}
use Rattle.claim_rule.specs.Desks.{IsOf}
use Rattle.claim_rule.specs.Calls.{AddsStepsBy}
use Rattle.claim_rule.specs.Out.{KeepsHolds, KeepsEndings}
use Rattle.availability.specs.Looks.{CountsFree, row_from}
use Rattle.availability.proofs.looks.free_fours.Given as goal

abbrev pub invariant-loop-four : goal.invariant-loop-four
invariant-loop-four l = record {
  own : IsOf l.books l.desk;
  holds : KeepsHolds l.fn.desk l.desk;
  endings : KeepsEndings l.fn.desk l.desk;
  begun : l.from ≤ l.four;
  few : l.free ≤ 4 * (l.four - l.from);
  looked : AddsStepsBy (CountsFree (row_from (4 * l.from) (4 * (l.four - l.from))) l.parts l.free) l.fn.desk l.desk;
}

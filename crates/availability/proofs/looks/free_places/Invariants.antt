use Rattle.std.proofs.Common.{◌≤◌, take}
use Rattle.claim_rule.specs.Desks.{IsOf}
use Rattle.claim_rule.specs.Calls.{AddsStepsBy}
use Rattle.claim_rule.specs.Out.{KeepsHolds, KeepsEndings}
use Rattle.availability.specs.Looks.{CountsFree}
use Rattle.availability.proofs.looks.free_places.Given as goal

abbrev pub invariant-loop-place : goal.invariant-loop-place
invariant-loop-place l = record {
  own : IsOf l.books l.desk;
  holds : KeepsHolds l.fn.desk l.desk;
  endings : KeepsEndings l.fn.desk l.desk;
  few : l.free ≤ l.place-index;
  looked : AddsStepsBy (CountsFree (take l.place-index l.places) l.span l.free) l.fn.desk l.desk;
}

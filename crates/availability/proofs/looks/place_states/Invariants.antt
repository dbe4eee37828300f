use Rattle.std.proofs.Common.{◌≡◌, ◌≤◌, length, take}
use Rattle.std.specs.Vec.{vec_len, vec_capacity}
use Rattle.claim_rule.specs.Desks.{IsOf}
use Rattle.claim_rule.specs.Calls.{AddsStepsBy}
use Rattle.claim_rule.specs.Out.{KeepsHolds, KeepsEndings}
use Rattle.availability.specs.Looks.{LooksAt}
use Rattle.availability.proofs.looks.place_states.Given as goal

abbrev pub invariant-loop-place : goal.invariant-loop-place
invariant-loop-place l = record {
  own : IsOf l.books l.desk;
  holds : KeepsHolds l.fn.desk l.desk;
  endings : KeepsEndings l.fn.desk l.desk;
  long : vec_len l.states ≡ l.place-index;
  room : length l.places ≤ vec_capacity l.states;
  looked : AddsStepsBy (LooksAt (take l.place-index l.places) l.span l.states.items) l.fn.desk l.desk;
}

use Rattle.std.proofs.Common.{◌≤◌, take}
use Rattle.std.specs.List.{filter}
use Rattle.claim_rule.specs.Desks.{IsOf}
use Rattle.claim_rule.specs.Calls.{AddsStepsBy}
use Rattle.claim_rule.specs.Out.{KeepsHolds, KeepsEndings, IsTidy}
use Rattle.place_map.specs.ByClass.{has_traits}
use Rattle.availability.specs.Looks.{CountsFree}
use Rattle.offer_engine.proofs.counts.count_with_traits.Given as goal

abbrev pub invariant-loop-number : goal.invariant-loop-number
invariant-loop-number l = record {
  own : IsOf l.books l.desk;
  holds : KeepsHolds l.fn.desk l.desk;
  endings : KeepsEndings l.fn.desk l.desk;
  tidy : IsTidy l.fn.desk → IsTidy l.desk;
  few : l.free ≤ l.number-index;
  counted : AddsStepsBy (CountsFree (filter (has_traits l.wanted l.places) (take l.number-index l.numbers)) l.span l.free) l.fn.desk l.desk;
}

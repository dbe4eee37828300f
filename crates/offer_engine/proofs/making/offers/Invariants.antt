use Rattle.std.proofs.Common.{take}
use Rattle.claim_rule.specs.Desks.{IsOf}
use Rattle.claim_rule.specs.Calls.{AddsStepsBy}
use Rattle.claim_rule.specs.Out.{KeepsHolds, KeepsEndings, IsTidy}
use Rattle.offer_engine.specs.Offers.{OffersFor}
use Rattle.offer_engine.proofs.making.offers.Given as goal

abbrev pub invariant-loop-trip : goal.invariant-loop-trip
invariant-loop-trip l = record {
  own : IsOf l.books l.desk;
  holds : KeepsHolds l.fn.desk l.desk;
  endings : KeepsEndings l.fn.desk l.desk;
  tidy : IsTidy l.fn.desk → IsTidy l.desk;
  made : AddsStepsBy (OffersFor l.cat l.wish l.now (take l.trip-index l.trip-items) l.offers.items) l.fn.desk l.desk;
}

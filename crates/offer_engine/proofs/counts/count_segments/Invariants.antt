use Rattle.std.proofs.Common.{◌≡◌, take}
use Rattle.arrayvec.specs.ArrayVec.{array_vec_len}
use Rattle.claim_rule.specs.Desks.{IsOf}
use Rattle.claim_rule.specs.Calls.{AddsStepsBy}
use Rattle.claim_rule.specs.Out.{KeepsHolds, KeepsEndings, IsTidy}
use Rattle.offer_engine.specs.Offers.{CountsSegments}
use Rattle.offer_engine.proofs.counts.count_segments.Given as goal

abbrev pub invariant-loop-segment : goal.invariant-loop-segment
invariant-loop-segment l = record {
  own : IsOf l.books l.desk;
  holds : KeepsHolds l.fn.desk l.desk;
  endings : KeepsEndings l.fn.desk l.desk;
  tidy : IsTidy l.fn.desk → IsTidy l.desk;
  many : array_vec_len l.free ≡ l.segment-index;
  counted : AddsStepsBy (CountsSegments l.cat l.wish (take l.segment-index l.segments) l.free.items) l.fn.desk l.desk;
}

use Rattle.std.proofs.Common.{◌∙◌, ◌+◌, ℕ, List, take, ap, sym, subst}
use Rattle.claim_rule.specs.Calls.{AddsStepsBy}
use Rattle.availability.specs.Looks.{CountsFree}
use Rattle.train_runs.specs.declared.segment.Segment.{Segment}
use Rattle.claim_rule.proofs.Out.{holds_then, endings_then}
use Rattle.offer_engine.specs.Offers.{wanted_places, CountsSegments}
use Rattle.offer_engine.proofs.Counting.{counted_next}
use Rattle.offer_engine.proofs.counts.count_segments.Goals as goal

pub loop-segment-preserved : goal.loop-segment-preserved
loop-segment-preserved c =
    let i = c.loop-segment.invariant in
    let cat = c.args.cat.now in
    let w = c.args.wish.now in
    let did = c.count_segment in
    let old = c.args.desk.now in
    let mid = c.loop-segment.desk in
    let new = did.new.desk in
    record {
      own = did.ensures.own;
      holds = holds_then old mid new i.holds did.ensures.holds;
      endings = endings_then old mid new i.endings did.ensures.endings;
      tidy = λ is. did.ensures.tidy (i.tidy is);
      many = c.push.ensures.len ∙ ap (λ n. n + 1) i.many;
      counted = subst (λ (l : List ℕ). AddsStepsBy (CountsSegments cat w (take (c.loop-segment.segment-index + 1) c.args.segments.now) l) old new) (sym c.push.ensures.items)
          (counted_next cat w old mid new c.args.segments.now c.loop-segment.segment-index c.segment-item.result c.loop-segment.free.items did.result c.loop-segment-test.true i.counted
          (subst (λ (s : Segment). AddsStepsBy (CountsFree (wanted_places cat w s) s.span did.result) mid new) c.segment-item.is did.ensures.entries));
    }

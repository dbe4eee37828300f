use Rattle.std.proofs.Common.{◌≡◌, ◌∙◌, ◌+◌, ◌/◌, ◌<◌, true, false, List, length, sym, subst, arith, get_or}
use Rattle.train_runs.specs.declared.segment.Segment.{Segment}
use Rattle.trip_builder.specs.Order.{stands_before}
use Rattle.trip_builder.proofs.Placing.{before_side, after_side}
use Rattle.trip_builder.proofs.order.place_among.Goals as goal

pub halves-preserved-then-stands_before : goal.halves-preserved-then-stands_before
halves-preserved-then-stands_before c =
    let r = c.args.runs.now in
    let ts = c.args.sorted.now in
    let t = c.args.trip.now in
    let within = c.halves.invariant.within in
    let m = c.halves.first + c.halves.size / 2 in
    let d = c.index-sorted-first.result in
    let fits : m < length ts = omega (arith, within, c.halves-test.true) in
    let is = c.segments.ensures.value ∙ c.index-sorted-first.is in
    let says : stands_before r (get_or ts m d) t ≡ true = subst (λ (u : List Segment). stands_before r u t ≡ true) is (sym c.stands_before.ensures ∙ c.if-stands_before.true) in
    record {
      within = omega (arith, within);
      before = λ k e low high. before_side r ts t m d c.requires.order fits says k e low (omega (arith, high));
      after = λ k e low high. c.halves.invariant.after k e (omega (arith, low)) high;
    }

pub halves-preserved : goal.halves-preserved
halves-preserved c =
    let r = c.args.runs.now in
    let ts = c.args.sorted.now in
    let t = c.args.trip.now in
    let within = c.halves.invariant.within in
    let m = c.halves.first + c.halves.size / 2 in
    let d = c.index-sorted-first.result in
    let fits : m < length ts = omega (arith, within, c.halves-test.true) in
    let is = c.segments.ensures.value ∙ c.index-sorted-first.is in
    let says : stands_before r (get_or ts m d) t ≡ false = subst (λ (u : List Segment). stands_before r u t ≡ false) is (sym c.stands_before.ensures ∙ c.if-stands_before.false) in
    record {
      within = omega (arith, within);
      before = c.halves.invariant.before;
      after = after_side r ts t m d c.requires.order fits says;
    }

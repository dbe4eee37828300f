use Rattle.std.proofs.Common.{◌+◌, ◌/◌, ◌<◌, ◌≤◌, length, arith, ap}
use Rattle.train_runs.specs.declared.departure.Departure.{Departure}
use Rattle.train_runs.proofs.Departing.{earlier_side, later_side, digit_less}
use Rattle.train_runs.proofs.departure.first_from.Goals as goal

pub halves-preserved-then-seconds : goal.halves-preserved-then-seconds
halves-preserved-then-seconds g c =
    let fits : c.halves.first + c.halves.size / 2 < length c.args.departures.now = omega (arith, c.halves.invariant.within, c.halves-test.true) in
    let less : c.index-departures-first.result.moment < c.args.seconds = omega (arith, c.if-seconds.true, c.seconds.ensures.value, ap (λ (d : Departure). d.moment) c.index-departures-first.is) in
    let digit = digit_less c.halves.size c.halves-test.true in
    record {
      within = omega (arith, c.halves.invariant.within);
      earlier = λ k d low high. earlier_side c.args.departures.now c.args.seconds (c.halves.first + c.halves.size / 2) c.index-departures-first.result c.requires.in_order fits c.index-departures-first.is less k d (omega (arith, high));
      later = λ k d low high. c.halves.invariant.later k d (omega (arith, low)) high;
      counted = omega (arith, c.tick.ensures, c.halves.invariant.counted, digit);
    }

pub halves-preserved : goal.halves-preserved
halves-preserved g c =
    let fits : c.halves.first + c.halves.size / 2 < length c.args.departures.now = omega (arith, c.halves.invariant.within, c.halves-test.true) in
    let less : c.args.seconds ≤ c.index-departures-first.result.moment = omega (arith, c.if-seconds.false, c.seconds.ensures.value, ap (λ (d : Departure). d.moment) c.index-departures-first.is) in
    let digit = digit_less c.halves.size c.halves-test.true in
    record {
      within = omega (arith, c.halves.invariant.within);
      earlier = c.halves.invariant.earlier;
      later = λ k d low high. later_side c.args.departures.now c.args.seconds (c.halves.first + c.halves.size / 2) c.index-departures-first.result c.requires.in_order fits c.index-departures-first.is less k d low high;
      counted = omega (arith, c.tick.ensures, c.halves.invariant.counted, digit);
    }

use Rattle.std.proofs.Common.{◌≡◌, ◌-◌, ◌+◌, ◌<◌, ℕ, List, length, refl, ap, arith}
use Rattle.train_runs.specs.declared.run.Stop.{Stop}
use Rattle.train_runs.specs.declared.wish.TripWish.{TripWish}
use Rattle.train_runs.specs.Runs.{stops_of}
use Rattle.trip_builder.specs.Bounds.{IsReach, FirstsOfRide}
use Rattle.trip_builder.proofs.Boarding.{stop_is}
use Rattle.trip_builder.proofs.Reaching.{ride_firsts, firsts_more, marked_more, run_marked}
use Rattle.trip_builder.proofs.bounds.bound_run.Goals as goal

pub loop-back-preserved : goal.loop-back-preserved
loop-back-preserved c =
    let r = c.args.runs.now in
    let v = c.args.ranks.now in
    let reach = c.args.reach.now in
    let run = c.args.run.0 in
    let stops = c.stops_of-stops.result.now in
    let size = length stops in
    let back = c.loop-back.back in
    let stop = size - 1 - back in
    let off = c.index-stops-stop.result in
    let was = c.loop-back.invariant in
    let test : back < size = c.loop-back-test.true in
    let whole : size ≡ length (stops_of r run) = ap (λ (l : List Stop). length l) c.stops_of-stops.ensures.stops in
    let there = stop_is r run stop stops off c.stops_of-stops.ensures.stops (omega (arith, test)) c.index-stops-stop.is in
    let old = c.loop-back.firsts in
    let new = c.firsts_with-firsts.result in
    let own : (w : TripWish) (changes : ℕ) → IsReach r w v changes reach → FirstsOfRide r w v (changes + 1) run stop old =
    (λ w changes are. ride_firsts r w v (changes + 1) run size old back stop whole test refl (was.further w changes are)) in
    record {
      rides = λ w changes are rides. c.note.ensures.rides r w v (changes + 1) (was.rides w changes are rides) (own w changes are);
      kept = λ n holds. c.note.ensures.kept n (was.kept n holds);
      late = λ rank past few. c.firsts_with-firsts.ensures.further rank (was.late rank past few);
      further = λ w changes are.
          firsts_more r w v (changes + 1) run size old new back stop off test refl there c.firsts_with-firsts.ensures.further (c.firsts_with-firsts.ensures.own w v changes are was.late) (was.further w changes are);
      marked = λ w changes are.
          marked_more r w v (changes + 1) run size c.loop-back.rides.marks.items c.note.new.self.marks.items old back stop c.late-late.result off test refl there c.late-late.ensures (own w changes are) c.note.ensures.kept
          c.note.ensures.marked (was.marked w changes are);
    }

pub returns-clause-marked : goal.returns-clause-marked
returns-clause-marked c =
    λ w changes are.
    run_marked c.args.runs.now w c.args.ranks.now (changes + 1) c.args.run.0 (length c.stops_of-stops.result.now) c.loop-back.rides.marks.items c.loop-back.back c.loop-back-test.false
    (c.loop-back.invariant.marked w changes are)

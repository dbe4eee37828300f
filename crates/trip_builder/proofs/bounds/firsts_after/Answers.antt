use Rattle.std.proofs.Common.{◌≡◌, ◌+◌, List, length, ap, arith}
use Rattle.train_runs.specs.declared.run.Stop.{Stop}
use Rattle.train_runs.specs.Runs.{stops_of}
use Rattle.trip_builder.proofs.Boarding.{stop_is}
use Rattle.trip_builder.proofs.Reaching.{below_more, below_all}
use Rattle.trip_builder.proofs.bounds.firsts_after.Goals as goal

pub loop-stop-preserved : goal.loop-stop-preserved
loop-stop-preserved c =
    let r = c.args.runs.now in
    let v = c.args.ranks.now in
    let d = c.args.departure.now in
    let stops = c.stops_of-stops.result.now in
    let stop = c.loop-stop.stop in
    let off = c.index-stops-stop.result in
    let was = c.loop-stop.invariant in
    let there = stop_is r d.run.0 stop stops off c.stops_of-stops.ensures.stops c.loop-stop-test.true c.index-stops-stop.is in
    let by = c.firsts_with-firsts.ensures in
    record {
      late = λ rank past few. by.further rank (was.late rank past few);
      so_far = λ w changes are. below_more r w v (changes + 1) d.run.0 d.stop stop c.loop-stop.firsts c.firsts_with-firsts.result off there by.further (by.own w v changes are was.late) (was.so_far w changes are);
    }

pub returns : goal.returns
returns c =
    λ w changes are.
    (let r = c.args.runs.now in
    let d = c.args.departure.now in
    let whole : length c.stops_of-stops.result.now ≡ length (stops_of r d.run.0) = ap (λ (l : List Stop). length l) c.stops_of-stops.ensures.stops in
    let ended = c.loop-stop-test.false in
    below_all r w c.args.ranks.now (changes + 1) d.run.0 d.stop c.loop-stop.stop c.loop-stop.firsts (omega (arith, whole, ended)) (c.loop-stop.invariant.so_far w changes are))

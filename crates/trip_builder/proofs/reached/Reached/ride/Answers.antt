use Rattle.std.proofs.Common.{◌≡◌, ◌<◌, ◌+◌, true, List, length, ap, sym, subst, arith}
use Rattle.train_runs.specs.declared.run.Stop.{Stop}
use Rattle.train_runs.specs.Stops.{stop_at}
use Rattle.train_runs.specs.Runs.{stops_of}
use Rattle.trip_builder.specs.Trips.{longest_wait}
use Rattle.trip_builder.specs.Reached.{HoldTrain, HoldWait}
use Rattle.trip_builder.proofs.Deciding.{one_further}
use Rattle.trip_builder.proofs.Boarding.{stop_is}
use Rattle.trip_builder.proofs.reached.Reached.ride.Goals as goal

pub loop-stop-preserved : goal.loop-stop-preserved
loop-stop-preserved c =
    let r = c.args.runs.now in
    let run = c.args.run.0 in
    let i = c.loop-stop.stop-index in
    let its : List Stop = stops_of r run in
    let before = c.args.before.now in
    let new = c.stop_at-aboard.new.self in
    let was = c.loop-stop.invariant in
    let step = c.stop_at-aboard.ensures in
    let here : stop_at its i ≡ c.stop-item.result = stop_is r run i c.stops_of-stop-items.result.now c.stop-item.result c.stops_of-stop-items.ensures.stops (omega (arith, c.loop-stop-test.true)) c.stop-item.is in
    record {
      stretched = λ station from to h. step.stretched station from to (was.stretched station from to h);
      aboard = one_further (λ j. HoldTrain before (stop_at its j) → c.stop_at-aboard.result ≡ true) i (λ j h holds. step.stays (was.aboard j h holds))
          (λ holds. step.boards (subst (λ (x : Stop). HoldTrain before x) here holds));
      ridden = λ j k less h.
          one_further (λ n. j < n → HoldTrain before (stop_at its j) → HoldWait new (stop_at its n)) i
          (λ n low more holds. step.stretched (stop_at its n).station.0 (stop_at its n).arrive ((stop_at its n).arrive + longest_wait) (was.ridden j n more low holds))
          (λ more holds. subst (λ (x : Stop). HoldWait new x) (sym here) (step.off (was.aboard j more holds))) k h less;
    }

pub returns-clause-ridden : goal.returns-clause-ridden
returns-clause-ridden c =
    λ j k less h.
    (let ended = c.loop-stop-test.false in
    let size : length c.stops_of-stop-items.result.now ≡ length (stops_of c.args.runs.now c.args.run.0) = ap (λ (l : List Stop). length l) c.stops_of-stop-items.ensures.stops in
    c.loop-stop.invariant.ridden j k less (omega (arith, h, ended, size)))

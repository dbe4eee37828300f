use Rattle.std.proofs.Common.{◌≡◌, ◌+◌, ℕ, length, arith}
use Rattle.train_runs.specs.Runs.{stops_of}
use Rattle.trip_builder.specs.Ends.{IsThere}
use Rattle.trip_builder.specs.Shortest.{AreRidesTo}
use Rattle.trip_builder.proofs.Deciding.{one_further}
use Rattle.trip_builder.proofs.Riding.{lowered_on, rides_stay, past_rides}
use Rattle.trip_builder.proofs.shortest.Shortest.add_last_stops.Goals as goal

pub loop-run-preserved : goal.loop-run-preserved
loop-run-preserved c =
    let r = c.args.runs.now in
    let w = c.args.wish.now in
    let old = c.loop-run.self in
    let new = c.add_last_stop.new.self in
    let was = c.loop-run.invariant in
    let low = c.add_last_stop.ensures.lowered in
    record {
      lowered = lowered_on c.args.self.now old new was.lowered low;
      rides = one_further (λ run. (to : ℕ) → to + 1 ≡ length (stops_of r run) → IsThere r w run to → AreRidesTo r run to new) c.loop-run.run
          (λ run h to last there. rides_stay r run to old new low (was.rides run h to last there)) c.add_last_stop.ensures.rides;
    }

pub returns-clause-rides : goal.returns-clause-rides
returns-clause-rides c =
    past_rides c.args.runs.now c.args.wish.now c.loop-run.self c.count-run-end.result c.count-run-end.ensures.value
    (λ run less. c.loop-run.invariant.rides run (let ended = c.loop-run-test.false in omega (arith, less, ended)))

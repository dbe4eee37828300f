use Rattle.std.proofs.Common.{arith}
use Rattle.trip_builder.specs.Reached.{IsRidden}
use Rattle.trip_builder.proofs.Deciding.{one_further}
use Rattle.trip_builder.proofs.Arriving.{still_ridden, past_ridden}
use Rattle.trip_builder.proofs.reached.Reached.ride_all.Goals as goal

pub loop-run-preserved : goal.loop-run-preserved
loop-run-preserved c =
    let r = c.args.runs.now in
    let before = c.args.before.now in
    let old = c.loop-run.self in
    let new = c.ride.new.self in
    let was = c.loop-run.invariant in
    record {
      stretched = λ station from to h. c.ride.ensures.stretched station from to (was.stretched station from to h);
      ridden = one_further (λ run. IsRidden r before new run) c.loop-run.run (λ run h. still_ridden r before old new run c.ride.ensures.stretched (was.ridden run h)) c.ride.ensures.ridden;
    }

pub returns-clause-ridden : goal.returns-clause-ridden
returns-clause-ridden c =
    past_ridden c.args.runs.now c.args.before.now c.loop-run.self c.count-run-end.result c.count-run-end.ensures.value
    (λ run less. c.loop-run.invariant.ridden run (let over = c.loop-run-test.false in omega (arith, less, over)))

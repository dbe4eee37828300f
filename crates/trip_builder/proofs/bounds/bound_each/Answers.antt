use Rattle.std.proofs.Common.{◌+◌, arith}
use Rattle.trip_builder.specs.Bounds.{IsMarkedRun}
use Rattle.trip_builder.proofs.Deciding.{one_further}
use Rattle.trip_builder.proofs.Reaching.{still_so, past_marked}
use Rattle.trip_builder.proofs.bounds.bound_each.Goals as goal

pub loop-run-preserved : goal.loop-run-preserved
loop-run-preserved c =
    let r = c.args.runs.now in
    let v = c.args.ranks.now in
    let old = c.loop-run.rides.marks.items in
    let new = c.bound_run.new.rides.marks.items in
    let was = c.loop-run.invariant in
    let made = c.bound_run.ensures in
    record {
      rides = λ w changes reach are. made.rides w changes reach (was.rides w changes reach are);
      marked = λ w changes reach. one_further (λ run. IsMarkedRun r w v (changes + 1) run new) c.loop-run.run
          (λ run less. still_so r w v (changes + 1) run old new made.kept (was.marked w changes reach run less)) (made.marked w changes reach);
    }

pub returns-clause-marked : goal.returns-clause-marked
returns-clause-marked c =
    λ w changes reach. past_marked c.args.runs.now w c.args.ranks.now (changes + 1) c.count-run-end.result c.loop-run.rides.marks.items c.count-run-end.ensures.value
    (λ run less. c.loop-run.invariant.marked w changes reach run (let ended = c.loop-run-test.false in omega (arith, less, ended)))

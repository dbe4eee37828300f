use Rattle.std.proofs.Common.{arith}
use Rattle.trip_builder.proofs.Reaching.{firsts_put}
use Rattle.trip_builder.proofs.rides.Rides.put.Goals as goal

pub returns-then-place-len-clause-rides : goal.returns-then-place-len-clause-rides
returns-then-place-len-clause-rides c =
    λ r w v changes are own.
    (let test = c.if-place-len.true in
    let count = c.len.ensures in
    let size = c.args.self.now.firsts.ok in
    record {
      firsts = firsts_put r w v changes c.args.self.now.width c.args.self.now.firsts.items c.args.run.0 c.args.stop c.place-place.result c.args.two c.place-place.ensures c.if-stop-self.false (omega (arith, test, count, size)) are.firsts own;
      whole = are.whole;
    })

use Rattle.std.proofs.Common.{◌≤◌, ◌<◌, arith}
use Rattle.std.proofs.lemmas.Bool.Decides.{nat_tests}
use Rattle.trip_builder.specs.Bounds.{never}
use Rattle.trip_builder.proofs.Keeping.{all_by_limit}
use Rattle.trip_builder.proofs.best.Best.are_all_by.Goals as goal

pub returns-then-self-seconds : goal.returns-then-self-seconds
returns-then-self-seconds c =
    λ r w kept e.
    (let at = c.args.self.now.limit in
    let high = c.ranges.seconds.fits in
    let by : at ≤ c.args.seconds = let t = c.if-self-seconds.true in grind (arith, nat_tests) in
    let small : at < never = grind (arith, nat_tests) in
    all_by_limit r c.args.self.now.trips.items at c.args.seconds kept.are.order kept.limit small by)

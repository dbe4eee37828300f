use Rattle.std.proofs.Common.{◌<◌, arith}
use Rattle.std.proofs.lemmas.Bool.Decides.{nat_tests}
use Rattle.trip_builder.proofs.Keeping.{all_before_late}
use Rattle.trip_builder.proofs.best.Best.are_all_before.Goals as goal

pub returns : goal.returns
returns c =
    λ r w kept e.
    (let at = c.args.self.now.limit in
    let high = c.ranges.seconds.fits in
    let late : at < c.args.seconds = grind (arith, nat_tests) in
    all_before_late r c.args.self.now.trips.items at c.args.seconds kept.are.order kept.limit (omega (arith, high)) late)

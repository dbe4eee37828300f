use Rattle.std.proofs.Common.{◌+◌}
use Rattle.trip_builder.proofs.Reaching.{unknown_rides}
use Rattle.trip_builder.proofs.bounds.all_rides.Goals as goal

pub returns : goal.returns
returns c =
    λ w changes reach.
    (let r = c.args.runs.now in
    let v = c.args.ranks.now in
    c.end.ensures r w v (changes + 1) (c.bound_each.ensures.rides w changes reach (unknown_rides r w v (changes + 1) c.in_ok-rides.rides reach.ranks c.in_ok-rides.ensures))
    (c.bound_each.ensures.marked w changes reach))

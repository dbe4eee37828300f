use Rattle.trip_builder.proofs.Reaching.{unknown_rides}
use Rattle.trip_builder.proofs.bounds.last_rides.Goals as goal

pub returns : goal.returns
returns c =
    λ w ranks.
    (let r = c.args.runs.now in
    let v = c.args.ranks.now in
    c.end.ensures r w v 0 (c.mark_each.ensures.rides w ranks (unknown_rides r w v 0 c.in_ok-rides.rides ranks c.in_ok-rides.ensures)) (c.mark_each.ensures.marked w ranks))

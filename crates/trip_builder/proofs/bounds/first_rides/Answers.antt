use Rattle.std.proofs.Common.{◌+◌}
use Rattle.trip_builder.proofs.Reaching.{unknown_rides}
use Rattle.trip_builder.proofs.bounds.first_rides.Goals as goal

pub returns : goal.returns
returns c =
    λ w changes reach.
    c.board_each.ensures w changes reach (unknown_rides c.args.runs.now w c.args.ranks.now (changes + 1) c.in_ok-rides.rides reach.ranks c.in_ok-rides.ensures)

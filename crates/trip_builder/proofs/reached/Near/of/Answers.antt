use Rattle.trip_builder.proofs.Arriving.{reached_start, reached_further}
use Rattle.trip_builder.proofs.reached.Near.of.Goals as goal

pub returns : goal.returns
returns c =
    let r = c.args.runs.now in
    let w = c.args.wish.now in
    let none = c.in_ok-none.none in
    let first = reached_further r w 0 none c.in_ok-one.one c.in_ok-one.ensures.start c.in_ok-one.ensures.ridden (reached_start r w none c.in_ok-none.ensures) in
    record { one = first; two = c.in_ok-two.ensures first }

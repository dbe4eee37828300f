use Rattle.trip_builder.proofs.reached.Reached.further.Goals as goal

pub returns-clause-start : goal.returns-clause-start
returns-clause-start c =
    let w = c.args.wish.now in
    c.ride_all.ensures.stretched w.origin.0 w.earliest w.latest c.in_ok-reached.ensures

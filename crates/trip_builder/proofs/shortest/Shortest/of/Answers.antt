use Rattle.trip_builder.proofs.Riding.{all_shortest}
use Rattle.trip_builder.proofs.shortest.Shortest.of.Goals as goal

pub returns : goal.returns
returns c =
    all_shortest c.args.runs.now c.args.wish.now c.all_leaving-departures.result.now c.add_departures.new.self c.add_last_stops.new.self c.all_leaving-departures.ensures.leaving c.add_departures.ensures
    c.add_last_stops.ensures.lowered c.add_last_stops.ensures.rides

use Rattle.trip_builder.proofs.Leaving.{are_leaving}
use Rattle.trip_builder.proofs.Rising.{all_rise}
use Rattle.trip_builder.proofs.departures.leaving_from.Goals as goal

pub returns-clause-leaving : goal.returns-clause-leaving
returns-clause-leaving g c =
    are_leaving c.args.runs.now c.args.window.station c.args.window.from c.args.window.to c.departures_within.result.now c.departures_within.ensures.departures

pub returns-clause-rise : goal.returns-clause-rise
returns-clause-rise g c = all_rise c.args.runs.now c.departures_within.ensures.sound

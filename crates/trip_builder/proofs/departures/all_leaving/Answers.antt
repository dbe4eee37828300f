use Rattle.trip_builder.proofs.Leaving.{all_leave}
use Rattle.trip_builder.proofs.Rising.{all_rise}
use Rattle.trip_builder.proofs.departures.all_leaving.Goals as goal

pub returns-clause-leaving : goal.returns-clause-leaving
returns-clause-leaving c = all_leave c.args.runs.now c.args.station c.all_departures.result.now c.all_departures.ensures.departures

pub returns-clause-rise : goal.returns-clause-rise
returns-clause-rise c = all_rise c.args.runs.now c.all_departures.ensures.sound

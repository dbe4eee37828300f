use Rattle.rail_catalogue.proofs.Stationing.{length-with_station}
use Rattle.rail_catalogue.proofs.stations.add_station.Goals as goal

pub returns-in-Ok-clause-count : goal.returns-in-Ok-clause-count
returns-in-Ok-clause-count c = length-with_station _ _ c.args.code.now c.args.change c.in-Ok.ensures.ok.1

use Rattle.std.proofs.Common.{◌≤◌, length}
use Rattle.std.proofs.lemmas.List.Elements.{All-weaker}
use Rattle.train_runs.specs.Stops.{IsRun, most_stops}
use Rattle.search_service.proofs.ranges.know_ranges.Goals as goal

pub returns-clause-stops : goal.returns-clause-stops
returns-clause-stops c = All-weaker (IsRun (length c.args.runs.now.stations)) (λ it. length it.stops ≤ most_stops) (λ it run. run.many) c.args.runs.now.runs c.all_departures.ensures.sound

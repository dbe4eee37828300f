use Rattle.train_runs.proofs.Posting.{none_known}
use Rattle.train_runs.proofs.runs.Runs.departures.Goals as goal

pub returns-clause-unknown : goal.returns-clause-unknown
returns-clause-unknown g c = λ past. none_known c.args.self.now.stations c.args.self.now.runs c.args.station c.seconds.result c.seconds-2.result c.departures_within.result.now c.departures_within.ensures.sound past c.departures_within.ensures.departures

use Rattle.std.proofs.Common.{◌-◌, length}
use Rattle.train_runs.proofs.runs.+post_from.Given as goal

abbrev pub decreases-post_from : goal.decreases-post_from
decreases-post_from l = length l.run.now.stops - l.n

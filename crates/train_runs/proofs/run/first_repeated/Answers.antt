use Rattle.std.proofs.Common.{◌∙◌, sym, length}
use Rattle.train_runs.specs.Stops.{is_repeated}
use Rattle.train_runs.proofs.Stopping.{least_step}
use Rattle.train_runs.proofs.run.first_repeated.Goals as goal

pub loop-n-preserved : goal.loop-n-preserved
loop-n-preserved c = least_step (is_repeated c.args.stops.now) c.loop-n.n (length c.args.stops.now) c.loop-n-test.true (sym c.is_repeated.ensures ∙ c.if-is_repeated.false) ∙ c.loop-n.invariant

use Rattle.host_catalogue.proofs.Printing.{one_run_more}
use Rattle.host_catalogue.proofs.prints.push_runs.Goals as goal

pub loop-number-preserved : goal.loop-number-preserved
loop-number-preserved c =
    one_run_more c.args.runs.now c.args.runs.now.runs c.loop-number.number c.args.text.now.items _ _ c.loop-number.invariant c.in_ok-push_run_at.ensures

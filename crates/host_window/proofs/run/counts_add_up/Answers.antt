use Rattle.host_window.proofs.Sums.{added}
use Rattle.host_window.proofs.run.counts_add_up.Goals as goal

pub returns : goal.returns
returns c = λ text begun counts all few. added text begun counts all few

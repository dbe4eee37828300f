use Rattle.host_journal.proofs.Running.{others_pass}
use Rattle.host_journal.proofs.laws.other_calls_pass.Goals as goal

pub returns : goal.returns
returns c = others_pass

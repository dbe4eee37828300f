use Rattle.host_journal.proofs.Running.{unchanged_meanwhile}
use Rattle.host_journal.proofs.laws.nothing_changes_meanwhile.Goals as goal

pub returns : goal.returns
returns c = record { still = unchanged_meanwhile }

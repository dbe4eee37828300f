use Rattle.host_journal.proofs.Again.{there_again}
use Rattle.host_journal.proofs.laws.answers_are_there_again.Goals as goal

pub returns : goal.returns
returns c = record { again = there_again }

use Rattle.host_journal.proofs.OneAnswer.{one_answer}
use Rattle.host_journal.proofs.laws.answers_may_be_kept.Goals as goal

pub returns : goal.returns
returns c = record { some = one_answer }

use Rattle.host_journal.proofs.Running.{follows_cut}
use Rattle.host_journal.proofs.laws.answers_follow_cuts.Goals as goal

pub returns : goal.returns
returns c = record { follows = follows_cut }

use Rattle.history_model.proofs.Histories.{state-push, legal-push}
use Rattle.history_model.proofs.laws.histories_go_on.Goals as goal

pub returns-clause-legal : goal.returns-clause-legal
returns-clause-legal c = λ g history e legal may. (legal.0, legal-push g g.opening history e legal.1 may)

pub returns-clause-state : goal.returns-clause-state
returns-clause-state c = λ g history e. state-push g.opening history e

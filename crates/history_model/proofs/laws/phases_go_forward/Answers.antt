use Rattle.history_model.specs.History.{state_of}
use Rattle.history_model.proofs.Forward.{stages-history, next-history, state-append, legal_right}
use Rattle.history_model.proofs.Leading.{leads-history}
use Rattle.history_model.proofs.laws.phases_go_forward.Goals as goal

pub returns-clause-stages : goal.returns-clause-stages
returns-clause-stages c = λ g history more row generation l. rw (state-append g.opening history more) (stages-history g (state_of g history) more row generation (legal_right g g.opening history more l.1))

pub returns-clause-leads : goal.returns-clause-leads
returns-clause-leads c = λ g history more row generation l. rw (state-append g.opening history more) (leads-history g (state_of g history) more row generation (legal_right g g.opening history more l.1))

pub returns-clause-generations : goal.returns-clause-generations
returns-clause-generations c = λ g history more row l. rw (state-append g.opening history more) (next-history g (state_of g history) more row (legal_right g g.opening history more l.1))

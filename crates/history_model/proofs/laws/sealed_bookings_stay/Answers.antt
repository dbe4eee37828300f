use Rattle.history_model.specs.History.{state_of}
use Rattle.history_model.proofs.Forward.{stays_all, state-append, legal_right}
use Rattle.history_model.proofs.laws.sealed_bookings_stay.Goals as goal

pub returns : goal.returns
returns c = record { stays = λ g history more row generation l. rw (state-append g.opening history more) (stays_all g (state_of g history) more row generation (legal_right g g.opening history more l.1)) }

use Rattle.history_model.proofs.Lives.{ended_all}
use Rattle.history_model.proofs.laws.ended_bookings_gave_back.Goals as goal

pub returns : goal.returns
returns c = record { ended = ended_all }

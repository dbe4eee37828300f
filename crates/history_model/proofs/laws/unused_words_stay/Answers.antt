use Rattle.history_model.proofs.Unused.{unused_stay}
use Rattle.history_model.proofs.laws.unused_words_stay.Goals as goal

pub returns : goal.returns
returns c = record { stay = unused_stay }

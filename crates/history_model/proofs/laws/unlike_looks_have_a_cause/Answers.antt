use Rattle.history_model.proofs.Looks.{unlike_looks, none_own}
use Rattle.history_model.proofs.laws.unlike_looks_have_a_cause.Goals as goal

pub returns : goal.returns
returns c = record { changed = unlike_looks; others = none_own }

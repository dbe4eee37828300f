use Rattle.row_cuts.proofs.Folding.{folds}
use Rattle.row_cuts.proofs.laws.cuts_fold_to_exports.Goals as goal

pub returns : goal.returns
returns c places rows cuts follow = folds places rows cuts follow

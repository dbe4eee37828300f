use Rattle.row_cuts.proofs.Told.{goes_on}
use Rattle.row_cuts.proofs.laws.told_histories_go_on.Goals as goal

pub returns : goal.returns
returns c w cuts told opened ends front opens = goes_on w cuts told opened ends front opens

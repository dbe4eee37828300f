use Rattle.row_cuts.proofs.ReadBack.{all_read_back}
use Rattle.row_cuts.proofs.laws.journals_are_read_back.Goals as goal

pub returns : goal.returns
returns c w cuts sizes begun closed tidy follow last = all_read_back w cuts sizes begun closed tidy follow last

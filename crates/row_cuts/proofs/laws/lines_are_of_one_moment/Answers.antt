use Rattle.row_cuts.proofs.Quiet.{one_moment}
use Rattle.row_cuts.proofs.laws.lines_are_of_one_moment.Goals as goal

pub returns : goal.returns
returns c rows text more count old new legal fit quiet adds = one_moment rows text more count old new legal fit quiet adds

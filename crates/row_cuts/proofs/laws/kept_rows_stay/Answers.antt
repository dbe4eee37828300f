use Rattle.row_cuts.proofs.Kept.{stays}
use Rattle.row_cuts.proofs.laws.kept_rows_stay.Goals as goal

pub returns : goal.returns
returns c g history more row legal kept = stays g history more row legal kept

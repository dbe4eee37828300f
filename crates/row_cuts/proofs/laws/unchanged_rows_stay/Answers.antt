use Rattle.row_cuts.proofs.Unchanged.{unchanged}
use Rattle.row_cuts.proofs.laws.unchanged_rows_stay.Goals as goal

pub returns : goal.returns
returns c g history more row legal same = unchanged g history more row legal same

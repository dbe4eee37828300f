use Rattle.std.proofs.Common.{inl, inr, ⊎_elim}
use Rattle.row_cuts.proofs.Kept.{stays}
use Rattle.row_cuts.proofs.Unchanged.{unchanged}
use Rattle.row_cuts.proofs.laws.changed_rows_suffice.Goals as goal

pub returns : goal.returns
returns c g history more count rows legal all =
    record {
      changes = λ row below. ⊎_elim (λ same. inl (unchanged g history more row legal same)) (λ among. inr among) (all row);
      stays = λ row below kept. stays g history more row legal kept;
    }

use Rattle.exchange_core.proofs.Kept.{ready_on}
use Rattle.exchange_core.proofs.laws.ready_stays.Goals as goal

pub returns : goal.returns
returns c = record { stays = ready_on }

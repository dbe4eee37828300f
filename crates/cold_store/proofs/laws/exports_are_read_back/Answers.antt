use Rattle.cold_store.proofs.ReadAgain.{exports_read_back}
use Rattle.cold_store.proofs.laws.exports_are_read_back.Goals as goal

pub returns : goal.returns
returns c w text sizes begun closed is = exports_read_back w text sizes begun closed is

use Rattle.service_laws.proofs.Placing.{commands_bounded}
use Rattle.service_laws.proofs.laws.commands_are_bounded.Goals as goal

pub returns : goal.returns
returns c = record { bounded = commands_bounded }

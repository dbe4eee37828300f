use Rattle.rail_service.proofs.Looking.{looks_alone}
use Rattle.rail_service.proofs.reach.unchanging_commands_look.Goals as goal

pub returns : goal.returns
returns c = record { looks = looks_alone }

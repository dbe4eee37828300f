use Rattle.plain_host.proofs.AllLaws.{command_plain}
use Rattle.plain_host.proofs.places.commands_are_plain.Goals as goal

pub returns : goal.returns
returns c = record { plain = command_plain }

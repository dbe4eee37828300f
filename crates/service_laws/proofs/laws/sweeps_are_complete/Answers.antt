use Rattle.expiry_sweeper.proofs.Completing.{leaves_none}
use Rattle.service_laws.proofs.Commanding.{sweep_commands_complete}
use Rattle.service_laws.proofs.laws.sweeps_are_complete.Goals as goal

pub returns-clause-complete : goal.returns-clause-complete
returns-clause-complete c = leaves_none

pub returns-clause-commands : goal.returns-clause-commands
returns-clause-commands c = sweep_commands_complete

use Rattle.service_laws.proofs.Honouring.{exchanges_honoured}
use Rattle.service_laws.proofs.Commanding.{exchange_commands_honoured}
use Rattle.service_laws.proofs.laws.exchange_quotes_are_honoured.Goals as goal

pub returns-clause-honoured : goal.returns-clause-honoured
returns-clause-honoured c = exchanges_honoured

pub returns-clause-commands : goal.returns-clause-commands
returns-clause-commands c = exchange_commands_honoured

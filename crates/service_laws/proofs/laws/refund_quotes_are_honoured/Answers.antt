use Rattle.service_laws.proofs.Honouring.{refunds_honoured}
use Rattle.service_laws.proofs.Commanding.{refund_commands_honoured}
use Rattle.service_laws.proofs.laws.refund_quotes_are_honoured.Goals as goal

pub returns-clause-honoured : goal.returns-clause-honoured
returns-clause-honoured c = refunds_honoured

pub returns-clause-commands : goal.returns-clause-commands
returns-clause-commands c = refund_commands_honoured

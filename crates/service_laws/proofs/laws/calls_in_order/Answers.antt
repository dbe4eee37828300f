use Rattle.service_laws.proofs.Calls.{calls_ordered, learned_later}
use Rattle.service_laws.proofs.laws.calls_in_order.Goals as goal

pub returns-clause-in_order : goal.returns-clause-in_order
returns-clause-in_order c = calls_ordered

pub returns-clause-learned : goal.returns-clause-learned
returns-clause-learned c = learned_later

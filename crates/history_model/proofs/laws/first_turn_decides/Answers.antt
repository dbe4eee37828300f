use Rattle.history_model.proofs.Forward.{turned_once}
use Rattle.history_model.proofs.Leading.{turn_decides, losers_see, leads-confirmed, leads-ending}
use Rattle.history_model.proofs.laws.first_turn_decides.Goals as goal

pub returns-clause-once : goal.returns-clause-once
returns-clause-once c = λ g before between after first second row generation from then one now two l. turned_once g g.opening before between after first second row generation from then one now two l.1

pub returns-clause-decides : goal.returns-clause-decides
returns-clause-decides c = λ g before after first row generation from to next turn l. turn_decides g g.opening before after first row generation from to next turn l.1

pub returns-clause-losers : goal.returns-clause-losers
returns-clause-losers c = λ g before between after first lost row generation from to shown next turn lose l. losers_see g g.opening before between after first lost row generation from to shown next turn lose l.1

pub returns-clause-confirmed : goal.returns-clause-confirmed
returns-clause-confirmed c = leads-confirmed

pub returns-clause-ending : goal.returns-clause-ending
returns-clause-ending c = leads-ending

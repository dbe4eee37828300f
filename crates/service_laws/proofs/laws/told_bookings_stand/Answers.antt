use Rattle.service_laws.proofs.Making.{created_so, exchanged_so}
use Rattle.service_laws.proofs.Saying.{shown_so, confirmed_so, fulfilled_so, released_so, refunded_so}
use Rattle.service_laws.proofs.laws.told_bookings_stand.Goals as goal

pub returns-clause-shown : goal.returns-clause-shown
returns-clause-shown c = shown_so

pub returns-clause-confirmed : goal.returns-clause-confirmed
returns-clause-confirmed c = confirmed_so

pub returns-clause-fulfilled : goal.returns-clause-fulfilled
returns-clause-fulfilled c = fulfilled_so

pub returns-clause-released : goal.returns-clause-released
returns-clause-released c = released_so

pub returns-clause-refunded : goal.returns-clause-refunded
returns-clause-refunded c = refunded_so

pub returns-clause-created : goal.returns-clause-created
returns-clause-created c = created_so

pub returns-clause-exchanged : goal.returns-clause-exchanged
returns-clause-exchanged c = exchanged_so

use Rattle.service_laws.proofs.Finding.{bookings_found, bookings_shown}
use Rattle.service_laws.proofs.Refusing.{refusals_further}
use Rattle.service_laws.proofs.laws.told_bookings_are_found.Goals as goal

pub returns-clause-found : goal.returns-clause-found
returns-clause-found c = bookings_found

pub returns-clause-shown : goal.returns-clause-shown
returns-clause-shown c = bookings_shown

pub returns-clause-refused : goal.returns-clause-refused
returns-clause-refused c = refusals_further

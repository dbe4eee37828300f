use Rattle.std.proofs.Common.{refl}
use Rattle.osdm_json.proofs.reader.read_in.Goals as goal

pub returns-in-Offers-clause-ok : goal.returns-in-Offers-clause-ok
returns-in-Offers-clause-ok c = rw c.in-Offers.is c.read_offers.ensures.ok

pub returns-in-Show-clause-ok : goal.returns-in-Show-clause-ok
returns-in-Show-clause-ok c = (c.in-Show.id.now, rw c.in-Show.is refl, c.row_of.ensures)

pub returns-in-Release-clause-ok : goal.returns-in-Release-clause-ok
returns-in-Release-clause-ok c = (c.in-Release.id.now, rw c.in-Release.is refl, c.row_of-in-Release.ensures)

pub returns-in-Confirm-clause-ok : goal.returns-in-Confirm-clause-ok
returns-in-Confirm-clause-ok c = (c.in-Confirm.id.now, rw c.in-Confirm.is refl, c.row_of-in-Confirm.ensures)

pub returns-in-QuoteRefund-clause-ok : goal.returns-in-QuoteRefund-clause-ok
returns-in-QuoteRefund-clause-ok c = (c.in-QuoteRefund.id.now, rw c.in-QuoteRefund.is refl, c.row_of-in-QuoteRefund.ensures)

pub returns-in-Reserve-clause-ok : goal.returns-in-Reserve-clause-ok
returns-in-Reserve-clause-ok c = rw c.in-Reserve.is c.read_reserve.ensures.ok

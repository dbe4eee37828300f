use Rattle.rail_service.proofs.Pathways.{Offers-named, Bookings-named, Reservations-named, Booking-named, Fulfillments-named, RefundOffers-named, RefundOffer-named, ExchangeOffers-named, ExchangeOperations-named, Places-named, Sweeps-named}
use Rattle.rail_service.proofs.resource.paths_name_resources.Goals as goal

pub returns-clause-offers : goal.returns-clause-offers
returns-clause-offers c = Offers-named

pub returns-clause-bookings : goal.returns-clause-bookings
returns-clause-bookings c = Bookings-named

pub returns-clause-reservations : goal.returns-clause-reservations
returns-clause-reservations c = Reservations-named

pub returns-clause-booking : goal.returns-clause-booking
returns-clause-booking c = Booking-named

pub returns-clause-fulfillments : goal.returns-clause-fulfillments
returns-clause-fulfillments c = Fulfillments-named

pub returns-clause-refund_offers : goal.returns-clause-refund_offers
returns-clause-refund_offers c = RefundOffers-named

pub returns-clause-refund_offer : goal.returns-clause-refund_offer
returns-clause-refund_offer c = RefundOffer-named

pub returns-clause-exchange_offers : goal.returns-clause-exchange_offers
returns-clause-exchange_offers c = ExchangeOffers-named

pub returns-clause-exchange_operations : goal.returns-clause-exchange_operations
returns-clause-exchange_operations c = ExchangeOperations-named

pub returns-clause-places : goal.returns-clause-places
returns-clause-places c = Places-named

pub returns-clause-sweeps : goal.returns-clause-sweeps
returns-clause-sweeps c = Sweeps-named

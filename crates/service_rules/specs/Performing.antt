-- What each order does, and is answered.
use Rattle.std.specs.Prelude.{ℕ, []}
use Rattle.offer_codes.specs.Offers.{offer_view}
use Rattle.offer_codes.specs.Exchanges.{exchange_view}
use Rattle.catalogue_contents.specs.Contents.{CatalogueView}
use Rattle.claim_rule.specs.Rule.{DeskView}
use Rattle.claim_rule.specs.Desks.{AddsSteps}
use Rattle.osdm_texts.specs.Answers.{Reply}
use Rattle.booking_service.specs.Deciding.{OnBooking, shows, ConfirmsFound, FulfilsFound, ReleasesFound}
use Rattle.booking_service.specs.Sweeping.{SweepsRows}
use Rattle.reservation_service.specs.Reserving.{reserved, Reserves}
use Rattle.search_service.specs.Searching.{SearchesOffers, ListsPlaces}
use Rattle.trade_service.specs.Refunds.{AnswersRefundQuote, RefundsFound}
use Rattle.trade_service.specs.Exchanges.{AnswersExchangeQuote, AnswersAcceptedExchange}
use Rattle.service_rules.specs.Ordered as order

-- no step was made
abbrev pub DoesNothing : DeskView → DeskView → Type 0
DoesNothing old new = AddsSteps old new []

-- what an order does and answers
abbrev pub Performs : CatalogueView → ℕ → ℕ → order.Ordered → DeskView → DeskView → Reply → Type 0
Performs cat retailer now (order.offers wish) old new reply = SearchesOffers cat wish now old new reply
Performs cat retailer now (order.book code together) old new reply =
    Reserves cat retailer now (offer_view code) together old new reply
Performs cat retailer now (order.reserve r) old new reply =
    Reserves cat retailer now (reserved r.segment r.class r.count r.traits now) r.together old new reply
Performs cat retailer now (order.show row) old new reply =
    OnBooking cat.rows row retailer (shows row) old new reply
Performs cat retailer now (order.release row) old new reply =
    OnBooking cat.rows row retailer (ReleasesFound cat.rows row retailer now) old new reply
Performs cat retailer now (order.confirm row) old new reply =
    OnBooking cat.rows row retailer (ConfirmsFound cat.rows row retailer now) old new reply
Performs cat retailer now (order.fulfil row) old new reply =
    OnBooking cat.rows row retailer (FulfilsFound cat.rows row retailer) old new reply
Performs cat retailer now (order.quote_refund row) old new reply =
    AnswersRefundQuote cat cat.rows row retailer now old new reply
Performs cat retailer now (order.accept_refund code) old new reply =
    OnBooking cat.rows code.row retailer (RefundsFound cat cat.rows retailer code now) old new reply
Performs cat retailer now (order.quote_exchange row code) old new reply =
    AnswersExchangeQuote cat cat.rows row retailer (offer_view code) now old new reply
Performs cat retailer now (order.accept_exchange code) old new reply =
    AnswersAcceptedExchange cat cat.rows retailer (exchange_view code) now old new reply
Performs cat retailer now (order.places segment) old new reply = ListsPlaces cat segment old new reply
Performs cat retailer now order.sweep old new reply = SweepsRows cat.rows now old new reply

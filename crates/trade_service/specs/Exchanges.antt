-- Quoting an exchange, and carrying it out: what is done, and what is answered.
use Rattle.std.specs.Prelude.{false, ◌≡◌, ◌⊎◌, ℕ, ℤ, List, length}
use Rattle.leg_masks.specs.Interval.{PlacedSpan as Item}
use Rattle.rail_ids.specs.declared.RowNo.{RowNo}
use Rattle.history_model.specs.declared.phase.Phase.{Phase}
use Rattle.history_model.specs.declared.phase.Phase.TheVariants as phase
use Rattle.claim_rule.specs.Rule.{DeskView}
use Rattle.claim_rule.specs.Desks.{AddsSteps}
use Rattle.claim_rule.specs.Calls.{AddsStepsBy}
use Rattle.claim_rule.specs.Holds.{HoldView}
use Rattle.claim_rule.specs.Out.{SealsItems}
use Rattle.booking_rows.specs.declared.notes.Detail.{Detail}
use Rattle.booking_rows.specs.Notes.{detail_notes}
use Rattle.catalogue_contents.specs.Contents.{CatalogueView}
use Rattle.offer_codes.specs.Offers.{OfferView}
use Rattle.offer_codes.specs.Exchanges.{ExchangeView}
use Rattle.exchange_core.specs.Ready.{ReadyView}
use Rattle.exchange_core.specs.Exchanges.{QuotesExchange, Readies}
use Rattle.exchange_core.specs.Accepting.{AcceptsExchange}
use Rattle.exchange_core.specs.declared.quoting.QuotedExchange.{QuotedExchange}
use Rattle.exchange_core.specs.declared.quoting.QuotedExchange.TheVariants as quoted
use Rattle.exchange_core.specs.declared.readying.Readied.{Readied}
use Rattle.exchange_core.specs.declared.readying.Readied.TheVariants as readied
use Rattle.exchange_core.specs.declared.accepting.Exchanged.TheVariants as accepted
use Rattle.osdm_parts.specs.declared.problem.Problem.{Problem}
use Rattle.osdm_parts.specs.declared.problem.Problem.TheVariants.{UnknownBooking, WrongState, OfferTooOld, QuoteWrong, NoMemory}
use Rattle.osdm_texts.specs.Answers.{Reply, exchange_offer, exchanged, problem, Told, reply_told}
use Rattle.booking_service.specs.Deciding.{Replying}
use Rattle.reservation_service.specs.Holding.{HoldsPlaces, GivesUp}
use Rattle.osdm_texts.specs.Seen.{made_view}
use Rattle.reservation_service.specs.Reserving.{detail_of, FailsToHold, HasAllOrNone}
use Rattle.reservation_service.specs.declared.holding.Placing.TheVariants.{Whole}

-- the quote, or that there is no memory for it; a refusal takes none
abbrev pub IsExchangeQuote : QuotedExchange → Reply → Type 0
IsExchangeQuote (quoted.Done code) reply = (reply ≡ exchange_offer code) ⊎ (reply ≡ problem NoMemory)
IsExchangeQuote quoted.Unknown reply = reply ≡ problem UnknownBooking
IsExchangeQuote (quoted.WrongState shown) reply = reply ≡ problem (WrongState shown)

abbrev pub AnswersExchangeQuote : CatalogueView → ℕ → RowNo → ℕ → OfferView → ℕ → Replying
AnswersExchangeQuote cat rows row retailer offer now old new reply =
    (a : QuotedExchange) × AddsStepsBy (QuotesExchange cat rows row retailer offer now a) old new
    × IsExchangeQuote a reply

-- why a quote isn't carried out
abbrev pub IsUnready : Readied → Problem → Type 0
IsUnready (readied.Fine ready) p = ⊥
IsUnready readied.Unknown p = p ≡ UnknownBooking
IsUnready (readied.WrongState shown) p = p ≡ WrongState shown
IsUnready (readied.QuoteStale made now) p = p ≡ OfferTooOld made now
IsUnready readied.QuoteWrong p = p ≡ QuoteWrong

-- the quote that was checked for this retailer at this moment
abbrev pub ready_of : ℕ → ExchangeView → ℕ → ReadyView
ready_of retailer code now = record { code = code; retailer = retailer; moment = now }

-- why an exchange whose turn was lost wasn't made: the booking's row was given away, or it is in another phase
abbrev pub lost_problem : Phase → Problem
lost_problem phase.Free = UnknownBooking
lost_problem shown = WrongState shown

-- The detail is noted and the exchange made, with a booking that has just these items; or its turn was lost, and what
-- was held is given back.
abbrev pub Decides : ReadyView → RowNo → List Item → Detail → Replying
Decides ready row items d old new reply =
    (noted : DeskView) × AddsSteps old noted (detail_notes row.row d (length items))
    × (((made : RowNo) × (difference : ℤ)
    × AddsStepsBy (AcceptsExchange ready row (accepted.Done made difference)) noted new
    × SealsItems old new row phase.Confirmed items
    × (reply ≡ exchanged row (made_view phase.Confirmed d items) ready.code.difference ready.code.row))
    ⊎ ((shown : Phase) × (hold : HoldView) × (lost : DeskView)
    × AddsStepsBy (AcceptsExchange ready row (accepted.WrongState shown hold)) noted lost × GivesUp row items lost new
    × (reply ≡ problem (lost_problem shown))))

-- with all places held: the exchange is decided; or there is no memory for the answer, and what was held is given back
abbrev pub DecidesOrNot : ReadyView → RowNo → List Item → Detail → Replying
DecidesOrNot ready row items d old new reply =
    Decides ready row items d old new reply ⊎ (GivesUp row items old new × (reply ≡ problem NoMemory))

-- by a quote that was checked: the places of the new booking are held, and the exchange is decided
abbrev pub CarriesOut : CatalogueView → ReadyView → Replying
CarriesOut cat ready old new reply =
    FailsToHold cat ready.code.offer false old new reply
    ⊎ ((row : RowNo) × (items : List Item) × (held : DeskView)
    × HoldsPlaces cat ready.code.offer false ready.code.offer.segments row Whole items old held
    × DecidesOrNot ready row items (detail_of cat ready.code.offer ready.retailer ready.moment) held new reply)

-- the quote is checked, and refused or carried out
abbrev pub AnswersAcceptedExchange : CatalogueView → ℕ → ℕ → ExchangeView → ℕ → Replying
AnswersAcceptedExchange cat rows retailer code now old new reply =
    ((a : Readied) × (p : Problem) × AddsStepsBy (Readies cat rows retailer code now a) old new × IsUnready a p
    × (reply ≡ problem p))
    ⊎ ((mid : DeskView) × AddsStepsBy
    (Readies cat rows retailer code now (readied.Fine (ready_of retailer code now))) old mid
    × CarriesOut cat (ready_of retailer code now) mid new reply)

-- such a reply to a quote that was checked, which has all places or none, and what is told of it
abbrev pub AnswersReady : CatalogueView → ReadyView → DeskView → DeskView → Told → Type 0
AnswersReady cat ready old new said =
    (reply : Reply) × CarriesOut cat ready old new reply × HasAllOrNone cat ready.code.offer old new reply
    × (said ≡ reply_told cat reply)

-- the same of the whole command
abbrev pub AnswersExchange : CatalogueView → ℕ → ℕ → ExchangeView → ℕ → DeskView → DeskView → Told → Type 0
AnswersExchange cat rows retailer code now old new said =
    (reply : Reply) × AnswersAcceptedExchange cat rows retailer code now old new reply
    × HasAllOrNone cat code.offer old new reply
    × (said ≡ reply_told cat reply)

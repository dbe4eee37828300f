-- The same of commands, as they are answered.
use Rattle.std.specs.Prelude.{◌≡◌, ◌⊎◌, ℕ, Result, Ok}
use Rattle.rail_ids.specs.declared.RowNo.{RowNo}
use Rattle.history_model.specs.declared.phase.Phase.{Phase}
use Rattle.history_model.specs.declared.phase.EndKind.TheVariants as kind
use Rattle.claim_rule.specs.Rule.{BooksView, DeskView, state_seen}
use Rattle.claim_rule.specs.Desks.{IsOf}
use Rattle.booking_rows.specs.Views.{RowSeen}
use Rattle.booking_rows.specs.Aims.{end_of}
use Rattle.booking_rows.specs.declared.turns.Aim.TheVariants as aim
use Rattle.catalogue_contents.specs.Contents.{CatalogueView}
use Rattle.offer_codes.specs.declared.code.RefundCode.{RefundCode}
use Rattle.offer_codes.specs.declared.code.OfferCode.{OfferCode}
use Rattle.offer_codes.specs.declared.code.ExchangeCode.{ExchangeCode}
use Rattle.offer_codes.specs.Exchanges.{ExchangeView, exchange_view}
use Rattle.refund_core.specs.Quotes.{phase_named}
use Rattle.exchange_core.specs.Exchanges.{Readies}
use Rattle.exchange_core.specs.declared.readying.Readied.TheVariants as readied
use Rattle.osdm_texts.specs.Answers.{Reply, booking, refund_offer, exchange_offer, problem}
use Rattle.osdm_parts.specs.declared.problem.Problem.{Problem}
use Rattle.osdm_parts.specs.declared.problem.Problem.TheVariants.{UnknownBooking, WrongState, NoMemory}
use Rattle.booking_service.specs.Deciding.{Replying, at_end}
use Rattle.claim_rule.specs.Calls.{AddsStepsBy}
use Rattle.trade_service.specs.Exchanges.{CarriesOut, ready_of}
use Rattle.service_rules.specs.Ordered as order
use Rattle.service_rules.specs.Performing.{Performs}
use Rattle.expiry_sweeper.specs.Complete.{HasLeft, LeavesNoneOverdue}
use Rattle.service_laws.specs.Begun.{BeginsAfter}
use Rattle.service_laws.specs.Honoured.{IsInTime}

-- what holds where a command orders a sweep
abbrev pub IfSweeps : Result order.Ordered Problem → Type 0 → Type 0
IfSweeps (Ok order.sweep) P = P
IfSweeps _ P = Unit {0}

abbrev pub SweepCommandsAreComplete : Type 0
SweepCommandsAreComplete =
    (cat : CatalogueView) (books : BooksView) (old new : DeskView) (retailer now : ℕ) (reply : Reply)
    → IsOf books old → cat.rows ≡ books.layout.rows → Performs cat retailer now order.sweep old new reply
    → LeavesNoneOverdue books now old new

-- the booking at its end, with the amount of the code; or that there is no memory; or that the booking is unknown or in
-- another phase, where it has left the phase that the code names
abbrev pub RepliesHonour : RefundCode → ℕ → DeskView → Reply → Type 0
RepliesHonour code now new reply =
    ((v : RowSeen) × (reply ≡ booking code.row (at_end kind.Refund (end_of (aim.Refund now code.amount)) v)))
    ⊎ ((reply ≡ problem NoMemory)
    ⊎ (HasLeft (phase_named code.fulfilled) (state_seen new) code.row
    × ((reply ≡ problem UnknownBooking) ⊎ ((shown : Phase) × (reply ≡ problem (WrongState shown))))))

abbrev pub RefundCommandsAreHonoured : Type 0
RefundCommandsAreHonoured =
    (cat : CatalogueView) (retailer made now : ℕ) (row : RowNo) (code : RefundCode) (reply : Reply)
    (asking asked old new : DeskView)
    → Performs cat retailer made (order.quote_refund row) asking asked (refund_offer code)
    → Performs cat retailer now (order.accept_refund code) old new reply
    → BeginsAfter asked old new → IsInTime made now → RepliesHonour code now new reply

-- the exchange is tried, by a quote that was found right; or the booking is unknown or in another phase, where it has
-- left the phase that the code names
abbrev pub TriesExchange : CatalogueView → ℕ → ExchangeView → ℕ → Replying
TriesExchange cat retailer code now old new reply =
    ((mid : DeskView)
    × AddsStepsBy (Readies cat cat.rows retailer code now (readied.Fine (ready_of retailer code now))) old mid
    × CarriesOut cat (ready_of retailer code now) mid new reply)
    ⊎ (HasLeft (phase_named code.fulfilled) (state_seen new) code.row
    × ((reply ≡ problem UnknownBooking) ⊎ ((shown : Phase) × (reply ≡ problem (WrongState shown)))))

-- the code that is accepted spells as the one that was quoted
abbrev pub ExchangeCommandsAreHonoured : Type 0
ExchangeCommandsAreHonoured =
    (cat : CatalogueView) (retailer made now : ℕ) (row : RowNo) (offer : OfferCode) (told code : ExchangeCode)
    (reply : Reply) (asking asked old new : DeskView)
    → Performs cat retailer made (order.quote_exchange row offer) asking asked (exchange_offer told)
    → exchange_view told ≡ exchange_view code
    → Performs cat retailer now (order.accept_exchange code) old new reply
    → BeginsAfter asked old new → IsInTime made now
    → TriesExchange cat retailer (exchange_view code) now old new reply

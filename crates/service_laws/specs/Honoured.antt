-- What a quote is worth to the retailer that it was given to.
use Rattle.std.specs.Prelude.{◌≡◌, ◌≤◌, ◌+◌, ℕ}
use Rattle.rail_ids.specs.declared.RowNo.{RowNo}
use Rattle.claim_rule.specs.Rule.{DeskView, state_seen}
use Rattle.claim_rule.specs.Calls.{AddsStepsBy}
use Rattle.catalogue_contents.specs.Contents.{CatalogueView}
use Rattle.offer_codes.specs.declared.code.RefundCode.{RefundCode}
use Rattle.offer_codes.specs.declared.code.ExchangeCode.{ExchangeCode}
use Rattle.offer_codes.specs.Offers.{OfferView, valid_seconds}
use Rattle.offer_codes.specs.Exchanges.{ExchangeView, exchange_view}
use Rattle.refund_core.specs.Quotes.{phase_named}
use Rattle.refund_core.specs.Refunding.{QuotesRefund, AcceptsRefund}
use Rattle.refund_core.specs.declared.quoting.Quoted.TheVariants as quoted
use Rattle.refund_core.specs.declared.refunding.Refunded.{Refunded}
use Rattle.refund_core.specs.declared.refunding.Refunded.TheVariants as refunded
use Rattle.exchange_core.specs.Exchanges.{QuotesExchange, Readies}
use Rattle.exchange_core.specs.declared.quoting.QuotedExchange.TheVariants as quoted_exchange
use Rattle.exchange_core.specs.declared.readying.Readied.{Readied}
use Rattle.exchange_core.specs.declared.readying.Readied.TheVariants as readied
use Rattle.expiry_sweeper.specs.Complete.{HasLeft}
use Rattle.service_laws.specs.Begun.{BeginsAfter}

-- at most 900 seconds after it was made
abbrev pub IsInTime : ℕ → ℕ → Type 0
IsInTime made now = (made ≤ now) × (now ≤ made + valid_seconds)

-- the refund is paid, of the amount quoted; or the booking has left the phase that the code names
abbrev pub HonoursRefund : RefundCode → DeskView → Refunded → Type 0
HonoursRefund code new (refunded.Done amount) = amount ≡ code.amount
HonoursRefund code new refunded.Unknown = HasLeft (phase_named code.fulfilled) (state_seen new) code.row
HonoursRefund code new (refunded.WrongState shown) = HasLeft (phase_named code.fulfilled) (state_seen new) code.row
HonoursRefund code new (refunded.QuoteStale made now) = ⊥
HonoursRefund code new refunded.QuoteWrong = ⊥

abbrev pub RefundQuotesAreHonoured : Type 0
RefundQuotesAreHonoured =
    (cat : CatalogueView) (rows retailer made now : ℕ) (row : RowNo) (code : RefundCode) (answer : Refunded)
    (asking asked old new : DeskView)
    → AddsStepsBy (QuotesRefund cat rows row retailer made (quoted.Done code)) asking asked
    → AddsStepsBy (AcceptsRefund cat rows retailer code now answer) old new
    → BeginsAfter asked old new → IsInTime made now → HonoursRefund code new answer

-- the quote is found right; or the booking has left the phase that the code names
abbrev pub HonoursExchange : ExchangeView → DeskView → Readied → Type 0
HonoursExchange code new (readied.Fine ready) = ready.code ≡ code
HonoursExchange code new readied.Unknown = HasLeft (phase_named code.fulfilled) (state_seen new) code.row
HonoursExchange code new (readied.WrongState shown) = HasLeft (phase_named code.fulfilled) (state_seen new) code.row
HonoursExchange code new (readied.QuoteStale made now) = ⊥
HonoursExchange code new readied.QuoteWrong = ⊥

abbrev pub ExchangeQuotesAreHonoured : Type 0
ExchangeQuotesAreHonoured =
    (cat : CatalogueView) (rows retailer made now : ℕ) (row : RowNo) (offer : OfferView) (code : ExchangeCode)
    (answer : Readied) (asking asked old new : DeskView)
    → AddsStepsBy (QuotesExchange cat rows row retailer offer made (quoted_exchange.Done code)) asking asked
    → AddsStepsBy (Readies cat rows retailer (exchange_view code) now answer) old new
    → BeginsAfter asked old new → IsInTime made now → HonoursExchange (exchange_view code) new answer

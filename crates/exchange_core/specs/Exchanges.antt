-- Quoting an exchange, and checking a quote.
use Rattle.std.specs.Prelude.{◌≡◌, ◌≢◌, ℕ, ℤ, pos, ◌-ℤ◌, ◌+◌, ◌<◌, true, false, Bool, List, []}
use Rattle.history_model.specs.declared.entry.Step.{Step}
use Rattle.history_model.specs.declared.phase.Phase.TheVariants.{Confirmed, Fulfilled}
use Rattle.booking_rows.specs.Views.{RowSeen}
use Rattle.catalogue_contents.specs.Contents.{CatalogueView}
use Rattle.rail_ids.specs.declared.RowNo.{RowNo}
use Rattle.offer_codes.specs.declared.code.ExchangeCode.{ExchangeCode}
use Rattle.offer_codes.specs.Offers.{OfferView}
use Rattle.offer_codes.specs.Exchanges.{ExchangeView, exchange_view}
use Rattle.offer_prices.specs.Prices.{offer_price}
use Rattle.refund_core.specs.Quotes.{SeesOwn, SeesNone, phase_named, is_stale, refund_at}
use Rattle.exchange_core.specs.Ready.{ReadyView}
use Rattle.exchange_core.specs.declared.quoting.QuotedExchange.{QuotedExchange}
use Rattle.exchange_core.specs.declared.quoting.QuotedExchange.TheVariants as quoted
use Rattle.exchange_core.specs.declared.readying.Readied.{Readied}
use Rattle.exchange_core.specs.declared.readying.Readied.TheVariants as readied

-- what the offer costs more, with the exchange fee, than the booking was worth at this moment in the phase named
abbrev pub difference_at : CatalogueView → RowSeen → ℕ → Bool → OfferView → ℤ
difference_at cat v made fulfilled offer =
    pos (offer_price cat offer + cat.terms.exchange_fee) -ℤ pos (refund_at cat v made fulfilled)

-- the steps of a quote, by what it answers: the booking was seen in the phase that the code names, and the code has the
-- difference of now
abbrev pub QuotesExchange : CatalogueView → ℕ → RowNo → ℕ → OfferView → ℕ → QuotedExchange → List Step → Type 0
QuotesExchange cat rows row retailer offer now (quoted.Done code) es =
    (row.row < rows) × ((v : RowSeen) × SeesOwn row retailer v es × (v.phase ≡ phase_named code.fulfilled)
    × (exchange_view code
    ≡ record {
      row = row;
      made = now;
      fulfilled = code.fulfilled;
      difference = difference_at cat v now code.fulfilled offer;
      offer = offer;
    }))
QuotesExchange cat rows row retailer offer now quoted.Unknown es = SeesNone rows row retailer es
QuotesExchange cat rows row retailer offer now (quoted.WrongState shown) es =
    (row.row < rows) × (shown ≢ Confirmed) × (shown ≢ Fulfilled)
    × ((v : RowSeen) × SeesOwn row retailer v es × (v.phase ≡ shown))

-- what holds of the code of a quote, where there is one
abbrev pub IfQuoted : QuotedExchange → (ExchangeCode → Type 0) → Type 0
IfQuoted (quoted.Done code) P = P code
IfQuoted _ P = Unit {0}

-- the code isn't stale, and has just the difference of when it was made, by the retailer's booking that was seen
pub record IsRight (cat : CatalogueView) (rows retailer : ℕ) (code : ExchangeView) (now : ℕ) (v : RowSeen)
    (es : List Step) : Type 0 where
  pub fresh : is_stale code.made now ≡ false
  pub row : code.row.row < rows
  pub sees : SeesOwn code.row retailer v es
  pub difference : code.difference ≡ difference_at cat v code.made code.fulfilled code.offer

-- the steps of a check, by what it answers
abbrev pub Readies : CatalogueView → ℕ → ℕ → ExchangeView → ℕ → Readied → List Step → Type 0
Readies cat rows retailer code now (readied.Fine ready) es =
    (ready ≡ record { code = code; retailer = retailer; moment = now })
    × ((v : RowSeen) × IsRight cat rows retailer code now v es × (v.phase ≡ phase_named code.fulfilled))
Readies cat rows retailer code now readied.Unknown es =
    (is_stale code.made now ≡ false) × SeesNone rows code.row retailer es
Readies cat rows retailer code now (readied.WrongState shown) es =
    (shown ≢ phase_named code.fulfilled) × ((v : RowSeen) × IsRight cat rows retailer code now v es × (v.phase ≡ shown))
Readies cat rows retailer code now (readied.QuoteStale made at) es =
    (is_stale code.made now ≡ true) × (made ≡ code.made) × (at ≡ now) × (es ≡ [])
Readies cat rows retailer code now readied.QuoteWrong es =
    (is_stale code.made now ≡ false) × (code.row.row < rows)
    × ((v : RowSeen) × SeesOwn code.row retailer v es
    × (code.difference ≢ difference_at cat v code.made code.fulfilled code.offer))

-- what holds of what was made ready, where it was
abbrev pub IfFine : Readied → (ReadyView → Type 0) → Type 0
IfFine (readied.Fine ready) P = P ready
IfFine _ P = Unit {0}

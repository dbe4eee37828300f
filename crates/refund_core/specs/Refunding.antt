-- Quoting and accepting a refund.
use Rattle.std.specs.Prelude.{◌≡◌, ◌≢◌, ◌⊎◌, ℕ, ◌<◌, ◌≤◌, true, false, List, [], ◌++◌, length}
use Rattle.leg_masks.specs.Interval.{PlacedSpan as Item}
use Rattle.history_model.specs.declared.entry.Step.{Step}
use Rattle.history_model.specs.declared.phase.Phase.{Phase}
use Rattle.history_model.specs.declared.phase.Phase.TheVariants.{Free, Confirmed, Fulfilled}
use Rattle.rail_ids.specs.declared.RowNo.{RowNo}
use Rattle.history_model.specs.declared.phase.EndKind.TheVariants.{Refund}
use Rattle.history_model.specs.Booking.{most_items}
use Rattle.booking_rows.specs.declared.turns.Aim.TheVariants as aim
use Rattle.booking_rows.specs.Aims.{end_of, LosesTurn}
use Rattle.booking_rows.specs.Ends.{IsEndedAs}
use Rattle.booking_rows.specs.Views.{RowSeen}
use Rattle.claim_rule.specs.Rule.{DeskView}
use Rattle.confirm_core.specs.RowEnds.{ends_as}
use Rattle.catalogue_contents.specs.Contents.{CatalogueView}
use Rattle.offer_codes.specs.declared.code.RefundCode.{RefundCode}
use Rattle.refund_core.specs.declared.quoting.Quoted.{Quoted}
use Rattle.refund_core.specs.declared.quoting.Quoted.TheVariants as quoted
use Rattle.refund_core.specs.declared.refunding.Refunded.{Refunded}
use Rattle.refund_core.specs.declared.refunding.Refunded.TheVariants as refunded
use Rattle.refund_core.specs.Quotes.{SeesOwn, SeesNone, phase_named, is_stale, refund_at}

-- the steps of a quote, by what it answers: the booking was seen in the phase that the code names, and the code has
-- what it is worth now
abbrev pub QuotesRefund : CatalogueView → ℕ → RowNo → ℕ → ℕ → Quoted → List Step → Type 0
QuotesRefund cat rows row retailer now (quoted.Done code) es =
    (row.row < rows) × ((v : RowSeen) × SeesOwn row retailer v es × (v.phase ≡ phase_named code.fulfilled)
    × (code ≡ record {
      row = row;
      made = now;
      fulfilled = code.fulfilled;
      amount = refund_at cat v now code.fulfilled;
    }))
QuotesRefund cat rows row retailer now quoted.Unknown es = SeesNone rows row retailer es
QuotesRefund cat rows row retailer now (quoted.WrongState shown) es =
    (row.row < rows) × (shown ≢ Confirmed) × (shown ≢ Fulfilled)
    × ((v : RowSeen) × SeesOwn row retailer v es × (v.phase ≡ shown))

-- what holds of the code of a quote, where there is one
abbrev pub IfQuoted : Quoted → (RefundCode → Type 0) → Type 0
IfQuoted (quoted.Done code) P = P code
IfQuoted _ P = Unit {0}

-- the code isn't stale, and has just what the retailer's booking that was seen was worth when it was made
pub record IsRight (cat : CatalogueView) (rows retailer : ℕ) (code : RefundCode) (now : ℕ) (v : RowSeen)
    (es : List Step) : Type 0 where
  pub fresh : is_stale code.made now ≡ false
  pub row : code.row.row < rows
  pub sees : SeesOwn code.row retailer v es
  pub amount : code.amount ≡ refund_at cat v code.made code.fulfilled

-- the booking was seen in the phase that the code names, and then the turn was lost
abbrev pub LosesQuoted : RefundCode → RowSeen → List Step → Phase → List Step → Type 0
LosesQuoted code v front shown es =
    (v.phase ≡ phase_named code.fulfilled) × (back : List Step)
    × LosesTurn code.row (phase_named code.fulfilled) shown back × (es ≡ front ++ back)

-- the steps of an acceptance, by what it answers
abbrev pub AcceptsRefund : CatalogueView → ℕ → ℕ → RefundCode → ℕ → Refunded → List Step → Type 0
AcceptsRefund cat rows retailer code now (refunded.Done amount) es =
    (amount ≡ code.amount)
    × ((v : RowSeen) × (front : List Step) × (items : List Item) × IsRight cat rows retailer code now v front
    × (v.phase ≡ phase_named code.fulfilled) × (length items ≤ most_items)
    × (es ≡ front ++ ends_as code.row.row (phase_named code.fulfilled) Refund
    (end_of (aim.Refund now code.amount)) items))
AcceptsRefund cat rows retailer code now refunded.Unknown es =
    ((is_stale code.made now ≡ false) × SeesNone rows code.row retailer es)
    ⊎ ((v : RowSeen) × (front : List Step) × IsRight cat rows retailer code now v front
    × LosesQuoted code v front Free es)
AcceptsRefund cat rows retailer code now (refunded.WrongState shown) es =
    (v : RowSeen) × (front : List Step) × IsRight cat rows retailer code now v front
    × (((v.phase ≡ shown) × (shown ≢ phase_named code.fulfilled) × (es ≡ front))
    ⊎ ((shown ≢ Free) × LosesQuoted code v front shown es))
AcceptsRefund cat rows retailer code now (refunded.QuoteStale made at) es =
    (is_stale code.made now ≡ true) × (made ≡ code.made) × (at ≡ now) × (es ≡ [])
AcceptsRefund cat rows retailer code now refunded.QuoteWrong es =
    (is_stale code.made now ≡ false) × (code.row.row < rows)
    × ((v : RowSeen) × SeesOwn code.row retailer v es × (code.amount ≢ refund_at cat v code.made code.fulfilled))

-- what holds of the amount where the call refunded the booking
abbrev pub IfRefunded : Refunded → (ℕ → Type 0) → Type 0
IfRefunded (refunded.Done amount) P = P amount
IfRefunded _ P = Unit {0}

-- the booking has ended by a refund of this amount at this moment, and all its items are given back
abbrev pub IsRefunded : DeskView → RowNo → ℕ → ℕ → Type 0
IsRefunded desk row now amount = IsEndedAs desk row Refund (end_of (aim.Refund now amount))

-- What a quote rests on: the booking as one look shows it, the phase that a code names, the age of a code, and the
-- amount.
use Rattle.std.specs.Prelude.{◌≡◌, ◌≢◌, ◌⊎◌, ℕ, ◌-◌, ◌<◌, ◌≤◌, [], ◌||◌, nat_lt, Bool, List, if◌then◌else◌, Option, Some, None}
use Rattle.history_model.specs.declared.entry.Step.{Step}
use Rattle.history_model.specs.declared.phase.Phase.{Phase}
use Rattle.history_model.specs.declared.phase.Phase.TheVariants.{Confirmed, Fulfilled}
use Rattle.rail_ids.specs.declared.RowNo.{RowNo}
use Rattle.booking_rows.specs.Views.{RowSeen, LooksRow}
use Rattle.catalogue_contents.specs.Contents.{CatalogueView, least_departure}
use Rattle.offer_codes.specs.Offers.{valid_seconds}
use Rattle.tariff.specs.Refunds.{refund_of}

-- this booking of the retailer was seen
abbrev pub SeesOwn : RowNo → ℕ → RowSeen → List Step → Type 0
SeesOwn row retailer v es = (v.retailer ≡ retailer) × LooksRow row (Some v) es

-- no booking of the retailer was seen: the row is past the last, or the looks show none, or another retailer's
abbrev pub SeesNone : ℕ → RowNo → ℕ → List Step → Type 0
SeesNone rows row retailer es =
    ((rows ≤ row.row) × (es ≡ []))
    ⊎ ((row.row < rows) × (LooksRow row None es ⊎ ((v : RowSeen) × (v.retailer ≢ retailer) × LooksRow row (Some v) es)))

-- the steps of a look for this retailer's booking, by what it shows
abbrev pub FindsBooking : ℕ → RowNo → ℕ → Option RowSeen → List Step → Type 0
FindsBooking rows row retailer None es = SeesNone rows row retailer es
FindsBooking rows row retailer (Some v) es = (row.row < rows) × SeesOwn row retailer v es

-- the phase that a code names: whether the ticket was collected
abbrev pub phase_named : Bool → Phase
phase_named fulfilled = if fulfilled then Fulfilled else Confirmed

-- made after now, or too long before
abbrev pub is_stale : ℕ → ℕ → Bool
is_stale made now = nat_lt now made || nat_lt valid_seconds (now - made)

-- what the booking is worth at this moment, in the phase named: by its total and the seconds to its least departure, 0
-- where that has passed
abbrev pub refund_at : CatalogueView → RowSeen → ℕ → Bool → ℕ
refund_at cat v made fulfilled = refund_of cat.terms v.total (least_departure cat v.items - made) fulfilled

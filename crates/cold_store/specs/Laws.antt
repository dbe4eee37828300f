-- What is so of every export.
use Rattle.std.specs.Prelude.{◌≡◌, ◌⊎◌, ℕ, ◌<◌, ◌≤◌, List, [], All, length, map}
use Rattle.leg_masks.specs.Interval.{most_places}
use Rattle.history_model.specs.Booking.{Layout, most_rows}
use Rattle.claim_rule.specs.Openings.{kept_bookings, opening_of}
use Rattle.claim_rule.specs.Rule.{IsPlaceLegs}
use Rattle.claim_rule.specs.Walls.{WallView}
use Rattle.cold_store.specs.declared.fault.ImportFault.{ImportFault}
use Rattle.cold_store.specs.declared.fault.ImportFault.TheVariants.{NoMemory}
use Rattle.cold_store.specs.Exports.{IsClosed, IsExport, said_on, state_on}
use Rattle.cold_store.specs.Imports.{IsImportFault, IsRightText, OpensAs}
use Rattle.line_text.specs.Lines.{IsExportOf, SaidBooking}
use Rattle.cold_store.specs.Right.{kept_of}

-- as many places, legs and rows as books may have
pub record HasSizes (g : Layout) : Type 0 where
  pub places : (0 < length g.legs) × (length g.legs ≤ most_places)
  pub legs : All IsPlaceLegs g.legs
  pub rows : (0 < g.rows) × (g.rows ≤ most_rows)

-- the books began without a booking, or with those of an export
abbrev pub HasBegun : Layout → Type 0
HasBegun g = (g.opening ≡ []) ⊎ ((text : List ℕ) × OpensAs g.legs g.rows text g)

-- the text is read as the bookings that are kept, and with no fault but lack of memory. Books that open with them keep
-- the same ones
pub record IsReadBack (w : WallView) (text : List ℕ) : Type 0 where
  pub sound : IsRightText w.layout.legs w.layout.rows text (said_on w)
  pub kept : map kept_of (said_on w) ≡ kept_bookings w.layout.rows (state_on w)
  pub again : kept_bookings w.layout.rows (opening_of (map kept_of (said_on w)))
      ≡ kept_bookings w.layout.rows (state_on w)
  pub only : (places rows : ℕ) (said : List SaidBooking) → IsExportOf text places rows said
      → (places ≡ length w.layout.legs) × (rows ≡ w.layout.rows) × (said ≡ said_on w)
  pub accepted : (fault : ImportFault) → IsImportFault w.layout.legs w.layout.rows text fault → fault ≡ NoMemory

abbrev pub ExportsAreReadBack : Type 0
ExportsAreReadBack =
    (w : WallView) (text : List ℕ) → HasSizes w.layout → HasBegun w.layout → IsClosed w → IsExport w text
    → IsReadBack w text

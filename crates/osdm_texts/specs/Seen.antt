-- Bookings as their texts show them.
use Rattle.std.specs.Prelude.{List, None}
use Rattle.leg_masks.specs.Interval.{PlacedSpan as Item}
use Rattle.history_model.specs.declared.phase.Phase.{Phase}
use Rattle.booking_rows.specs.Views.{RowSeen}
use Rattle.booking_rows.specs.declared.notes.Detail.{Detail}
use Rattle.osdm_texts.specs.Bookings.{seen_end}
use Rattle.osdm_texts.specs.declared.bookings.Shown.{Shown}

-- a booking that is shown so, of no retailer in particular: its text doesn't tell whose it is
abbrev pub seen_of : Shown → RowSeen
seen_of s =
    record {
      phase = s.phase;
      retailer = 0;
      limit = s.limit;
      total = s.total;
      items = s.items.now;
      ended = seen_end s.ended;
    }

-- a new booking in this phase, with this detail and these items
abbrev pub made_view : Phase → Detail → List Item → RowSeen
made_view phase d items =
    record { phase = phase; retailer = d.retailer.0; limit = d.limit; total = d.total; items = items; ended = None }

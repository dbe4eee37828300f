-- A turn to an end, with all that follows it.
use Rattle.std.specs.Prelude.{◌≡◌, ℕ, ◌≤◌, List, ◌∷◌, ◌++◌, length, Option, Some, None}
use Rattle.leg_masks.specs.Interval.{PlacedSpan as Item}
use Rattle.history_model.specs.declared.booking.End.{End}
use Rattle.history_model.specs.declared.entry.Step.{Step}
use Rattle.history_model.specs.declared.phase.EndKind.{EndKind}
use Rattle.history_model.specs.declared.phase.Phase.{Phase}
use Rattle.history_model.specs.declared.phase.Phase.TheVariants.{Ending}
use Rattle.history_model.specs.Booking.{most_items}
use Rattle.history_model.specs.WholeEnds.{end_turn}
use Rattle.claim_rule.specs.Endings.{items_read}
use Rattle.claim_rule.specs.EndSteps.{ending_steps}
use Rattle.rail_ids.specs.declared.RowNo.{RowNo}
use Rattle.booking_rows.specs.declared.turns.Aim.{Aim}
use Rattle.booking_rows.specs.Aims.{end_of, LosesTurn}

-- the turn; the items are read and given back; the end is noted, and the row closed
abbrev pub ends_as : ℕ → Phase → EndKind → End → List Item → List Step
ends_as row from kind end items =
    end_turn row from (Ending kind) end ∷ items_read row items ++ ending_steps row kind end items

-- the steps of ending a booking, by the phase that its row showed it where another turn had decided
abbrev pub EndsBooking : RowNo → Phase → EndKind → Aim → Option Phase → List Step → Type 0
EndsBooking row from kind aim None es =
    (items : List Item) × (length items ≤ most_items) × (es ≡ ends_as row.row from kind (end_of aim) items)
EndsBooking row from kind aim (Some shown) es = LosesTurn row from shown es

-- The notes of a maker, and its seal.
use Rattle.std.specs.Prelude.{◌≡◌, ℕ, ◌+◌, ◌≤◌, List, [], ◌∷◌, ◌++◌, length}
use Rattle.leg_masks.specs.Interval.{item_word, PlacedSpan as Item}
use Rattle.history_model.specs.declared.entry.Step.{Step}
use Rattle.history_model.specs.declared.entry.Step.TheVariants.{Note}
use Rattle.history_model.specs.declared.phase.Phase.{Phase}
use Rattle.history_model.specs.declared.phase.Phase.TheVariants as phase
use Rattle.history_model.specs.Booking.{first_item_word, greatest_amount, retailer_word, limit_word, total_word, count_word}
use Rattle.claim_rule.specs.Rule.{DeskView}
use Rattle.claim_rule.specs.Desks.{AddsSteps}
use Rattle.claim_rule.specs.Holds.{HoldView}
use Rattle.claim_rule.specs.Out.{HasNotedItems, IsToBeSealed}
use Rattle.booking_rows.specs.declared.notes.Detail.{Detail}
use Rattle.booking_rows.specs.declared.notes.Sealed.{Sealed}
use Rattle.booking_rows.specs.declared.notes.Sealed.TheVariants.{Prebooked, Confirmed}

abbrev pub sealed_phase : Sealed → Phase
sealed_phase Prebooked = phase.Prebooked
sealed_phase Confirmed = phase.Confirmed

-- the notes of a detail, with the number of items
abbrev pub detail_notes : ℕ → Detail → ℕ → List Step
detail_notes row detail count =
    Note row retailer_word detail.retailer.0 ∷ Note row limit_word detail.limit ∷ Note row total_word detail.total
    ∷ Note row count_word count ∷ []

-- the one step is the note of the hold's last item, in the word after those of the items before it
abbrev pub NotesLastItem : HoldView → DeskView → DeskView → Type 0
NotesLastItem hold old new = (front : List Item) (last : Item) → hold.items ≡ front ++ last ∷ []
    → AddsSteps old new (Note hold.row.row (first_item_word + length front) (item_word last.place last.span) ∷ [])

-- a hold with an item, all of them noted and the total in range, may now be sealed
abbrev pub MakesReady : Detail → DeskView → HoldView → DeskView → HoldView → Type 0
MakesReady detail old hold new held =
    HasNotedItems old hold → 1 ≤ length hold.items → detail.total ≤ greatest_amount → IsToBeSealed new held

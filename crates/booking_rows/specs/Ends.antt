-- The end that a row's view shows, and that of a booking that has ended.
use Rattle.std.specs.Prelude.{◌≡◌, ℕ, Option}
use Rattle.std.specs.Option.{option_map_or}
use Rattle.rail_ids.specs.declared.RowNo.{RowNo}
use Rattle.history_model.specs.Booking.{successor_word}
use Rattle.history_model.specs.declared.booking.End.{End}
use Rattle.history_model.specs.declared.phase.EndKind.{EndKind}
use Rattle.history_model.specs.declared.phase.Phase.TheVariants.{Ended}
use Rattle.history_model.specs.Allowed.{AllGiven}
use Rattle.history_model.specs.WholeEnds.{end_at}
use Rattle.claim_rule.specs.Rule.{DeskView, OnBooking, state_seen}
use Rattle.booking_rows.specs.declared.views.EndView.{EndView}

-- the word of a successor, or 0 for none
abbrev pub word_of_successor : Option RowNo → ℕ
word_of_successor row = option_map_or (λ (r : RowNo). successor_word r.row r.generation) row 0

abbrev pub shown_end : EndView → End
shown_end e = end_at e.moment e.amount (word_of_successor e.successor)

-- the booking has ended in this way and with this end, and all its items are given back. It need not be its row's
-- present one
abbrev pub IsEndedAs : DeskView → RowNo → EndKind → End → Type 0
IsEndedAs desk row kind end = OnBooking (state_seen desk) row (λ b. (b.phase ≡ Ended kind) × (b.end ≡ end) × AllGiven b)

-- What a sweep leaves.
use Rattle.std.specs.Prelude.{◌≡◌, ◌≢◌, ◌<◌, ℕ, List}
use mathlib.Core.List.{IsPrefix}
use Rattle.rail_ids.specs.declared.RowNo.{RowNo}
use Rattle.history_model.specs.declared.entry.Entry.{Entry}
use Rattle.history_model.specs.declared.phase.Phase.{Phase}
use Rattle.history_model.specs.declared.phase.Phase.TheVariants.{Prebooked}
use Rattle.history_model.specs.Booking.{State, limit_of}
use Rattle.history_model.specs.History.{own, state_of}
use Rattle.claim_rule.specs.Rule.{BooksView, DeskView, OnBooking, state_seen}

-- where a call begins: the history before its first entry, which has all that its desk had seen, and maybe entries of
-- others since then
pub record BeginsAt (old new : DeskView) (begun : List Entry) : Type 0 where
  pub had : IsPrefix old.seen begun
  pub goes_on : IsPrefix begun new.seen
  pub none_yet : own begun old.number ≡ own old.seen old.number

-- the booking stands in the state, in another phase than this
abbrev pub HasLeft : Phase → State → RowNo → Type 0
HasLeft phase s row = OnBooking s row (λ b. b.phase ≢ phase)

-- the booking is prebooked in the state, with a limit before this moment
abbrev pub IsOverdue : State → RowNo → ℕ → Type 0
IsOverdue s row now = OnBooking s row (λ b. (b.phase ≡ Prebooked) × (limit_of b < now))

-- each booking that was overdue when the call began is in another phase in what was seen when it ended
abbrev pub LeavesNoneOverdue : BooksView → ℕ → DeskView → DeskView → Type 0
LeavesNoneOverdue books now old new =
    (begun : List Entry) (row : RowNo) → BeginsAt old new begun → IsOverdue (state_of books.layout begun) row now
    → HasLeft Prebooked (state_seen new) row

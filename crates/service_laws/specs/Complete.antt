-- What a sweep leaves.
use Rattle.std.specs.Prelude.{ℕ}
use Rattle.claim_rule.specs.Rule.{BooksView, DeskView}
use Rattle.claim_rule.specs.Desks.{IsOf}
use Rattle.claim_rule.specs.Calls.{AddsStepsBy}
use Rattle.booking_rows.specs.declared.swept.Swept.{Swept}
use Rattle.expiry_sweeper.specs.AllRows.{Sweeps}
use Rattle.expiry_sweeper.specs.Complete.{LeavesNoneOverdue}

-- no booking that was overdue when a sweep began is prebooked when it has ended
abbrev pub SweepsAreComplete : Type 0
SweepsAreComplete =
    (books : BooksView) (old new : DeskView) (now : ℕ) (answer : Swept)
    → IsOf books old → AddsStepsBy (Sweeps books.layout.rows now answer) old new → LeavesNoneOverdue books now old new

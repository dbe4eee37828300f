-- A sweep of late bookings, and what is answered.
use Rattle.std.specs.Prelude.{◌≡◌, ℕ}
use Rattle.booking_rows.specs.declared.swept.Swept.{Swept}
use Rattle.expiry_sweeper.specs.AllRows.{Sweeps}
use Rattle.claim_rule.specs.Rule.{DeskView}
use Rattle.claim_rule.specs.Calls.{AddsStepsBy}
use Rattle.osdm_texts.specs.Answers.{Reply, swept}

abbrev pub SweepsRows : ℕ → ℕ → DeskView → DeskView → Reply → Type 0
SweepsRows rows now old new reply = (n : Swept) × AddsStepsBy (Sweeps rows now n) old new × (reply ≡ swept n)

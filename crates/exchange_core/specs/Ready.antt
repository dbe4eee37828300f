-- A quote that was checked.
use Rattle.std.specs.Prelude.{ℕ, ◌<◌, List}
use Rattle.history_model.specs.declared.phase.EndKind.TheVariants.{Exchange}
use Rattle.history_model.specs.Allowed.{IsAmountOf}
use Rattle.history_model.specs.declared.entry.Step.{Step}
use Rattle.claim_rule.specs.Rule.{DeskView}
use Rattle.claim_rule.specs.Desks.{AddsSteps}
use Rattle.booking_rows.specs.SealedRows.{IsSealedRow}
use Rattle.offer_codes.specs.Exchanges.{ExchangeView}

-- the code that was checked, for whom, and when
pub record ReadyView : Type 0 where
  pub code : ExchangeView
  pub retailer : ℕ
  pub moment : ℕ

-- the booking of the checked code is sealed in what the desk has seen, and its difference is one that an exchange may
-- have
pub record IsReadyFor (desk : DeskView) (ready : ReadyView) : Type 0 where
  pub row : ready.code.row.row < desk.layout.rows
  pub sealed : IsSealedRow desk ready.code.row
  pub difference : IsAmountOf Exchange ready.code.difference

-- what is ready stays so, whatever the desk does
abbrev pub ReadyStays : Type 0
ReadyStays =
    (old new : DeskView) (steps : List Step) (ready : ReadyView) → AddsSteps old new steps → IsReadyFor old ready
    → IsReadyFor new ready

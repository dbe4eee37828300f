-- Collecting the ticket of a booking.
use Rattle.std.specs.Prelude.{◌≡◌, ◌⊎◌, ℕ, ◌<◌, List, [], ◌∷◌, ◌++◌, None}
use Rattle.history_model.specs.declared.entry.Step.{Step}
use Rattle.history_model.specs.declared.phase.Phase.TheVariants.{Confirmed}
use Rattle.booking_rows.specs.declared.turns.Aim.TheVariants as aim
use Rattle.booking_rows.specs.Aims.{turn_of}
use Rattle.rail_ids.specs.declared.RowNo.{RowNo}
use Rattle.confirm_core.specs.Looks.{saw_owner, IsKept, FindsOwned, SawOwned, IsWrong, LosesRow}
use Rattle.confirm_core.specs.declared.fulfilling.Fulfilment.{Fulfilment}
use Rattle.confirm_core.specs.declared.fulfilling.Fulfilment.TheVariants as fulfilled

-- the steps of a fulfilment, by what it answers
abbrev pub Fulfils : ℕ → RowNo → ℕ → Fulfilment → List Step → Type 0
Fulfils rows row retailer fulfilled.Done es =
    (row.row < rows) × ((last : ℕ) × IsKept row last
    × (es ≡ saw_owner row Confirmed retailer last ++ turn_of row.row Confirmed aim.Fulfil ∷ []))
Fulfils rows row retailer fulfilled.Unknown es =
    FindsOwned rows row retailer None es ⊎ ((row.row < rows) × LosesRow row Confirmed (SawOwned row retailer) es)
Fulfils rows row retailer (fulfilled.WrongState shown) es =
    (row.row < rows) × IsWrong row Confirmed shown (SawOwned row retailer) es

-- what holds where the call collected the ticket
abbrev pub IfFulfilled : Fulfilment → Type 0 → Type 0
IfFulfilled fulfilled.Done P = P
IfFulfilled _ P = Unit {0}

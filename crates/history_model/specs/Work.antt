-- Rows that a desk makes or ends, and the steps by which it comes to them.
use Rattle.std.specs.Prelude.{◌≡◌, ℕ, ◌==◌, Bool, false, List}
use Rattle.std.specs.List.{AllByRecursion}
use Rattle.history_model.specs.declared.phase.Phase.{Phase}
use Rattle.history_model.specs.declared.phase.Phase.TheVariants.{Ending}
use Rattle.history_model.specs.declared.entry.Step.{Step}
use Rattle.history_model.specs.declared.entry.Step.TheVariants.{Start, Turn}
use Rattle.history_model.specs.Booking.{Booking}

-- the booking is in this phase, and the desk's
abbrev pub IsIn : Phase → ℕ → Booking → Type 0
IsIn phase desk b = (b.phase ≡ phase) × (b.owner ≡ desk)

-- the step starts the row
abbrev pub starts_row : ℕ → Step → Bool
starts_row r (Start q j) = q == r
starts_row r _ = false

-- the step turns the row to an ending
abbrev pub ends_row : ℕ → Step → Bool
ends_row r (Turn q from (Ending kind) moment amount successor) = q == r
ends_row r _ = false

-- none of the steps passes
abbrev pub NoStep : (Step → Bool) → List Step → Type 0
NoStep test steps = AllByRecursion (λ st. test st ≡ false) steps

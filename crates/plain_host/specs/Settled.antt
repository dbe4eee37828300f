-- A lone desk's bookings between two commands.
use Rattle.std.specs.Prelude.{◌≡◌, ◌⊎◌, true, false, [], ◌∷◌, ◌++◌}
use Rattle.std.specs.List.{AllByRecursion}
use Rattle.history_model.specs.declared.phase.Phase.TheVariants.{Making}
use Rattle.history_model.specs.Phase.{is_sealed}
use Rattle.history_model.specs.Booking.{Booking, State}
use Rattle.history_model.specs.Laws.{is_owners}

-- sealed, and not on its way to an end
pub record IsStanding (b : Booking) : Type 0 where
  pub sealed : is_sealed b.phase ≡ true
  pub still : is_owners b.phase ≡ false

-- in the making by the first desk, with nothing taken: a command that gave up left it
pub record IsEmptyRow (b : Booking) : Type 0 where
  pub making : b.phase ≡ Making
  pub owner : b.owner ≡ 0
  pub none : b.items ≡ []

-- sealed bookings, of whatever generation, and after them at most an empty row
pub record IsSettled (s : State) : Type 0 where
  pub standing : State
  pub each : AllByRecursion IsStanding standing
  pub is : (s ≡ standing) ⊎ ((b : Booking) × IsEmptyRow b × (s ≡ standing ++ b ∷ []))

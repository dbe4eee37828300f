-- What a lone desk's own work leaves, whatever its calls were.
use Rattle.std.specs.Prelude.{◌≡◌, true, [], ◌∷◌}
use Rattle.std.specs.List.{AllByRecursion}
use Rattle.history_model.specs.declared.phase.Phase.TheVariants.{Making}
use Rattle.history_model.specs.Booking.{State}
use Rattle.history_model.specs.Laws.{is_owners}

-- no booking in the making has others after it
abbrev pub MakesLast : State → Type 0
MakesLast [] = Unit {0}
MakesLast (booking ∷ rest) = (booking.phase ≡ Making → rest ≡ []) × MakesLast rest

-- all bookings in the making and ending are the first desk's own, and it started none while it made one
pub record IsOwnWork (state : State) : Type 0 where
  pub owned : AllByRecursion (λ b. is_owners b.phase ≡ true → b.owner ≡ 0) state
  pub last : MakesLast state

-- The end of a booking as one value, where an entry or a call has its moment, amount and successor apart.
use Rattle.std.specs.Prelude.{ℕ, ℤ}
use Rattle.history_model.specs.declared.booking.End.{End}
use Rattle.history_model.specs.declared.entry.Step.{Step}
use Rattle.history_model.specs.declared.entry.Step.TheVariants.{Turn}
use Rattle.history_model.specs.declared.phase.Phase.{Phase}

abbrev pub end_at : ℕ → ℤ → ℕ → End
end_at moment amount successor = record { moment = moment; amount = amount; successor = successor }

-- the turn of the row with this end
abbrev pub end_turn : ℕ → Phase → Phase → End → Step
end_turn row from to end = Turn row from to end.moment end.amount end.successor

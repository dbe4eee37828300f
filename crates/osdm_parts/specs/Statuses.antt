-- The status of a booking, as retailers see it.
use Rattle.std.specs.Prelude.{ℕ, List, [], codes}
use Rattle.history_model.specs.declared.phase.Phase.{Phase}
use Rattle.history_model.specs.declared.phase.Phase.TheVariants.{Free, Making, Prebooked, Confirmed, Fulfilled, Ending, Ended}
use Rattle.history_model.specs.declared.phase.EndKind.{EndKind}
use Rattle.history_model.specs.declared.phase.EndKind.TheVariants.{Release, Expire, Refund, Exchange}

-- the same while a booking ends and once it has ended
abbrev pub end_text : EndKind → List ℕ
end_text Release = codes "RELEASED"
end_text Expire = codes "EXPIRED"
end_text Refund = codes "REFUNDED"
end_text Exchange = codes "EXCHANGED"

-- a row that is free or in the making is no booking that is shown, and has no text
abbrev pub phase_text : Phase → List ℕ
phase_text Free = []
phase_text Making = []
phase_text Prebooked = codes "PREBOOKED"
phase_text Confirmed = codes "CONFIRMED"
phase_text Fulfilled = codes "FULFILLED"
phase_text (Ending kind) = end_text kind
phase_text (Ended kind) = end_text kind

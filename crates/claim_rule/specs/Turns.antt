-- What a turn answers.
use Rattle.std.specs.Prelude.{◌≡◌, ◌≢◌, ℕ}
use Rattle.rail_ids.specs.declared.RowNo.{RowNo}
use Rattle.history_model.specs.declared.booking.End.{End}
use Rattle.history_model.specs.declared.entry.Step.TheVariants.{LostTurn}
use Rattle.history_model.specs.declared.phase.EndKind.{EndKind}
use Rattle.history_model.specs.declared.phase.Phase.{Phase}
use Rattle.history_model.specs.declared.phase.Phase.TheVariants as phase
use Rattle.history_model.specs.Phase.{row_word_of}
use Rattle.history_model.specs.WholeEnds.{end_turn}
use Rattle.claim_rule.specs.declared.ending.StepTurned.{StepTurned}
use Rattle.claim_rule.specs.declared.ending.StepTurned.TheVariants.{Won, Ending, Missed}
use Rattle.history_model.specs.Allowed.{OnRow}
use Rattle.claim_rule.specs.Rule.{DeskView, state_seen}
use Rattle.claim_rule.specs.Endings.{IsEndingOf, unread}
use Rattle.claim_rule.specs.Desks.{Stepped}

-- the booking is its row's present one, and in this phase
abbrev pub IsPresentIn : DeskView → RowNo → Phase → Type 0
IsPresentIn desk row phase = OnRow (state_seen desk) row.row (λ b. (b.generation ≡ row.generation) × (b.phase ≡ phase))

-- the turn is made, and it is this booking that was turned
abbrev pub IsTurned : RowNo → Phase → Phase → End → DeskView → DeskView → Type 0
IsTurned row from to end old new = Stepped (end_turn row.row from to end) old new × IsPresentIn new row to

-- the row's word was another than that of the phase and the generation
abbrev pub IsTurnLost : RowNo → Phase → ℕ → DeskView → DeskView → Type 0
IsTurnLost row from shown old new =
    (shown ≢ row_word_of from row.generation)
    × Stepped (LostTurn row.row (row_word_of from row.generation) shown) old new

-- the turn is made, and where it is one to an ending, that is the desk's; or it is lost
abbrev pub HasTurned : RowNo → Phase → Phase → End → DeskView → DeskView → StepTurned → Type 0
HasTurned row from to end old new Won =
    IsTurned row from to end old new × ((kind : EndKind) → to ≢ phase.Ending kind)
HasTurned row from to end old new (Ending ending) =
    IsTurned row from to end old new × IsEndingOf new ending × (to ≡ phase.Ending ending.kind)
    × (ending ≡ unread row ending.kind end)
HasTurned row from to end old new (Missed shown) = IsTurnLost row from shown old new

-- what a turn that was made to a phase answers
abbrev pub IsTurnedTo : RowNo → Phase → End → StepTurned → Type 0
IsTurnedTo row to end Won = (kind : EndKind) → to ≢ phase.Ending kind
IsTurnedTo row to end (Ending ending) = (to ≡ phase.Ending ending.kind) × (ending ≡ unread row ending.kind end)
IsTurnedTo row to end (Missed shown) = ⊥

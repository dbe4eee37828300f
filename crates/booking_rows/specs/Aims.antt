-- Turns by what they aim at, and what they answer.
use Rattle.std.specs.Prelude.{◌≡◌, ◌≢◌, ℕ, pos, ◌≤◌, true, List, [], ◌∷◌}
use Rattle.history_model.specs.declared.entry.Step.{Step}
use Rattle.history_model.specs.declared.entry.Step.TheVariants.{LostTurn}
use Rattle.history_model.specs.declared.phase.Phase.{Phase}
use Rattle.history_model.specs.declared.phase.Phase.TheVariants as phase
use Rattle.history_model.specs.declared.phase.EndKind.{EndKind}
use Rattle.history_model.specs.declared.phase.EndKind.TheVariants as kind
use Rattle.history_model.specs.declared.booking.End.{End}
use Rattle.rail_ids.specs.declared.RowNo.{RowNo}
use Rattle.rail_ids.specs.Spelling.{last_generation}
use Rattle.history_model.specs.Phase.{row_word_of, phase_shown}
use Rattle.history_model.specs.Booking.{Layout, successor_word}
use Rattle.history_model.specs.WholeEnds.{end_at, end_turn}
use Rattle.claim_rule.specs.Desks.{CanTurn}
use Rattle.claim_rule.specs.Rule.{DeskView}
use Rattle.claim_rule.specs.Endings.{EndingView, items_read}
use Rattle.claim_rule.specs.Out.{IsEnding, KeepsEndings}
use Rattle.booking_rows.specs.declared.turns.Aim.{Aim}
use Rattle.booking_rows.specs.declared.turns.Aim.TheVariants.{Confirm, Fulfil, Release, Expire, Refund, Exchange}
use Rattle.booking_rows.specs.declared.turns.Turned.{Turned}
use Rattle.booking_rows.specs.declared.turns.Turned.TheVariants.{Won, Ending, Lost}

-- the phase and the end that a turn aims at
abbrev pub aimed : Aim → Phase
aimed (Confirm now) = phase.Confirmed
aimed Fulfil = phase.Fulfilled
aimed (Release now) = phase.Ending kind.Release
aimed (Expire now) = phase.Ending kind.Expire
aimed (Refund now amount) = phase.Ending kind.Refund
aimed (Exchange now difference successor) = phase.Ending kind.Exchange

abbrev pub end_of : Aim → End
end_of (Confirm now) = end_at now (pos 0) 0
end_of Fulfil = end_at 0 (pos 0) 0
end_of (Release now) = end_at now (pos 0) 0
end_of (Expire now) = end_at now (pos 0) 0
end_of (Refund now amount) = end_at now (pos amount) 0
end_of (Exchange now difference successor) = end_at now difference (successor_word successor.row successor.generation)

-- a successor's generation is one that a row may have
abbrev pub HasGeneration : Aim → Type 0
HasGeneration (Exchange now difference successor) = successor.generation ≤ last_generation
HasGeneration aim = Unit {0}

-- the turn is one that may be made of this booking
abbrev pub MayAim : Layout → DeskView → RowNo → Phase → Aim → Type 0
MayAim layout desk row from aim = CanTurn layout desk.seen desk.number row from (aimed aim) (end_of aim)

-- the turn of the row, from this phase
abbrev pub turn_of : ℕ → Phase → Aim → Step
turn_of row from aim = end_turn row from (aimed aim) (end_of aim)

-- the row's word was another than that of the phase wanted and the generation, and shows the booking this phase
abbrev pub LosesTurn : RowNo → Phase → Phase → List Step → Type 0
LosesTurn row wanted shown es =
    (word : ℕ) × (word ≢ row_word_of wanted row.generation) × (shown ≡ phase_shown row.generation word)
    × (es ≡ LostTurn row.row (row_word_of wanted row.generation) word ∷ [])

-- an ending whose items are read and not given back
abbrev pub fresh_ending : RowNo → EndKind → End → EndingView → EndingView
fresh_ending row kind end e = record { row = row; kind = kind; end = end; items = e.items; given = 0; read = true }

-- the steps of a turn, by what it answers
abbrev pub Turns : RowNo → Phase → Aim → Turned → List Step → Type 0
Turns row from aim Won es = es ≡ turn_of row.row from aim ∷ []
Turns row from aim (Ending e) es = es ≡ turn_of row.row from aim ∷ items_read row.row e.items
Turns row from aim (Lost shown) es = LosesTurn row from shown es

-- won where it aims at no ending; else the ending is the desk's and out
abbrev pub LeavesTurned : RowNo → Aim → DeskView → DeskView → Turned → Type 0
LeavesTurned row aim old new Won = ((k : EndKind) → aimed aim ≢ phase.Ending k) × KeepsEndings old new
LeavesTurned row aim old new (Ending e) =
    (aimed aim ≡ phase.Ending e.kind) × (e ≡ fresh_ending row e.kind (end_of aim) e) × IsEnding new e
LeavesTurned row aim old new (Lost shown) = KeepsEndings old new

-- what holds where the turn was made
abbrev pub IfMade : Turned → Type 0 → Type 0
IfMade Won P = P
IfMade (Ending e) P = P
IfMade (Lost shown) P = Unit {0}

-- what holds of the kind of ending that the turn aims at, where it aims at one
abbrev pub OfEnding : Aim → (EndKind → Type 0) → Type 0
OfEnding aim P = (kind : EndKind) → aimed aim ≡ phase.Ending kind → P kind

-- What a start answers.
use Rattle.std.specs.Prelude.{◌≡◌, ◌≢◌, ◌≤◌, ◌+◌, ◌⊎◌, ℕ}
use Rattle.rail_ids.specs.Spelling.{last_generation}
use Rattle.rail_ids.specs.declared.RowNo.{RowNo}
use Rattle.history_model.specs.declared.entry.Step.TheVariants.{Start, SawRow}
use Rattle.history_model.specs.declared.phase.EndKind.{EndKind}
use Rattle.history_model.specs.declared.phase.Phase.TheVariants.{Ended}
use Rattle.history_model.specs.Phase.{row_word_of}
use Rattle.claim_rule.specs.declared.hold.Started.{Started}
use Rattle.claim_rule.specs.declared.hold.Started.TheVariants.{Won, Missed}
use Rattle.claim_rule.specs.Rule.{DeskView}
use Rattle.claim_rule.specs.Desks.{Stepped}
use Rattle.claim_rule.specs.Holds.{IsHoldOf, empty_hold}
use Rattle.history_model.specs.Booking.{standing_word}

-- the word is that of an ended booking of this generation
abbrev pub IsEndedWord : ℕ → ℕ → Type 0
IsEndedWord generation word = (kind : EndKind) × (word ≡ row_word_of (Ended kind) generation)

-- what the start of a generation expects: 0 for the first, else the word of an ended booking of the one before
abbrev pub MayExpect : RowNo → ℕ → Type 0
MayExpect row expected =
    ((row.generation ≡ 0) × (expected ≡ 0))
    ⊎ ((before : ℕ) × (row.generation ≡ before + 1) × (row.generation ≤ last_generation) × IsEndedWord before expected)

-- the row's word was the expected one, and the booking is now the hold's, without items; or its word was another
abbrev pub HasStarted : RowNo → ℕ → DeskView → DeskView → Started → Type 0
HasStarted row expected old new (Won hold) =
    Stepped (Start row.row row.generation) old new × IsHoldOf new hold × (hold ≡ empty_hold row)
HasStarted row expected old new (Missed shown) =
    Stepped (SawRow row.row standing_word shown) old new × (shown ≢ expected)

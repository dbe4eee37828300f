-- Looks at a booking's phase, its retailer and its limit, and what they decide.
use Rattle.std.specs.Prelude.{◌≡◌, ◌≢◌, ◌⊎◌, ℕ, ◌≤◌, ◌<◌, true, false, List, [], ◌∷◌, ◌++◌, Option, Some, None}
use Rattle.history_model.specs.declared.entry.Step.{Step}
use Rattle.history_model.specs.declared.entry.Step.TheVariants.{SawRow}
use Rattle.history_model.specs.declared.phase.Phase.{Phase}
use Rattle.history_model.specs.declared.phase.Phase.TheVariants.{Free}
use Rattle.history_model.specs.Phase.{is_sealed, phase_shown}
use Rattle.history_model.specs.Booking.{limit_of, word_at, standing_word, retailer_word, limit_word}
use Rattle.rail_ids.specs.declared.RowNo.{RowNo}
use Rattle.claim_rule.specs.Rule.{DeskView, OnBooking, state_seen}
use Rattle.booking_rows.specs.Aims.{LosesTurn}
use Rattle.booking_rows.specs.Views.{saw_phase}

-- one look at word 0 of its row, which shows the booking this phase
abbrev pub SawPhase : RowNo → Phase → List Step → Type 0
SawPhase row phase es = (n : ℕ) × (phase_shown row.generation n ≡ phase) × (es ≡ SawRow row.row standing_word n ∷ [])

-- the word shows that the row wasn't given away
abbrev pub IsKept : RowNo → ℕ → Type 0
IsKept row last = phase_shown row.generation last ≢ Free

-- the looks at a booking that the first shows sealed: at its retailer; and at its limit too. The last one is at word 0
-- again
abbrev pub saw_owner : RowNo → Phase → ℕ → ℕ → List Step
saw_owner row phase retailer last =
    saw_phase row phase ∷ SawRow row.row retailer_word retailer ∷ SawRow row.row standing_word last ∷ []

abbrev pub saw_terms : RowNo → Phase → ℕ → ℕ → ℕ → List Step
saw_terms row phase retailer limit last =
    saw_phase row phase ∷ SawRow row.row retailer_word retailer ∷ SawRow row.row limit_word limit
    ∷ SawRow row.row standing_word last ∷ []

-- in what the desk has seen the number is a word of the booking; and the booking is sealed, with this limit
abbrev pub HasWordAt : DeskView → RowNo → ℕ → ℕ → Type 0
HasWordAt desk row w n = OnBooking (state_seen desk) row (λ b. n ≡ word_at b w)

abbrev pub HasLimit : DeskView → RowNo → ℕ → Type 0
HasLimit desk row limit = OnBooking (state_seen desk) row (λ b. (is_sealed b.phase ≡ true) × (limit_of b ≡ limit))

-- No booking of this retailer. The row is past the last, or the first look shows the booking free or in the making; or,
-- as `Saw` shows, the last look shows it free, or its retailer is another
abbrev pub IsUnknown : ℕ → RowNo → ℕ → (Phase → ℕ → ℕ → List Step → Type 0) → List Step → Type 0
IsUnknown rows row retailer Saw es =
    ((rows ≤ row.row) × (es ≡ []))
    ⊎ ((row.row < rows) × (shown : Phase) × (((is_sealed shown ≡ false) × SawPhase row shown es)
    ⊎ ((is_sealed shown ≡ true) × (who : ℕ) × (last : ℕ)
    × ((phase_shown row.generation last ≡ Free) ⊎ (who ≢ retailer)) × Saw shown who last es)))

-- another phase than the one wanted, by the looks or by the lost turn
abbrev pub IsWrong : RowNo → Phase → Phase → (Phase → List Step → Type 0) → List Step → Type 0
IsWrong row wanted shown Saw es =
    ((shown ≢ wanted) × (is_sealed shown ≡ true) × Saw shown es)
    ⊎ ((shown ≢ Free) × (front : List Step) × (back : List Step) × Saw wanted front × LosesTurn row wanted shown back
    × (es ≡ front ++ back))

-- the lost turn shows that the row was given away
abbrev pub LosesRow : RowNo → Phase → (Phase → List Step → Type 0) → List Step → Type 0
LosesRow row wanted Saw es =
    (front : List Step) × (back : List Step) × Saw wanted front × LosesTurn row wanted Free back × (es ≡ front ++ back)

-- the booking is this retailer's, and was seen in this phase
abbrev pub SawOwned : RowNo → ℕ → Phase → List Step → Type 0
SawOwned row retailer shown es = (last : ℕ) × IsKept row last × (es ≡ saw_owner row shown retailer last)

-- the steps of a search for this retailer's booking, by its phase
abbrev pub FindsOwned : ℕ → RowNo → ℕ → Option Phase → List Step → Type 0
FindsOwned rows row retailer None es =
    IsUnknown rows row retailer (λ shown who last es'. es' ≡ saw_owner row shown who last) es
FindsOwned rows row retailer (Some shown) es =
    (row.row < rows) × (is_sealed shown ≡ true) × SawOwned row retailer shown es

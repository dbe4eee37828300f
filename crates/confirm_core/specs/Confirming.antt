-- Confirming a booking.
use Rattle.std.specs.Prelude.{◌≡◌, ◌⊎◌, ℕ, ◌≤◌, ◌<◌, true, List, [], ◌∷◌, ◌++◌, Option, Some, None}
use Rattle.history_model.specs.declared.entry.Step.{Step}
use Rattle.history_model.specs.declared.phase.Phase.{Phase}
use Rattle.history_model.specs.declared.phase.Phase.TheVariants.{Prebooked}
use Rattle.history_model.specs.Phase.{is_sealed}
use Rattle.booking_rows.specs.declared.turns.Aim.TheVariants as aim
use Rattle.booking_rows.specs.Aims.{turn_of}
use Rattle.rail_ids.specs.declared.RowNo.{RowNo}
use Rattle.confirm_core.specs.Looks.{saw_terms, IsKept, IsUnknown, IsWrong, LosesRow}
use Rattle.confirm_core.specs.declared.confirming.Terms.{Terms}
use Rattle.confirm_core.specs.declared.confirming.Confirmed.{Confirmed}
use Rattle.confirm_core.specs.declared.confirming.Confirmed.TheVariants as confirmed

-- the looks at phase, retailer and limit of a booking, and at its phase again
abbrev pub SawTerms : RowNo → Phase → ℕ → ℕ → List Step → Type 0
SawTerms row shown who last es = (limit : ℕ) × (es ≡ saw_terms row shown who limit last)

-- the steps of a search for this retailer's booking, by its phase and limit
abbrev pub FindsTerms : ℕ → RowNo → ℕ → Option Terms → List Step → Type 0
FindsTerms rows row retailer None es = IsUnknown rows row retailer (SawTerms row) es
FindsTerms rows row retailer (Some t) es =
    (row.row < rows) × (is_sealed t.shown ≡ true)
    × ((last : ℕ) × IsKept row last × (es ≡ saw_terms row t.shown retailer t.limit last))

-- the same looks, of which the last shows that the row wasn't given away; prebooked they are followed by a turn only
-- where now isn't after the limit
abbrev pub SawInTime : RowNo → ℕ → ℕ → ℕ → Phase → List Step → Type 0
SawInTime row retailer now limit was es =
    (was ≡ Prebooked → now ≤ limit) × ((last : ℕ) × IsKept row last × (es ≡ saw_terms row was retailer limit last))

-- the steps of a confirmation, by what it answers
abbrev pub Confirms : ℕ → RowNo → ℕ → ℕ → Confirmed → List Step → Type 0
Confirms rows row retailer now confirmed.Done es =
    (row.row < rows) × ((limit : ℕ) × (last : ℕ) × (now ≤ limit) × IsKept row last
    × (es ≡ saw_terms row Prebooked retailer limit last ++ turn_of row.row Prebooked (aim.Confirm now) ∷ []))
Confirms rows row retailer now confirmed.Unknown es =
    IsUnknown rows row retailer (SawTerms row) es
    ⊎ ((row.row < rows) × ((limit : ℕ) × LosesRow row Prebooked (SawInTime row retailer now limit) es))
Confirms rows row retailer now (confirmed.TooLate limit) es =
    (row.row < rows) × (limit < now)
    × ((last : ℕ) × IsKept row last × (es ≡ saw_terms row Prebooked retailer limit last))
Confirms rows row retailer now (confirmed.WrongState shown) es =
    (row.row < rows) × ((limit : ℕ) × IsWrong row Prebooked shown (SawInTime row retailer now limit) es)

-- what holds where the call confirmed the booking
abbrev pub IfConfirmed : Confirmed → Type 0 → Type 0
IfConfirmed confirmed.Done P = P
IfConfirmed _ P = Unit {0}

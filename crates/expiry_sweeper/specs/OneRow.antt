-- The sweep of one row.
use Rattle.std.specs.Prelude.{◌≡◌, ◌≢◌, ℕ, ◌%◌, ◌≤◌, ◌<◌, List, [], ◌∷◌, ◌++◌, length}
use Rattle.leg_masks.specs.Interval.{PlacedSpan as Item}
use Rattle.history_model.specs.declared.entry.Step.{Step}
use Rattle.history_model.specs.declared.entry.Step.TheVariants.{SawRow, LostTurn}
use Rattle.history_model.specs.declared.phase.Phase.TheVariants.{Free, Prebooked}
use Rattle.history_model.specs.declared.phase.EndKind.TheVariants.{Expire}
use Rattle.history_model.specs.Phase.{generation_words, phase_shown, row_word_of, said_phase}
use Rattle.history_model.specs.Booking.{most_items, standing_word, limit_word}
use Rattle.claim_rule.specs.Rule.{DeskView}
use Rattle.claim_rule.specs.Desks.{AddsSteps}
use Rattle.booking_rows.specs.declared.turns.Aim.TheVariants as aim
use Rattle.booking_rows.specs.Aims.{end_of}
use Rattle.booking_rows.specs.Ends.{IsEndedAs}
use Rattle.booking_rows.specs.Views.{saw_phase}
use Rattle.confirm_core.specs.RowEnds.{ends_as}
use Rattle.expiry_sweeper.specs.declared.rows.RowSwept.{RowSwept}
use Rattle.expiry_sweeper.specs.declared.rows.RowSwept.TheVariants as came

-- what looks at a booking showed that the first showed prebooked: its generation, its limit, and word 0 of its row
-- again
pub record SeenPrebooked : Type 0 where
  pub generation : ℕ
  pub limit : ℕ
  pub last : ℕ

-- what a sweep saw of a row, and did
pub data RowSweep : Type 0 where
  passed : ℕ → RowSweep
  given_away : SeenPrebooked → RowSweep
  waiting : SeenPrebooked → RowSweep
  expired : SeenPrebooked → List Item → RowSweep
  lost : SeenPrebooked → ℕ → RowSweep

abbrev pub outcome_of : RowSweep → RowSwept
outcome_of (passed n) = came.Passed
outcome_of (given_away s) = came.Passed
outcome_of (waiting s) = came.Waiting
outcome_of (expired s items) = came.Expired
outcome_of (lost s shown) = came.Lost

-- the last look shows the booking still there
abbrev pub IsThere : SeenPrebooked → Type 0
IsThere s = phase_shown s.generation s.last ≢ Free

-- a row is expired only where its limit was before now; at the limit it waits
abbrev pub IsRowSweep : ℕ → RowSweep → Type 0
IsRowSweep now (passed n) = said_phase (n % generation_words) ≢ Prebooked
IsRowSweep now (given_away s) = phase_shown s.generation s.last ≡ Free
IsRowSweep now (waiting s) = IsThere s × (now ≤ s.limit)
IsRowSweep now (expired s items) = IsThere s × (s.limit < now) × (length items ≤ most_items)
IsRowSweep now (lost s shown) = IsThere s × (s.limit < now) × (shown ≢ row_word_of Prebooked s.generation)

-- the looks at the phase and the limit of a prebooked booking, and at its phase again
abbrev pub saw_prebooked : ℕ → SeenPrebooked → List Step
saw_prebooked row s =
    saw_phase (record { row = row; generation = s.generation }) Prebooked ∷ SawRow row limit_word s.limit
    ∷ SawRow row standing_word s.last ∷ []

abbrev pub row_sweep_steps : ℕ → ℕ → RowSweep → List Step
row_sweep_steps now row (passed n) = SawRow row standing_word n ∷ []
row_sweep_steps now row (given_away s) = saw_prebooked row s
row_sweep_steps now row (waiting s) = saw_prebooked row s
row_sweep_steps now row (expired s items) =
    saw_prebooked row s ++ ends_as row Prebooked Expire (end_of (aim.Expire now)) items
row_sweep_steps now row (lost s shown) =
    saw_prebooked row s ++ LostTurn row (row_word_of Prebooked s.generation) shown ∷ []

-- a booking that it expired is the one seen prebooked: it has ended so at this moment, and all its items are given back
abbrev pub HasExpired : DeskView → ℕ → ℕ → RowSweep → Type 0
HasExpired desk now row (expired s items) =
    IsEndedAs desk (record { row = row; generation = s.generation }) Expire (end_of (aim.Expire now))
HasExpired desk now row _ = Unit {0}

-- the sweep of a row that a desk made, by what came of it
abbrev pub SweepsRow : ℕ → ℕ → DeskView → DeskView → RowSwept → Type 0
SweepsRow now row old new answer =
    (s : RowSweep) × IsRowSweep now s × (outcome_of s ≡ answer) × AddsSteps old new (row_sweep_steps now row s)
    × HasExpired new now row s

-- A sweep over all rows.
use Rattle.std.specs.Prelude.{◌≡◌, ℕ, suc, ◌+◌, List, [], ◌∷◌, ◌++◌, length}
use Rattle.std.specs.List.{AllByRecursion}
use Rattle.history_model.specs.declared.entry.Step.{Step}
use Rattle.expiry_sweeper.specs.declared.rows.RowSwept.{RowSwept}
use Rattle.expiry_sweeper.specs.declared.rows.RowSwept.TheVariants as came
use Rattle.booking_rows.specs.declared.swept.Swept.{Swept}
use Rattle.claim_rule.specs.Rule.{DeskView}
use Rattle.claim_rule.specs.Desks.{AddsSteps}
use Rattle.expiry_sweeper.specs.OneRow.{RowSweep, IsRowSweep, HasExpired, outcome_of, row_sweep_steps}

-- the steps of the sweeps of rows in rising number, from one on
abbrev pub sweeps_steps : ℕ → ℕ → List RowSweep → List Step
sweeps_steps now row [] = []
sweeps_steps now row (s ∷ rest) = row_sweep_steps now row s ++ sweeps_steps now (suc row) rest

-- one row more is counted
abbrev pub counted : RowSwept → Swept → Swept
counted came.Passed n = n
counted came.Waiting n = record n { waiting = n.waiting + 1 }
counted came.Expired n = record n { expired = n.expired + 1 }
counted came.Lost n = record n { lost = n.lost + 1 }

abbrev pub counts_of : List RowSweep → Swept
counts_of [] = record { expired = 0; lost = 0; waiting = 0 }
counts_of (s ∷ rest) = counted (outcome_of s) (counts_of rest)

-- one sweep for each row, in order; the counts are those of what came of them
pub record Sweeps (rows now : ℕ) (answer : Swept) (es : List Step) : Type 0 where
  pub sweeps : List RowSweep
  pub every : length sweeps ≡ rows
  pub each : AllByRecursion (IsRowSweep now) sweeps
  pub steps : es ≡ sweeps_steps now 0 sweeps
  pub counts : answer ≡ counts_of sweeps

-- each booking that these sweeps expired has ended so, of rows in rising number from one on
abbrev pub HaveExpired : DeskView → ℕ → ℕ → List RowSweep → Type 0
HaveExpired desk now row [] = Unit {0}
HaveExpired desk now row (s ∷ rest) = HasExpired desk now row s × HaveExpired desk now (suc row) rest

-- the entries of the sweep say which bookings it expired, and each of them has ended so
abbrev pub ExpiresCounted : ℕ → ℕ → Swept → DeskView → DeskView → Type 0
ExpiresCounted rows now answer old new = (sweeps : List RowSweep) × (length sweeps ≡ rows) × (answer ≡ counts_of sweeps)
    × AddsSteps old new (sweeps_steps now 0 sweeps) × HaveExpired new now 0 sweeps

-- What of a row stays kept, and what leaves it as it is.
use Rattle.std.specs.Prelude.{◌≡◌, ◌⊎◌, ◌==◌, ℕ, Bool, false, List, ◌++◌}
use Rattle.std.specs.List.{AllByRecursion}
use Rattle.history_model.specs.declared.entry.Entry.{Entry}
use Rattle.history_model.specs.declared.entry.Step.{Step}
use Rattle.history_model.specs.declared.entry.Step.TheVariants.{Close, Seal, Start, Turn}
use Rattle.history_model.specs.Booking.{Layout}
use Rattle.history_model.specs.History.{IsLegal, state_of}
use Rattle.claim_rule.specs.Openings.{kept_of_row}
use Rattle.row_cuts.specs.Cuts.{ComesAfter, IsAmong, IsKept}

-- a row of which something is kept has something ever after
abbrev pub KeptRowsStay : Type 0
KeptRowsStay =
    (g : Layout) (history more : List Entry) (row : ℕ) → IsLegal g (history ++ more)
    → IsKept (state_of g history) row → IsKept (state_of g (history ++ more)) row

-- the step changes the standing word of this row
abbrev pub restands : ℕ → Step → Bool
restands row (Start q generation) = q == row
restands row (Seal q phase) = q == row
restands row (Turn q from to moment amount successor) = q == row
restands row (Close q) = q == row
restands row _ = false

-- of a row whose standing word no entry changes the same is kept as before
abbrev pub UnchangedRowsStay : Type 0
UnchangedRowsStay =
    (g : Layout) (history more : List Entry) (row : ℕ) → IsLegal g (history ++ more)
    → AllByRecursion (λ (e : Entry). restands row e.step ≡ false) more
    → kept_of_row (state_of g history) row ≡ kept_of_row (state_of g (history ++ more)) row

-- each row whose standing word an entry changes is among these
abbrev pub HasAllChanged : List Entry → List ℕ → Type 0
HasAllChanged entries rows =
    (row : ℕ) → AllByRecursion (λ (e : Entry). restands row e.step ≡ false) entries ⊎ IsAmong row rows

-- so a cut of all rows that were changed since the cut before comes after it
abbrev pub ChangedRowsSuffice : Type 0
ChangedRowsSuffice =
    (g : Layout) (history more : List Entry) (count : ℕ) (rows : List ℕ) → IsLegal g (history ++ more)
    → HasAllChanged more rows
    → ComesAfter count (state_of g history) (record { rows = rows; state = state_of g (history ++ more) })

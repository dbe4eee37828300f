-- A desk between whose steps no other desk's stand.
use Rattle.std.specs.Prelude.{◌≡◌, ◌⊎◌, ℕ, ◌+◌, ◌<◌, Bool, true, false, ◌==◌, List, ◌++◌, ◌∷◌, [], map, Option, Some, None}
use Rattle.history_model.specs.declared.entry.Entry.{Entry}
use Rattle.history_model.specs.declared.entry.Step.{Step}
use Rattle.history_model.specs.declared.entry.Step.TheVariants.{Look, Take, Give, Start, SawRow, Note, Seal, Turn, LostTurn, Close, Met}
use Rattle.history_model.specs.Allowed.{OnRow}
use Rattle.history_model.specs.Apply.{started, words_of_row}
use Rattle.history_model.specs.Booking.{State, present}
use Rattle.history_model.specs.Phase.{is_ended}
use Rattle.rail_ids.specs.declared.RowNo.{RowNo}
use Rattle.rail_ids.specs.Spelling.{last_generation}
use Rattle.history_model.specs.History.{IsLegalFrom, entry, state_after}
use Rattle.claim_rule.specs.Rule.{DeskView, state_seen}
use Rattle.booking_rows.specs.Starts.{IsLeastFree, MakesBooking, MakesNone}

-- the first desk of its books, which has parted no other
pub record IsAlone (desk : DeskView) : Type 0 where
  pub number : desk.number ≡ 0
  pub parted : desk.parted ≡ 0

-- the entries of a desk's steps
abbrev pub entries_of : ℕ → List Step → List Entry
entries_of desk steps = map (entry desk) steps

-- the state that a desk's steps leave
abbrev pub after_steps : State → ℕ → List Step → State
after_steps s desk steps = state_after s (entries_of desk steps)

-- The desk has made these steps: they are legal after what it had seen, and it has seen no more.
pub record Follows (old new : DeskView) (steps : List Step) : Type 0 where
  pub legal : IsLegalFrom old.layout (state_seen old) (entries_of old.number steps)
  pub state : state_seen new ≡ after_steps (state_seen old) old.number steps
  pub layout : new.layout ≡ old.layout
  pub alone : IsAlone new

-- the step looks, or is one on the row that makes it
abbrev pub is_at : ℕ → Step → Bool
is_at row (Look place half shown) = true
is_at row (Take r place span) = r == row
is_at row (Give r item) = r == row
is_at row (Start r generation) = false
is_at row (SawRow r word value) = true
is_at row (Note r word value) = r == row
is_at row (Seal r phase) = r == row
is_at row (Turn r from to moment amount successor) = false
is_at row (LostTurn r wanted shown) = true
is_at row (Close r) = false
is_at row Met = true

-- the row's booking has ended, before the last generation
abbrev pub IsStartable : State → ℕ → Type 0
IsStartable s row = OnRow s row (λ b. (is_ended b.phase ≡ true) × (b.generation < last_generation))

abbrev pub NoneStartable : State → ℕ → Type 0
NoneStartable s rows = (lower : ℕ) → lower < rows → ¬ IsStartable s lower

-- the booking follows on its row's present one, which has ended, and on no row below it may one
abbrev pub IsLeastEnded : State → RowNo → Type 0
IsLeastEnded s row =
    IsStartable s row.row × OnRow s row.row (λ b. row.generation ≡ b.generation + 1) × NoneStartable s row.row

-- the state with the booking started
abbrev pub with_started : State → RowNo → ℕ → State
with_started s row desk = s ++ started row.row row.generation desk (words_of_row s row.row) ∷ []

-- Where a start found a row, it is the one that the desk makes, and nothing changes; or the least row that is not in
-- use, which is in use now. Or, where all rows are in use, it is the least whose booking may be followed by another.
-- Where it found none: all rows are in use, no booking may be followed by another, and nothing changes.
abbrev pub StartsLeast : DeskView → DeskView → Option RowNo → Type 0
StartsLeast old new (Some row) =
    (MakesBooking old row × (state_seen new ≡ state_seen old))
    ⊎ ((MakesNone old × (row.generation ≡ 0) × (present (state_seen old) row.row ≡ None)
    × IsLeastFree (state_seen old) row.row × (state_seen new ≡ with_started (state_seen old) row old.number))
    ⊎ (MakesNone old × IsLeastFree (state_seen old) old.layout.rows × IsLeastEnded (state_seen old) row
    × (state_seen new ≡ with_started (state_seen old) row old.number)))
StartsLeast old new None =
    MakesNone old × IsLeastFree (state_seen old) old.layout.rows × NoneStartable (state_seen old) old.layout.rows
    × (state_seen new ≡ state_seen old)

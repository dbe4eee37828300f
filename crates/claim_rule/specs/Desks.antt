-- What holds of a desk, and what a call of it adds to what it has seen.
use Rattle.std.specs.Prelude.{◌≡◌, ◌≢◌, ℕ, true, IfSome, None, map, ◌+◌, ◌<◌, ◌≤◌, length, [], List, ◌++◌, ◌∷◌}
use mathlib.Core.List.{IsPrefix}
use Rattle.rail_ids.specs.declared.RowNo.{RowNo}
use Rattle.claim_rule.specs.Holds.{StandsFor, empty_hold}
use Rattle.claim_rule.specs.OwnWork.{IsOwnWork}
use Rattle.claim_rule.specs.Rule.{BooksView, DeskView, IsWhole, Each, OnBooking, state_seen}
use Rattle.history_model.specs.Allowed.{IsAllowedStep, TurnsWith}
use Rattle.history_model.specs.Booking.{phase_of_row, Layout, last_moment, limit_of}
use Rattle.history_model.specs.Laws.{stage}
use Rattle.history_model.specs.History.{IsLegal, entry, own, state_of}
use Rattle.history_model.specs.Phase.{is_sealed, is_turn}
use Rattle.history_model.specs.declared.booking.End.{End}
use Rattle.history_model.specs.declared.entry.Entry.{Entry}
use Rattle.history_model.specs.declared.entry.Step.{Step}
use Rattle.history_model.specs.declared.entry.Step.TheVariants.{Met}
use Rattle.history_model.specs.declared.phase.Phase.{Phase}

-- no row below this one is free in what the desk has seen
abbrev pub AreTaken : DeskView → ℕ → Type 0
AreTaken desk row = (lower : ℕ) → lower < row → 1 ≤ stage (phase_of_row (state_seen desk) lower)

-- The desk is of these books, and has seen a legal history of theirs. A row that it keeps is its own, without items,
-- and no row below `past` is free. What the first desk has seen while it is alone is its own work.
pub record IsOf (books : BooksView) (desk : DeskView) : Type 0 where
  pub table : desk.table ≡ books.table
  pub layout : desk.layout ≡ books.layout
  pub legal : IsLegal desk.layout desk.seen
  pub kept : IfSome desk.kept (λ row. StandsFor desk (empty_hold row))
  pub past : AreTaken desk desk.past
  pub within : desk.past ≤ desk.layout.rows
  pub work : desk.number ≡ 0 → desk.parted ≡ 0 → IsOwnWork (state_of desk.layout desk.seen)

-- a desk that has this number, has seen this, and has parted and joined no other
pub record IsNew (desk : DeskView) (its : ℕ) (history : List Entry) : Type 0 where
  pub number : desk.number ≡ its
  pub seen : desk.seen ≡ history
  pub joined : desk.joined ≡ []
  pub parted : desk.parted ≡ 0
  pub kept : desk.kept ≡ None

-- the desk has made this one step after all that it had seen, and has now seen no more than that
pub record Stepped (step : Step) (old new : DeskView) : Type 0 where
  pub between : List Entry
  pub seen : new.seen ≡ (old.seen ++ between) ++ entry old.number step ∷ []
  pub others : own between old.number ≡ []
  pub none : IsWhole old.number old.parted old.joined → between ≡ []
  pub legal : IsLegal new.layout new.seen
  pub same :
      (new.table ≡ old.table) × (new.layout ≡ old.layout) × (new.number ≡ old.number) × (new.joined ≡ old.joined)
      × (new.parted ≡ old.parted) × (new.kept ≡ old.kept) × (new.past ≡ old.past)

-- From one call of a desk to the next: what it had seen begins what it has seen, and it has of its own these steps
-- more. Where it has all entries there are, these are all. It never forgets that rows are taken
pub record AddsSteps (old new : DeskView) (steps : List Step) : Type 0 where
  pub front : IsPrefix old.seen new.seen
  pub legal : IsLegal new.layout new.seen
  pub mine : own new.seen old.number ≡ own old.seen old.number ++ map (entry old.number) steps
  pub whole : IsWhole old.number old.parted old.joined → new.seen ≡ old.seen ++ map (entry old.number) steps
  pub same :
      (new.table ≡ old.table) × (new.layout ≡ old.layout) × (new.number ≡ old.number) × (new.joined ≡ old.joined)
      × (new.parted ≡ old.parted)
  pub further : old.past ≤ new.past

-- the desk has at most this number of entries of its own more
abbrev pub AddsAtMost : ℕ → DeskView → DeskView → Type 0
AddsAtMost most old new = length (own new.seen old.number) ≤ length (own old.seen old.number) + most

-- The desk has joined the other: it has seen what both had seen, with all entries of both and of those that they had
-- joined, and has made a Met. Where it is the first desk it has parted one
pub record HasMet (old other new : DeskView) : Type 0 where
  pub front : IsPrefix old.seen new.seen
  pub other_front : IsPrefix other.seen new.seen
  pub legal : IsLegal new.layout new.seen
  pub mine : own new.seen old.number ≡ own old.seen old.number ++ entry old.number Met ∷ []
  pub theirs : Each (λ j. own new.seen j ≡ own other.seen j) (other.number ∷ other.joined)
  pub before : Each (λ j. own new.seen j ≡ own old.seen j) old.joined
  pub joined : new.joined ≡ old.joined ++ other.number ∷ other.joined
  pub parted : old.number ≡ 0 → old.parted ≢ 0
  pub same :
      (new.table ≡ old.table) × (new.layout ≡ old.layout) × (new.number ≡ old.number) × (new.parted ≡ old.parted)
      × (new.kept ≡ old.kept) × (new.past ≡ old.past)

-- the step is allowed in what the desk has seen
abbrev pub MayStep : Layout → DeskView → Step → Type 0
MayStep layout desk step = IsAllowedStep layout (state_of layout desk.seen) desk.number step

-- In what was seen the booking stands, sealed, and the turn with this end is allowed but for its phase. It need not be
-- its row's present one
abbrev pub CanTurn : Layout → List Entry → ℕ → RowNo → Phase → Phase → End → Type 0
CanTurn layout seen desk row from to end =
    (row.row < layout.rows) × (is_turn from to ≡ true) × (end.moment ≤ last_moment)
    × OnBooking (state_of layout seen) row
    (λ b. (is_sealed b.phase ≡ true) × TurnsWith (state_of layout seen) desk (limit_of b) to end)

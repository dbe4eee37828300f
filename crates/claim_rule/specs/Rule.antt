-- One legal history for all desks.
use Rattle.std.specs.Prelude.{◌≡◌, ◌⊎◌, ℕ, ◌+◌, ◌≤◌, ◌<◌, true, false, cond, leb, List, [], ◌∷◌, ◌++◌, length, Option, IsSomeAnd}
use mathlib.Core.Option.{some}
use mathlib.Core.List.{IsPrefix}
use lib.ListN.{get_elem?}
use Rattle.atomic_table.specs.Table.{State as Table}
use Rattle.atomic_table.specs.Seated.{TableId}
use Rattle.claim_rule.specs.declared.rule.Old.{Old}
use Rattle.claim_rule.specs.declared.rule.View.{View}
use Rattle.leg_masks.specs.Interval.{most_legs}
use Rattle.rail_ids.specs.declared.RowNo.{RowNo}
use Rattle.history_model.specs.Allowed.{IsAllowedStep}
use Rattle.history_model.specs.Apply.{apply_step}
use Rattle.history_model.specs.Booking.{Booking, Layout, State, booking_at}
use Rattle.history_model.specs.History.{IsLegal, entry, own, state_of}
use Rattle.history_model.specs.Words.{AreWordsOf, Writes, value}
use Rattle.history_model.specs.declared.entry.Entry.{Entry}
use Rattle.history_model.specs.declared.entry.Step.{Step}
use Rattle.history_model.specs.declared.word.Word.{Word}

-- how many legs a place of books has at most: each may lie in a span
abbrev pub most_place_legs : ℕ
most_place_legs = most_legs

-- how many legs a place of new books may have
abbrev pub IsPlaceLegs : ℕ → Type 0
IsPlaceLegs legs = (0 < legs) × (legs ≤ most_place_legs)

-- what contracts see of the books, and of a desk
pub record BooksView : Type 0 where
  pub table : TableId
  pub layout : Layout

pub record DeskView : Type 0 where
  pub table : TableId
  pub layout : Layout
  pub number : ℕ
  pub seen : List Entry
  pub joined : List ℕ
  pub parted : ℕ
  pub kept : Option RowNo
  pub past : ℕ

-- what contracts see of what was told
pub record ToldView : Type 0 where
  pub table : TableId
  pub seen : List Entry

-- the state of what the desk has seen
abbrev pub state_seen : DeskView → State
state_seen desk = state_of desk.layout desk.seen

-- the booking stands in the state, and this holds of it. It need not be its row's present one
abbrev pub OnBooking : State → RowNo → (Booking → Type 0) → Type 0
OnBooking state row Holds = IsSomeAnd (booking_at state row.row row.generation) Holds

abbrev pub newcomer : Layout → ℕ → List Entry → View
newcomer layout number seen =
    record { plan = layout; spent = false; number = number; seen = seen; joined = []; parted = 0; olds = [] }

abbrev pub Each : {A : Type 0} → (A → Type 0) → List A → Type 0
Each Holds [] = Unit {0}
Each Holds (first ∷ rest) = Holds first × Each Holds rest

abbrev pub In : ℕ → List ℕ → Type 0
In number [] = ⊥
In number (first ∷ rest) = (number ≡ first) ⊎ In number rest

-- the seat of the desk of this number is spent: the desk was joined. The list has the seats of all desks, by number
abbrev pub IsSpent : List ℕ → List View → ℕ → Type 0
IsSpent desks views number =
    (seat : ℕ) × (view : View) × (get_elem? desks number ≡ some seat) × (get_elem? views seat ≡ some view)
    × (view.spent ≡ true)

-- what was seen has all entries of the desk that the history has
abbrev pub HasAll : List Entry → List Entry → ℕ → Type 0
HasAll history seen desk = own seen desk ≡ own history desk

-- a former history is a beginning, and has all of the desks that its list names
pub record IsOld (history : List Entry) (view : View) (old : Old) : Type 0 where
  pub front : IsPrefix old.seen history
  pub whole : Each (λ j. HasAll history old.seen j × ((j ≡ view.number) ⊎ In j view.joined)) old.whole

-- what is so of the view of a desk's seat
pub record Fits (history : List Entry) (desks : List ℕ) (views : List View) (seat : ℕ) (view : View) : Type 0 where
  pub number : get_elem? desks view.number ≡ some seat
  pub front : IsPrefix view.seen history
  pub own_all : HasAll history view.seen view.number
  pub joined : Each (λ j. IsSpent desks views j × HasAll history view.seen j) view.joined
  pub olds : Each (IsOld history view) view.olds

-- A seat that is spent has no desk, and what its view has seen begins the history
pub record Kept (layout : Layout) (table : Table ℕ View) : Type 0 where
  pub history : List Entry
  pub desks : List ℕ
  pub legal : IsLegal layout history
  pub words : AreWordsOf layout (state_of layout history) table.words
  pub seats : (seat : ℕ) (view : View) → get_elem? table.views seat ≡ some view → view.spent ≡ false
      → Fits history desks table.views seat view
  pub told : (seat : ℕ) (view : View) → get_elem? table.views seat ≡ some view → view.spent ≡ true
      → IsPrefix view.seen history
  pub later : (number : ℕ) → length desks ≤ number → own history number ≡ []
  pub first : (seat : ℕ) × (view : View) × (get_elem? table.views seat ≡ some view) × (view.spent ≡ false)
      × (view.number ≡ 0) × (length desks ≡ view.parted + 1)

-- desk 0 which has joined every desk that it parted: it has all entries there are
abbrev pub IsWhole : ℕ → ℕ → List ℕ → Type 0
IsWhole number parted joined = (number ≡ 0) × ((other : ℕ) → 1 ≤ other → other ≤ parted → In other joined)

-- a former history begins this one, which has of its whole desks one entry more, where that is theirs
abbrev pub AddedTo : Entry → List Entry → Old → Type 0
AddedTo added history old =
    IsPrefix old.seen history × Each (λ j. own history j ≡ own old.seen j ++ own (added ∷ []) j) old.whole

-- a desk's step was added after all that the desk has seen, and no other step of it
pub record Added (layout : Layout) (step : Step) (old new : View) : Type 0 where
  pub between : List Entry
  pub seen : new.seen ≡ (old.seen ++ between) ++ entry old.number step ∷ []
  pub others : own between old.number ≡ []
  pub none : IsWhole old.number old.parted old.joined → between ≡ []
  pub legal : IsLegal layout new.seen
  pub same :
      (new.plan ≡ old.plan) × (new.spent ≡ old.spent) × (new.number ≡ old.number) × (new.joined ≡ old.joined)
      × (new.parted ≡ old.parted) × (new.olds ≡ [])
  pub apart : Each (λ j. j ≡ old.number → ⊥) old.joined
  pub later : old.number ≡ 0 → (other : ℕ) → old.parted < other → own new.seen other ≡ []
  pub first : old.number ≡ 0 → old.parted ≡ 0 → old.joined ≡ []
  pub olds : Each (AddedTo (entry old.number step) new.seen) old.olds

-- just before the desk's step, which is the last that the view has seen, the word was this number
pub record Found (layout : Layout) (word : Word) (found : ℕ) (old new : View) : Type 0 where
  pub between : List Entry
  pub step : Entry
  pub seen : new.seen ≡ (old.seen ++ between) ++ step ∷ []
  pub number : value (state_of layout (old.seen ++ between)) word ≡ found

-- in this state the desk's step is allowed, and makes the word become the next of what it was
abbrev pub MayWrite : Layout → State → ℕ → Word → (ℕ → ℕ) → (ℕ → Step) → Type 0
MayWrite layout state desk word next step =
    IsAllowedStep layout state desk (step (value state word))
    × Writes state (apply_step state desk (step (value state word))) word (next (value state word))

-- and so it is whatever the history is
abbrev pub Steps : Layout → View → Word → (ℕ → ℕ) → (ℕ → Step) → Type 0
Steps layout view word next step =
    (history : List Entry) → IsLegal layout history → IsPrefix view.seen history → HasAll history view.seen view.number
    → MayWrite layout (state_of layout history) view.number word next step

-- a view that parts another has made one more, and the other has seen as much
abbrev pub parting : View → View
parting view = record view { parted = view.parted + 1 }

abbrev pub newly_parted : View → View
newly_parted view = newcomer view.plan (view.parted + 1) view.seen

abbrev pub longer : List Entry → List Entry → List Entry
longer one other = cond (leb (length one) (length other)) other one

abbrev pub old_of : View → Old
old_of view = record { seen = view.seen; whole = view.number ∷ view.joined }

-- a view that joins another
abbrev pub joining : View → View → View
joining view other =
    record view {
      seen = longer view.seen other.seen;
      joined = view.joined ++ other.number ∷ other.joined;
      olds = old_of view ∷ old_of other ∷ [];
    }

-- a view of no desk, which says what was seen
abbrev pub telling : List Entry → View
telling seen =
    record {
      plan = record { legs = []; rows = 0; opening = [] };
      spent = true;
      number = 0;
      seen = seen;
      joined = [];
      parted = 0;
      olds = [];
    }

abbrev pub nobody : View
nobody = telling []

-- a view, and one that says what it has seen
abbrev pub as_it_was : View → View
as_it_was view = view

abbrev pub told_by : View → View
told_by view = telling view.seen

-- a view that learns what another says
abbrev pub learning : View → View → View
learning view told =
    record view {
      seen = longer view.seen told.seen;
      olds = old_of view ∷ record { seen = told.seen; whole = [] } ∷ [];
    }

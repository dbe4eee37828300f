-- The life of a booking over a legal history: where its phase leads, and how it was sealed and ended.
use Rattle.std.specs.Prelude.{◌≡◌, ℕ, ◌+◌, ◌⊎◌, Bool, true, false, List, [], ◌∷◌, ◌++◌, map, Some}
use Rattle.history_model.specs.declared.entry.Entry.{Entry}
use Rattle.history_model.specs.declared.entry.Step.TheVariants.{Seal, LostTurn}
use Rattle.history_model.specs.declared.phase.Phase.{Phase}
use Rattle.history_model.specs.declared.phase.Phase.TheVariants.{Ending, Ended}
use Rattle.history_model.specs.declared.phase.EndKind.{EndKind}
use Rattle.history_model.specs.declared.phase.EndKind.TheVariants.{Release, Expire}
use Rattle.history_model.specs.declared.booking.BookedItem.{BookedItem}
use Rattle.history_model.specs.declared.booking.End.{End}
use Rattle.history_model.specs.Phase.{is_sealed}
use Rattle.history_model.specs.Booking.{Booking, Layout, word_at, booking_at, next_generation, amount_word, end_amount_word}
use Rattle.history_model.specs.History.{state_of, entry}
use Rattle.history_model.specs.Laws.{MayFollow}
use Rattle.history_model.specs.WholeEnds.{end_turn}

-- a phase leads to itself, and to each that may follow one that it leads to
pub data LeadsTo (from : Phase) : Phase → Type 0 where
  leads_here : (to : Phase) → to ≡ from → LeadsTo from to
  leads_on : (mid to : Phase) → LeadsTo from mid → MayFollow mid to → LeadsTo from to

-- released or expired, or about to be
abbrev pub is_let_go : Phase → Bool
is_let_go (Ending Release) = true
is_let_go (Ending Expire) = true
is_let_go (Ended Release) = true
is_let_go (Ended Expire) = true
is_let_go _ = false

-- the entry is a turn of the row from one phase to the other
abbrev pub IsTurnBetween : ℕ → Phase → Phase → Entry → Type 0
IsTurnBetween row from to e = (end : End) × (e.step ≡ end_turn row from to end)

-- the entry is a lost turn of the row, and shows this word
abbrev pub IsLostTurn : ℕ → ℕ → Entry → Type 0
IsLostTurn row shown e = (wanted : ℕ) × (e.step ≡ LostTurn row wanted shown)

-- the items, each given back
abbrev pub all_given_back : List BookedItem → List BookedItem
all_given_back items = map (λ (i : BookedItem). record i { given_back = true }) items

-- after this history the row's present booking is of this generation, so an entry of the row is one of it
abbrev pub IsPresentAt : Layout → List Entry → ℕ → ℕ → Type 0
IsPresentAt g history row generation = next_generation (state_of g history) row ≡ generation + 1

-- after this part of a history the booking is sealed, as b: its seal was the last entry, or the books began with it
pub record IsSealedBy (g : Layout) (row generation : ℕ) (part : List Entry) (b : Booking) : Type 0 where
  pub found : booking_at (state_of g part) row generation ≡ Some b
  pub sealed : is_sealed b.phase ≡ true
  pub last : (part ≡ [])
      ⊎ ((earlier : List Entry) × (maker : ℕ) × (phase : Phase) × IsPresentAt g earlier row generation
      × (part ≡ earlier ++ entry maker (Seal row phase) ∷ []))

-- over the history the booking was sealed, then turned to an ending, with the moment, amount and successor of its end,
-- and has given back exactly the items that it was sealed with
pub record HasEnded
    (g : Layout) (history : List Entry) (row generation : ℕ) (kind : EndKind) (c : Booking) : Type 0 where
  pub before : List Entry
  pub between : List Entry
  pub after : List Entry
  pub ender : ℕ
  pub from : Phase
  pub sealed : Booking
  pub sealing : IsSealedBy g row generation before sealed
  pub turning : IsPresentAt g (before ++ between) row generation
  pub history_is : history ≡ (before ++ between) ++ entry ender (end_turn row from (Ending kind) c.end) ∷ after
  pub items : c.items ≡ all_given_back sealed.items
  pub amount : word_at c end_amount_word ≡ amount_word kind c.end.amount

-- What holds over every legal history.
use Rattle.std.specs.Prelude.{◌≡◌, ◌≢◌, ◌≤◌, ◌+◌, ◌⊎◌, true, false, ℕ, List, [], ◌∷◌, ◌++◌, Some, IfSome, IsSomeAnd}
use Rattle.history_model.specs.declared.entry.Entry.{Entry}
use Rattle.history_model.specs.declared.entry.Step.TheVariants.{Look}
use Rattle.history_model.specs.declared.phase.EndKind.{EndKind}
use Rattle.history_model.specs.declared.phase.Phase.{Phase}
use Rattle.history_model.specs.declared.phase.Phase.TheVariants.{Free, Ending, Ended}
use Rattle.history_model.specs.Booking.{Layout, layout_of, most_items, first_item_word, booking_at, present, phase_at, next_generation}
use Rattle.history_model.specs.Allowed.{IsAllowed}
use Rattle.history_model.specs.Apply.{apply}
use Rattle.history_model.specs.History.{IsLegal, IsTurnFrom, entry, own, state_of}
use Rattle.history_model.specs.Laws.{AreInRange, IsWellFormed, NoDouble, Stays, is_owners, stage}
use Rattle.history_model.specs.Looks.{ChangesPlace}
use Rattle.history_model.specs.Life.{LeadsTo, IsTurnBetween, IsLostTurn, IsPresentAt, HasEnded}
use Rattle.history_model.specs.Phase.{is_sealed, is_ended, phase_shown}
use Rattle.history_model.specs.Words.{row_word}

-- legal histories

abbrev pub LegalIsWellFormed : Type 0
LegalIsWellFormed = (g : Layout) (history : List Entry) → IsLegal g history → IsWellFormed g (state_of g history)

abbrev pub LegalIsInRange : Type 0
LegalIsInRange = (g : Layout) (history : List Entry) → IsLegal g history → AreInRange g (state_of g history)

abbrev pub LegalHasNoDouble : Type 0
LegalHasNoDouble = (g : Layout) (history : List Entry) → IsLegal g history → NoDouble (state_of g history)

-- the history without entries is legal, and its state is that of books without bookings

abbrev pub EmptyIsLegal : Type 0
EmptyIsLegal = (places rows : ℕ) → IsLegal (layout_of places rows) [] × (state_of (layout_of places rows) [] ≡ [])

-- with one allowed entry after it a legal history is legal, and its state is the applied one

abbrev pub LegalGoesOn : Type 0
LegalGoesOn = (g : Layout) (history : List Entry) (e : Entry) → IsLegal g history → IsAllowed g (state_of g history) e
    → IsLegal g (history ++ e ∷ [])

abbrev pub StateGoesOn : Type 0
StateGoesOn =
    (g : Layout) (history : List Entry) (e : Entry) → state_of g (history ++ e ∷ []) ≡ apply (state_of g history) e

-- a booking in the making or ending, its owner, and its row

abbrev pub OwnersChangeAlone : Type 0
OwnersChangeAlone = (g : Layout) (history more : List Entry) (row generation : ℕ) → IsLegal g (history ++ more)
    → IfSome (booking_at (state_of g history) row generation)
    (λ b. is_owners b.phase ≡ true → own more b.owner ≡ []
    → booking_at (state_of g (history ++ more)) row generation ≡ Some b)

abbrev pub OwnersStayPresent : Type 0
OwnersStayPresent = (g : Layout) (history more : List Entry) (row : ℕ) → IsLegal g (history ++ more)
    → IfSome (present (state_of g history) row)
    (λ b. is_owners b.phase ≡ true → own more b.owner ≡ [] → present (state_of g (history ++ more)) row ≡ Some b)

abbrev pub UnendedIsPresent : Type 0
UnendedIsPresent = (g : Layout) (history : List Entry) (row generation : ℕ) → IsLegal g history
    → IfSome (booking_at (state_of g history) row generation)
    (λ b. is_ended b.phase ≡ false → present (state_of g history) row ≡ Some b)

-- phases and generations go forward

abbrev pub StagesRise : Type 0
StagesRise = (g : Layout) (history more : List Entry) (row generation : ℕ) → IsLegal g (history ++ more)
    → stage (phase_at (state_of g history) row generation)
    ≤ stage (phase_at (state_of g (history ++ more)) row generation)

abbrev pub PhasesLeadOn : Type 0
PhasesLeadOn = (g : Layout) (history more : List Entry) (row generation : ℕ) → IsLegal g (history ++ more)
    → LeadsTo (phase_at (state_of g history) row generation) (phase_at (state_of g (history ++ more)) row generation)

abbrev pub GenerationsRise : Type 0
GenerationsRise = (g : Layout) (history more : List Entry) (row : ℕ) → IsLegal g (history ++ more)
    → next_generation (state_of g history) row ≤ next_generation (state_of g (history ++ more)) row

-- of all turns of a booking from one phase there is one: it decides the phase, and what the lost ones after it show

abbrev pub OneTurnFrom : Type 0
OneTurnFrom =
    (g : Layout) (before between after : List Entry) (first second : Entry) (row generation : ℕ) (from : Phase)
    → IsPresentAt g before row generation → IsTurnFrom row from first
    → IsPresentAt g (before ++ first ∷ between) row generation → IsTurnFrom row from second
    → IsLegal g (before ++ first ∷ between ++ second ∷ after) → ⊥

abbrev pub FirstTurnDecides : Type 0
FirstTurnDecides = (g : Layout) (before after : List Entry) (first : Entry) (row generation : ℕ) (from to : Phase)
    → IsPresentAt g before row generation → IsTurnBetween row from to first → IsLegal g (before ++ first ∷ after)
    → LeadsTo to (phase_at (state_of g (before ++ first ∷ after)) row generation)

abbrev pub LosersSeeIt : Type 0
LosersSeeIt =
    (g : Layout) (before between after : List Entry) (first lost : Entry) (row generation : ℕ) (from to : Phase)
    (shown : ℕ)
    → IsPresentAt g before row generation → IsTurnBetween row from to first → IsLostTurn row shown lost
    → IsLegal g (before ++ first ∷ between ++ lost ∷ after)
    → (phase_shown generation shown ≡ Free) ⊎ LeadsTo to (phase_shown generation shown)

abbrev pub EndingsStayOfKind : Type 0
EndingsStayOfKind =
    (kind : EndKind) (phase : Phase) → LeadsTo (Ending kind) phase → (phase ≡ Ending kind) ⊎ (phase ≡ Ended kind)

-- sealed and ended bookings

abbrev pub SealedStays : Type 0
SealedStays = (g : Layout) (history more : List Entry) (row generation : ℕ) → IsLegal g (history ++ more)
    → IfSome (booking_at (state_of g history) row generation)
    (λ b. is_sealed b.phase ≡ true → IsSomeAnd (booking_at (state_of g (history ++ more)) row generation) (Stays b))

abbrev pub EndedGaveBack : Type 0
EndedGaveBack = (g : Layout) (history : List Entry) (row generation : ℕ) → IsLegal g history
    → IfSome (booking_at (state_of g history) row generation)
    (λ c. (kind : EndKind) → c.phase ≡ Ended kind
    → (booking_at g.opening row generation ≡ Some c) ⊎ HasEnded g history row generation kind c)

-- words

abbrev pub LooksHaveCause : Type 0
LooksHaveCause =
    (g : Layout) (before between after : List Entry) (first second place half shown later : ℕ) → shown ≢ later
    → IsLegal g
    (before ++ (entry first (Look place half shown) ∷ (between ++ (entry second (Look place half later) ∷ after))))
    → ChangesPlace g (before ++ entry first (Look place half shown) ∷ []) place half between

abbrev pub ChangeIsOthers : Type 0
ChangeIsOthers =
    (front back : List Entry) (change : Entry) (desk : ℕ) → own (front ++ change ∷ back) desk ≡ []
    → change.desk ≢ desk

abbrev pub UnusedWordsStay : Type 0
UnusedWordsStay = (g : Layout) (history more : List Entry) (row word : ℕ) → IsLegal g (history ++ more)
    → first_item_word + most_items ≤ word
    → row_word (state_of g (history ++ more)) row word ≡ row_word (state_of g history) row word

-- How the tries of a lone desk end: by what the state has at their places.
use Rattle.std.specs.Prelude.{◌≡◌, ◌<◌, ℕ, List, [], ◌∷◌}
use Rattle.std.specs.List.{AllByRecursion}
use Rattle.leg_masks.specs.Interval.{Interval, IsClear, half_of, items_at, pieces, PlacedSpan as Item}
use Rattle.history_model.specs.Allowed.{IsOpen}
use Rattle.history_model.specs.Booking.{State}
use Rattle.history_model.specs.Words.{place_word}
use Rattle.hold_core.specs.declared.tries.Outcome.{Outcome}
use Rattle.hold_core.specs.declared.tries.Outcome.TheVariants.{Won, Refused, Contended}
use Rattle.hold_core.specs.declared.adds.Added.{Added}
use Rattle.hold_core.specs.declared.adds.Added.TheVariants as added
use Rattle.hold_core.specs.Tries.{Part, Try}

-- no item at the place that is not given back meets the span
abbrev pub IsFreeAt : State → Interval → ℕ → Type 0
IsFreeAt s span place = IsOpen s place span

-- the words of the place are clear, each on the piece of the span that it has
abbrev pub HasClearWords : State → Interval → ℕ → Type 0
HasClearWords s span place = AllByRecursion (λ piece. IsClear (place_word s place (half_of piece)) piece) (pieces span)

-- won where it is free, and else refused
abbrev pub EndsBy : Type 0 → Outcome → Type 0
EndsBy IsFree Won = IsFree
EndsBy IsFree Refused = ¬ IsFree
EndsBy IsFree Contended = ⊥

-- the part has one look, which shows the word of its half of the place
abbrev pub ShowsWord : State → ℕ → Part → Type 0
ShowsWord s place t = t.shown ≡ place_word s place (half_of t.piece) ∷ []

-- each part of the try has one look, which shows the word that its half of the place has, and the try ends by what is
-- free
pub record IsDecided (s : State) (span : Interval) (t : Try) : Type 0 where
  pub one : AllByRecursion (ShowsWord s t.place) t.parts
  pub ends : EndsBy (IsFreeAt s span t.place) t.outcome

-- one place wanted of that many, numbered from 0: the least that is free on the span is won, or none is free and none
-- is won
abbrev pub FindsFirst : State → Interval → ℕ → Added → List Item → Type 0
FindsFirst s span places added.All won =
    (place : ℕ) × (won ≡ items_at span place) × (place < places) × IsFreeAt s span place
    × ((lower : ℕ) → lower < place → ¬ IsFreeAt s span lower)
FindsFirst s span places (added.NoPlace n) won = (won ≡ []) × ((place : ℕ) → place < places → ¬ IsFreeAt s span place)
FindsFirst s span places (added.Contended place) won = ⊥

-- What one request of a drill adds to the history, by what came of it.
use Rattle.std.specs.Prelude.{◌≡◌, ◌⊎◌, ℕ, ◌+◌, ◌*◌, ◌<◌, ◌≤◌, Bool, true, false, List, [], ◌∷◌, ◌++◌, length, map}
use Rattle.std.specs.List.{AllByRecursion}
use mathlib.Core.List.{IsPrefix}
use Rattle.leg_masks.specs.Interval.{Interval, IsClear}
use Rattle.history_model.specs.declared.entry.Entry.{Entry}
use Rattle.history_model.specs.declared.entry.Step.{Step}
use Rattle.history_model.specs.declared.entry.Step.TheVariants.{Look, SawRow, Note, Start, Take, Seal, LostTurn, Met}
use Rattle.history_model.specs.declared.phase.Phase.TheVariants.{Prebooked}
use Rattle.history_model.specs.Booking.{Layout}
use Rattle.history_model.specs.History.{entry, own, state_of}
use Rattle.history_model.specs.Looks.{look_at}
use Rattle.booking_rows.specs.Starts.{IsLeastFree}
use Rattle.hold_core.specs.Tries.{looks_at, most_looks, AreMoving, AllClear}
use Rattle.host_drill.specs.Generator.{drill_leg}
use Rattle.host_drill.specs.Totals.{one_if, most_sold}

-- what came of a request: a place was sold, each place was taken, a place went on changing, or no row was free
pub data Outcome : Type 0 where
  Sold : Outcome
  TurnedAway : Outcome
  Busy : Outcome
  WithoutRow : Outcome

-- the step is one of these
abbrev pub Among : Step → List Step → Type 0
Among st [] = ⊥
Among st (e ∷ es) = (e ≡ st) ⊎ Among st es

-- one leg
abbrev pub on_leg : ℕ → Interval
on_leg leg = record { from = leg; to = leg + 1 }

-- a step that takes and gives no place, and seals and turns no booking
abbrev pub is_minor : Step → Bool
is_minor (Look place half shown) = true
is_minor (SawRow row word value) = true
is_minor (Note row word value) = true
is_minor (Start row generation) = true
is_minor (LostTurn row wanted shown) = true
is_minor Met = true
is_minor _ = false

abbrev pub AllMinor : List Step → Type 0
AllMinor es = AllByRecursion (λ st. is_minor st ≡ true) es

abbrev pub is_start : Step → Bool
is_start (Start row generation) = true
is_start _ = false

-- how many rows the steps start
abbrev pub starts_in : List Step → ℕ
starts_in [] = 0
starts_in (st ∷ es) = one_if (is_start st) + starts_in es

-- one of the places is taken on the leg, and a booking with it is sealed
pub record IsSale (places leg : ℕ) (es : List Step) : Type 0 where
  pub front : List Step
  pub middle : List Step
  pub row : ℕ
  pub place : ℕ
  pub within : place < places
  pub are : es ≡ front ++ Take row place (on_leg leg) ∷ (middle ++ Seal row Prebooked ∷ [])
  pub minor : AllMinor front × AllMinor middle
  pub starts : starts_in es ≤ 1

-- each of the places was seen taken on the leg
pub record IsTurnedAway (places leg : ℕ) (es : List Step) : Type 0 where
  pub minor : AllMinor es
  pub starts : starts_in es ≤ 1
  pub taken : (place : ℕ) → place < places
      → (word : ℕ) × Among (look_at place (on_leg leg) word) es × (¬ IsClear word (on_leg leg))

-- one of the places was looked at as often as may be, was free on the leg each time, and had changed each time
pub record IsBusy (places leg : ℕ) (es : List Step) : Type 0 where
  pub minor : AllMinor es
  pub starts : starts_in es ≤ 1
  pub front : List Step
  pub back : List Step
  pub place : ℕ
  pub within : place < places
  pub shown : List ℕ
  pub are : es ≡ front ++ (looks_at place (on_leg leg) shown ++ back)
  pub all : length shown ≡ most_looks
  pub moving : AreMoving shown
  pub clear : AllClear (on_leg leg) shown

-- at some moment of the history all rows are in use
pub record IsWithoutRow (g : Layout) (history : List Entry) (es : List Step) : Type 0 where
  pub minor : AllMinor es
  pub starts : starts_in es ≤ 1
  pub seen : List Entry
  pub front : IsPrefix seen history
  pub full : IsLeastFree (state_of g seen) g.rows

-- what a request for the leg adds
abbrev pub IsPart : Layout → List Entry → ℕ → ℕ → Outcome → List Step → Type 0
IsPart g history places leg Sold es = IsSale places leg es
IsPart g history places leg TurnedAway es = IsTurnedAway places leg es
IsPart g history places leg Busy es = IsBusy places leg es
IsPart g history places leg WithoutRow es = IsWithoutRow g history es

-- what the requests from the k-th on add, in order
abbrev pub AreParts : Layout → List Entry → ℕ → ℕ → ℕ → List Outcome → List Step → Type 0
AreParts g history places seed k [] steps = steps ≡ []
AreParts g history places seed k (outcome ∷ more) steps =
    (mine : List Step) × (rest : List Step) × (steps ≡ mine ++ rest)
    × IsPart g history places (drill_leg seed k) outcome mine
    × AreParts g history places seed (k + 1) more rest

-- a worker's entries in the history are those of its requests
pub record HasWork (g : Layout) (history : List Entry) (places seed size worker : ℕ)
    (outcomes : List Outcome) : Type 0 where
  pub steps : List Step
  pub own : own history (worker + 1) ≡ map (entry (worker + 1)) steps
  pub number : length outcomes ≡ size
  pub parts : AreParts g history places seed (worker * size) outcomes steps

-- so of each worker from this one on
abbrev pub AllWork : Layout → List Entry → ℕ → ℕ → ℕ → ℕ → List (List Outcome) → Type 0
AllWork g history places seed size worker [] = Unit {0}
AllWork g history places seed size worker (outcomes ∷ more) =
    HasWork g history places seed size worker outcomes × AllWork g history places seed size (worker + 1) more

abbrev pub is_turned_away : Outcome → Bool
is_turned_away TurnedAway = true
is_turned_away _ = false

abbrev pub is_busy : Outcome → Bool
is_busy Busy = true
is_busy _ = false

-- how many outcomes pass
abbrev pub outcomes_in : (Outcome → Bool) → List Outcome → ℕ
outcomes_in test [] = 0
outcomes_in test (o ∷ os) = one_if (test o) + outcomes_in test os

abbrev pub all_outcomes_in : (Outcome → Bool) → List (List Outcome) → ℕ
all_outcomes_in test [] = 0
all_outcomes_in test (os ∷ more) = outcomes_in test os + all_outcomes_in test more

-- What a drill comes to, whatever the threads did. Over the eight legs the lesser of the requests for the leg and the
-- places is sold. Each other request is turned away for lack of a place, and none is answered busy.
pub record IsWholeCount (sold seed requests places : ℕ) (outcomes : List (List Outcome)) : Type 0 where
  pub sold_is : sold ≡ most_sold seed requests places
  pub all : sold + all_outcomes_in is_turned_away outcomes ≡ requests
  pub none_busy : all_outcomes_in is_busy outcomes ≡ 0

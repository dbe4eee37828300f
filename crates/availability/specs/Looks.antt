-- Looks at places in order, and what they showed of a span.
use Rattle.std.specs.Prelude.{◌≡◌, ℕ, zero, suc, ◌+◌, ◌↔◌, ◌&&◌, Bool, true, IsTrue, List, [], ◌∷◌, ◌++◌, Option, Some, None, count_by}
use Rattle.leg_masks.specs.Interval.{Interval, IsClear, pieces}
use Rattle.rail_ids.specs.declared.PlaceNo.{PlaceNo}
use Rattle.history_model.specs.declared.entry.Step.{Step}
use Rattle.history_model.specs.Looks.{look_at}
use Rattle.claim_rule.specs.Rule.{DeskView}
use Rattle.claim_rule.specs.Calls.{AddsStepsBy}
use Rattle.claim_rule.specs.Desks.{AddsSteps}

-- one look at each of the pieces at a place, in order, and whether all the words that they showed are free on their
-- piece
abbrev pub LooksPieces : ℕ → List Interval → Bool → List Step → Type 0
LooksPieces place [] free es = (free ≡ true) × (es ≡ [])
LooksPieces place (piece ∷ rest) free es =
    (word : ℕ) × (here : Bool) × (others : Bool) × (more : List Step) × (IsTrue here ↔ IsClear word piece)
    × LooksPieces place rest others more × (free ≡ (here && others)) × (es ≡ look_at place piece word ∷ more)

-- the looks at each place in order, and of each whether it is free on all pieces of the span
abbrev pub LooksAt : List PlaceNo → Interval → List Bool → List Step → Type 0
LooksAt [] span [] es = es ≡ []
LooksAt (place ∷ places) span (free ∷ states) es =
    (looks : List Step) × (rest : List Step) × LooksPieces place.0 (pieces span) free looks
    × LooksAt places span states rest × (es ≡ looks ++ rest)
LooksAt [] span (free ∷ states) es = ⊥
LooksAt (place ∷ places) span [] es = ⊥

-- the same looks, of which that many showed their place free
abbrev pub CountsFree : List PlaceNo → Interval → ℕ → List Step → Type 0
CountsFree places span free es =
    (states : List Bool) × LooksAt places span states es × (free ≡ count_by (λ state. state) states)

-- the looks at one place that a desk made
abbrev pub HasLooked : PlaceNo → Interval → Bool → DeskView → DeskView → Type 0
HasLooked place span free old new = AddsStepsBy (LooksPieces place.0 (pieces span) free) old new

-- the look at one piece of a place that a desk made
abbrev pub HasLookedAt : PlaceNo → Interval → Bool → DeskView → DeskView → Type 0
HasLookedAt place piece free old new =
    (word : ℕ) × (IsTrue free ↔ IsClear word piece) × AddsSteps old new (look_at place.0 piece word ∷ [])

-- one piece, or two
abbrev pub listed : Interval → Option Interval → List Interval
listed first None = first ∷ []
listed first (Some second) = first ∷ second ∷ []

-- that many places, from this one up
abbrev pub row_from : ℕ → ℕ → List PlaceNo
row_from first zero = []
row_from first (suc n) = record { 0 = first } ∷ row_from (first + 1) n

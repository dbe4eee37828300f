-- Why a party doesn't sit together.
use Rattle.std.specs.Prelude.{◌≡◌, ◌⊎◌, ℕ, List, [], ◌∷◌, ◌++◌}
use Rattle.leg_masks.specs.Interval.{Interval, IsClear, pieces}
use Rattle.history_model.specs.declared.entry.Step.{Step}
use Rattle.history_model.specs.Looks.{look_at}
use Rattle.claim_rule.specs.Calls.{Calls}
use Rattle.hold_core.specs.declared.tries.Outcome.TheVariants as outcome
use Rattle.hold_core.specs.Tries.{IsPart, looks_at}
use Rattle.party_places.specs.declared.party.PartyAdded.{PartyAdded}
use Rattle.party_places.specs.declared.party.PartyAdded.TheVariants.{Together}
use Rattle.party_places.specs.Stretches.{IsStretch}
use Rattle.party_places.specs.Parties.{Party}

abbrev pub IsIn : {X : Type 0} → X → List X → Type 0
IsIn x [] = ⊥
IsIn x (y ∷ rest) = (x ≡ y) ⊎ IsIn x rest

-- these steps stand in a row among those
abbrev pub StandIn : List Step → List Step → Type 0
StandIn mine es = (front : List Step) × (back : List Step) × (es ≡ front ++ (mine ++ back))

-- a look showed a taken leg of the span at the place
abbrev pub ShowsTaken : Interval → ℕ → List Step → Type 0
ShowsTaken span place es =
    (piece : Interval) × (word : ℕ) × IsIn piece (pieces span) × (¬ IsClear word piece)
    × StandIn (look_at place piece word ∷ []) es

-- a piece of the span at the place was contended
abbrev pub WasContended : Interval → ℕ → List Step → Type 0
WasContended span place es =
    (piece : Interval) × (shown : List ℕ) × IsIn piece (pieces span)
    × IsPart (record { piece = piece; shown = shown; outcome = outcome.Contended })
    × StandIn (looks_at place piece shown) es

-- one or the other came about at a place of the stretch
abbrev pub IsSpoilt : Interval → List Step → List ℕ → Type 0
IsSpoilt span es stretch = (place : ℕ) × IsIn place stretch × (ShowsTaken span place es ⊎ WasContended span place es)

-- each stretch of the candidates is spoilt, where the party doesn't sit together
abbrev pub SpoilsAll : Party → PartyAdded → Calls
SpoilsAll g (Together first) es = Unit {0}
SpoilsAll g answer es =
    (stretch : List ℕ) → IsStretch g.places g.count g.candidates stretch → IsSpoilt g.span es stretch

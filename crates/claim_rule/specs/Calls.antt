-- The lists of steps that a call of a desk may have.
use Rattle.std.specs.Prelude.{◌≡◌, List, ◌++◌}
use Rattle.history_model.specs.declared.entry.Step.{Step}
use Rattle.claim_rule.specs.Rule.{DeskView}
use Rattle.claim_rule.specs.Desks.{AddsSteps}

-- which lists of steps a call may have
abbrev pub Calls : Type 1
Calls = List Step → Type 0

-- steps of the one, and then of the other
abbrev pub Then : Calls → Calls → Calls
Then First Second =
    λ es. (first : List Step) × (second : List Step) × First first × Second second × (es ≡ first ++ second)

-- the desk's own steps of the call are of these
abbrev pub AddsStepsBy : Calls → DeskView → DeskView → Type 0
AddsStepsBy Steps old new = (steps : List Step) × Steps steps × AddsSteps old new steps

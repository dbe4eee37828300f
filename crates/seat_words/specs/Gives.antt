-- The gives of an ending.
use Rattle.std.specs.Prelude.{◌-◌, List, length}
use Rattle.history_model.specs.declared.entry.Step.{Step}
use Rattle.claim_rule.specs.Endings.{EndingView}
use Rattle.claim_rule.specs.EndSteps.{gives_from}

-- the gives of the items that aren't given back yet, in order
abbrev pub gives_left : EndingView → List Step
gives_left e = gives_from e.row.row e.given (length e.items - e.given)

-- What a request that there was no memory for may have done.
use Rattle.std.specs.Prelude.{◌≡◌, Bool, true, false, List}
use Rattle.history_model.specs.declared.entry.Step.{Step}
use Rattle.history_model.specs.declared.entry.Step.TheVariants.{Seal, Turn, Close}
use Rattle.history_model.specs.Work.{NoStep}
use Rattle.claim_rule.specs.Rule.{DeskView}
use Rattle.claim_rule.specs.Desks.{AddsSteps}
use Rattle.osdm_parts.specs.declared.problem.Problem.TheVariants.{NoMemory}
use Rattle.osdm_texts.specs.Answers.{Reply, problem}

-- a step that changes what a sealed booking is: it is sealed, turned or closed
abbrev pub decides : Step → Bool
decides (Seal row phase) = true
decides (Turn row from to moment amount successor) = true
decides (Close row) = true
decides _ = false

-- where the reply is that there was no memory, none of its steps changes a booking's fate
abbrev pub SparesBookings : Reply → List Step → Type 0
SparesBookings reply steps = reply ≡ problem NoMemory → NoStep decides steps

-- all that the desk did for the reply
abbrev pub MakesFor : DeskView → DeskView → Reply → Type 0
MakesFor old new reply = (steps : List Step) × AddsSteps old new steps × SparesBookings reply steps

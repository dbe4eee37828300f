-- The problem of each fault.
use Rattle.osdm_parts.specs.declared.problem.Problem.{Problem}
use Rattle.osdm_parts.specs.declared.problem.Problem.TheVariants as problem
use Rattle.osdm_json.specs.declared.fault.BodyFault.{BodyFault}
use Rattle.osdm_json.specs.declared.fault.BodyFault.TheVariants.{NotJson, Field, UnknownStation, NoMemory}

abbrev pub problem_of : BodyFault → Problem
problem_of NotJson = problem.NotJson
problem_of (Field name) = problem.BadField name
problem_of (UnknownStation name) = problem.UnknownStation name
problem_of NoMemory = problem.NoMemory

-- How what stands in a request's place is refused.
use Rattle.http_wire.specs.declared.request.WireFault.{WireFault}
use Rattle.http_wire.specs.declared.request.WireFault.TheVariants as fault
use Rattle.osdm_parts.specs.declared.problem.Problem.{Problem}
use Rattle.osdm_parts.specs.declared.problem.Problem.TheVariants.{BadHead, HeadTooLarge, BodyTooLarge, Coding}
use Rattle.osdm_parts.specs.declared.problem.Problem.TheVariants.{BadLength}

abbrev pub problem_of_wire : WireFault → Problem
problem_of_wire fault.BadHead = BadHead
problem_of_wire fault.HeadTooLarge = HeadTooLarge
problem_of_wire fault.BodyTooLarge = BodyTooLarge
problem_of_wire fault.Coding = Coding
problem_of_wire fault.BadLength = BadLength

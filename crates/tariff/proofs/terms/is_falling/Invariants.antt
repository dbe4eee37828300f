use Rattle.std.proofs.Common.{◌≡◌, drop}
use Rattle.tariff.specs.Refunds.{are_falling, falls_to_zero}
use Rattle.tariff.proofs.terms.is_falling.Given as goal

abbrev pub invariant-loop-step : goal.invariant-loop-step
invariant-loop-step l = falls_to_zero l.before (drop l.step-index l.rest) ≡ are_falling l.fn.steps

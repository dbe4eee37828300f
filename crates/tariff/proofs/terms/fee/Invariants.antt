use Rattle.std.proofs.Common.{◌≡◌, drop}
use Rattle.tariff.specs.Refunds.{fee_at}
use Rattle.tariff.proofs.terms.fee.Given as goal

abbrev pub invariant-loop-step : goal.invariant-loop-step
invariant-loop-step l = fee_at (drop l.step-index l.steps) l.seconds_before ≡ fee_at l.steps l.seconds_before

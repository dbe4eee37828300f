use Rattle.std.proofs.Common.{ℕ, ◌<◌}
use Rattle.trip_builder.specs.Ends.{IsThere}
use Rattle.trip_builder.proofs.ends.end_of.Given as goal

abbrev pub invariant-loop-n : goal.invariant-loop-n
invariant-loop-n l = (k : ℕ) → k < l.n → ¬ IsThere l.runs l.wish l.fn.run.0 k

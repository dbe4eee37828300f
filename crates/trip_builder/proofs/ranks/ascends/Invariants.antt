use Rattle.std.proofs.Common.{ℕ, ◌<◌, ◌≤◌, get_or}
use Rattle.trip_builder.specs.declared.ranks.Arrival.{Arrival}
use Rattle.trip_builder.proofs.ranks.ascends.Given as goal

abbrev pub invariant-loop-n : goal.invariant-loop-n
invariant-loop-n l = (j k : ℕ) (none : Arrival) → j ≤ k → k < l.n → (get_or l.order j none).arrive ≤ (get_or l.order k none).arrive

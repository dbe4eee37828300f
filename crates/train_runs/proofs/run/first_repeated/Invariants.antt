use Rattle.std.proofs.Common.{◌≡◌, ◌-◌, length}
use Rattle.train_runs.specs.Stops.{least_from, is_repeated, first_repeated}
use Rattle.train_runs.proofs.run.first_repeated.Given as goal

abbrev pub invariant-loop-n : goal.invariant-loop-n
invariant-loop-n l = least_from (is_repeated l.stops) l.n (length l.stops - l.n) ≡ first_repeated l.stops

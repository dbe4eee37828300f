use Rattle.std.proofs.Common.{◌≡◌, drop}
use Rattle.train_runs.specs.Stops.{stop_from, stop_of}
use Rattle.train_runs.proofs.run.stop_of.Given as goal

abbrev pub invariant-loop-n : goal.invariant-loop-n
invariant-loop-n l = stop_from l.n l.station (drop l.n l.stops) ≡ stop_of l.station l.stops

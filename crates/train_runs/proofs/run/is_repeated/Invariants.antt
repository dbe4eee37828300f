use Rattle.std.proofs.Common.{◌≡◌, drop}
use Rattle.std.specs.List.{list_any}
use Rattle.train_runs.specs.Stops.{stands_at, is_repeated}
use Rattle.train_runs.proofs.run.is_repeated.Given as goal

abbrev pub invariant-loop-stop : goal.invariant-loop-stop
invariant-loop-stop l = list_any (stands_at l.station) (drop l.stop-index l.stop-items) ≡ is_repeated l.stops l.n

use Rattle.std.proofs.Common.{◌≡◌, ◌<◌, ℕ, true}
use Rattle.train_runs.specs.Stops.{stop_at}
use Rattle.train_runs.specs.Runs.{stops_of}
use Rattle.trip_builder.specs.Reached.{HoldTrain, HoldWait, AreStretched}
use Rattle.trip_builder.proofs.reached.Reached.ride.Given as goal

abbrev pub invariant-loop-stop : goal.invariant-loop-stop
invariant-loop-stop l = record {
  stretched : AreStretched l.fn.self l.self;
  aboard : (j : ℕ) → j < l.stop-index → HoldTrain l.before (stop_at (stops_of l.runs l.fn.run.0) j) → l.aboard ≡ true;
  ridden : (j k : ℕ) → j < k → k < l.stop-index → HoldTrain l.before (stop_at (stops_of l.runs l.fn.run.0) j) → HoldWait l.self (stop_at (stops_of l.runs l.fn.run.0) k);
}

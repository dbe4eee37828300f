use Rattle.std.proofs.Common.{ℕ, ◌<◌}
use Rattle.trip_builder.specs.Reached.{AreStretched, IsRidden}
use Rattle.trip_builder.proofs.reached.Reached.ride_all.Given as goal

abbrev pub invariant-loop-run : goal.invariant-loop-run
invariant-loop-run l = record {
  stretched : AreStretched l.fn.self l.self;
  ridden : (run : ℕ) → run < l.run → IsRidden l.runs l.before l.self run;
}

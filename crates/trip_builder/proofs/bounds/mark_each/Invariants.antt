use Rattle.std.proofs.Common.{ℕ, ◌<◌}
use Rattle.train_runs.specs.declared.wish.TripWish.{TripWish}
use Rattle.trip_builder.specs.Bounds.{AreRanks, IsMarkedRun, StayLastRides}
use Rattle.trip_builder.proofs.bounds.mark_each.Given as goal

abbrev pub invariant-loop-run : goal.invariant-loop-run
invariant-loop-run l = record {
  rides : StayLastRides l.runs l.ranks l.fn.rides l.rides;
  marked : (w : TripWish) → AreRanks l.runs w l.ranks → (run : ℕ) → run < l.run → IsMarkedRun l.runs w l.ranks 0 run l.rides.marks.items;
}

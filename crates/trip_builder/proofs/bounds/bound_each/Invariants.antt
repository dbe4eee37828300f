use Rattle.std.proofs.Common.{ℕ, ◌<◌, ◌+◌}
use Rattle.train_runs.specs.declared.wish.TripWish.{TripWish}
use Rattle.trip_builder.specs.Bounds.{IsReach, IsMarkedRun, StayRides}
use Rattle.trip_builder.proofs.bounds.bound_each.Given as goal

abbrev pub invariant-loop-run : goal.invariant-loop-run
invariant-loop-run l = record {
  rides : StayRides l.runs l.ranks l.reach l.fn.rides l.rides;
  marked : (w : TripWish) (changes : ℕ) → IsReach l.runs w l.ranks changes l.reach → (run : ℕ) → run < l.run → IsMarkedRun l.runs w l.ranks (changes + 1) run l.rides.marks.items;
}

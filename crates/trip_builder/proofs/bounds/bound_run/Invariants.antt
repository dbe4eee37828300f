use Rattle.std.proofs.Common.{ℕ, ◌≤◌, ◌<◌, ◌+◌}
use Rattle.train_runs.specs.declared.wish.TripWish.{TripWish}
use Rattle.trip_builder.specs.Bounds.{IsReach, KeepMarks, Precede, StayRides, no_rank}
use Rattle.trip_builder.proofs.Reaching.{FirstsFrom, MarkedFrom}
use Rattle.trip_builder.proofs.bounds.bound_run.Given as goal

abbrev pub invariant-loop-back : goal.invariant-loop-back
invariant-loop-back l = record {
  rides : StayRides l.runs l.ranks l.reach l.fn.rides l.rides;
  kept : KeepMarks l.fn.rides.marks.items l.rides.marks.items;
  late : (rank : ℕ) → l.ranks.late ≤ rank → rank < no_rank → Precede l.firsts rank;
  further : (w : TripWish) (changes : ℕ) → IsReach l.runs w l.ranks changes l.reach → FirstsFrom l.runs w l.ranks (changes + 1) l.run.0 l.count l.firsts l.back;
  marked : (w : TripWish) (changes : ℕ) → IsReach l.runs w l.ranks changes l.reach → MarkedFrom l.runs w l.ranks (changes + 1) l.run.0 l.count l.rides.marks.items l.back;
}

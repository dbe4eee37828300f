use Rattle.std.proofs.Common.{ℕ, ◌≤◌, ◌<◌, ◌+◌}
use Rattle.train_runs.specs.declared.wish.TripWish.{TripWish}
use Rattle.trip_builder.specs.Bounds.{IsReach, Precede, no_rank}
use Rattle.trip_builder.proofs.Reaching.{FirstsBelow}
use Rattle.trip_builder.proofs.bounds.firsts_after.Given as goal

abbrev pub invariant-loop-stop : goal.invariant-loop-stop
invariant-loop-stop l = record {
  late : (rank : ℕ) → l.ranks.late ≤ rank → rank < no_rank → Precede l.firsts rank;
  so_far : (w : TripWish) (changes : ℕ) → IsReach l.runs w l.ranks changes l.reach → FirstsBelow l.runs w l.ranks (changes + 1) l.departure.run.0 l.departure.stop l.stop l.firsts;
}

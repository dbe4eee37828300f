use Rattle.std.proofs.Common.{◌≡◌, length}
use Rattle.train_runs.specs.declared.wish.TripWish.{TripWish}
use Rattle.trip_builder.specs.Bounds.{AreRanks, AreRides, AreBoards}
use Rattle.trip_builder.proofs.bounds.boards_of.Given as goal

abbrev pub invariant-loop-station : goal.invariant-loop-station
invariant-loop-station l = record {
  count : length l.draft.boards ≡ l.station;
  each : (w : TripWish) → AreRanks l.runs w l.ranks → AreRides l.runs w l.ranks l.changes l.rides → AreBoards l.runs w l.ranks l.changes l.draft.boards;
}

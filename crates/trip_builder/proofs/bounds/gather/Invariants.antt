use Rattle.std.proofs.Common.{◌≡◌, ℕ, ◌<◌, length, get_or}
use Rattle.train_runs.specs.declared.departure.Departure.{Departure}
use Rattle.train_runs.specs.Runs.{RunsView}
use Rattle.train_runs.specs.declared.wish.TripWish.{TripWish}
use Rattle.trip_builder.specs.declared.ranks.FirstTwo.{FirstTwo}
use Rattle.trip_builder.specs.Bounds.{AreRanks, AreRides, FirstsOfRide}
use Rattle.trip_builder.proofs.bounds.gather.Given as goal

abbrev pub invariant-loop-departure : goal.invariant-loop-departure
invariant-loop-departure l = record {
  count : length l.twos.items ≡ l.departure-index;
  each : (r : RunsView) (w : TripWish) → AreRanks r w l.ranks → AreRides r w l.ranks l.changes l.rides → (k : ℕ) (d : Departure) (two : FirstTwo) → k < l.departure-index
      → FirstsOfRide r w l.ranks l.changes (get_or l.departures k d).run.0 (get_or l.departures k d).stop (get_or l.twos.items k two);
}

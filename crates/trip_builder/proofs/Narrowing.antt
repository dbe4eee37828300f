-- What stays right where more of the ranks come too late.
use Rattle.std.proofs.Common.{◌≡◌, ◌∙◌, ℕ, ◌<◌, ◌≤◌, List, length, sym, ap, subst, arith, get_or}
use Rattle.train_runs.specs.Runs.{RunsView}
use Rattle.train_runs.specs.declared.wish.TripWish.{TripWish}
use Rattle.trip_builder.specs.declared.board.Useful.{Useful}
use Rattle.trip_builder.specs.declared.rides.Rides.{Rides}
use Rattle.trip_builder.specs.Bounds.{RanksView, IsPlaced, AreRanks, IsNarrowed, AreRides, AreBoards, ReachView, IsReach, BoundsView, AreBounds, AreNarrowed}

abbrev with_late : RanksView → ℕ → RanksView
with_late v late = record { order = v.order; ranks = v.ranks; late = late }

same_but_late : (old new : RanksView) → IsNarrowed old new → new ≡ with_late old new.late
same_but_late old new is =
    ap (λ o. let v : RanksView = record { order = o; ranks = new.ranks; late = new.late } in v) is.order_is
    ∙ ap (λ k. let v : RanksView = record { order = old.order; ranks = k; late = new.late } in v) is.ranks_are

placed_so : (r : RunsView) (v : RanksView) (late run stop : ℕ) → IsPlaced r v run stop → IsPlaced r (with_late v late) run stop
placed_so r v late run stop it = record { within = it.within; few = it.few; run_is = it.run_is; stop_is = it.stop_is; time = it.time }

ranks_so : (r : RunsView) (w : TripWish) (v : RanksView) (late : ℕ) → AreRanks r w v → AreRanks r w (with_late v late)
ranks_so r w v late are = record { placed = λ run stop inside there. placed_so r v late run stop (are.placed run stop inside there); ascends = are.ascends }

rides_so : (r : RunsView) (w : TripWish) (v : RanksView) (late changes : ℕ) (rides : Rides) → late ≤ v.late → AreRides r w v changes rides → AreRides r w (with_late v late) changes rides
rides_so r w v late changes rides low are = record {
  firsts = are.firsts;
  whole = λ is run s rest is_run count leads less. are.whole is run s rest is_run count leads (omega (arith, less, low));
}

boards_so : (r : RunsView) (w : TripWish) (v : RanksView) (late changes : ℕ) (boards : List (List Useful)) → late ≤ v.late → AreBoards r w v changes boards → AreBoards r w (with_late v late) changes boards
boards_so r w v late changes boards low are n none inside s rest count leads here less = are n none inside s rest count leads here (omega (arith, less, low))

reach_so : (r : RunsView) (w : TripWish) (v : RanksView) (late changes : ℕ) (reach : ReachView) → late ≤ v.late → IsReach r w v changes reach → IsReach r w (with_late v late) changes reach
reach_so r w v late changes reach low are = record {
  ranks = ranks_so r w v late are.ranks;
  rides = rides_so r w v late changes reach.rides low are.rides;
  boards = boards_so r w v late changes reach.boards low are.boards;
}

pub narrowed_ranks : (r : RunsView) (w : TripWish) (old new : RanksView) → IsNarrowed old new → AreRanks r w old → AreRanks r w new
narrowed_ranks r w old new is are = subst (AreRanks r w) (sym (same_but_late old new is)) (ranks_so r w old new.late are)

pub narrowed_rides : (r : RunsView) (w : TripWish) (old new : RanksView) (changes : ℕ) (rides : Rides) → IsNarrowed old new → AreRides r w old changes rides → AreRides r w new changes rides
narrowed_rides r w old new changes rides is are = subst (λ (v : RanksView). AreRides r w v changes rides) (sym (same_but_late old new is)) (rides_so r w old new.late changes rides is.late_is are)

pub narrowed_bounds : (r : RunsView) (w : TripWish) (old new : BoundsView) → AreNarrowed old new → AreBounds r w old → AreBounds r w new
narrowed_bounds r w old new is are n none high =
    let late = new.ranks.late in
    let fits : n < length old.levels = subst (λ (l : List ReachView). n < length l) is.levels_are high in
    subst (λ (v : RanksView). IsReach r w v n (get_or new.levels n none)) (sym (same_but_late old.ranks new.ranks is.narrowed))
    (subst (λ (l : List ReachView). IsReach r w (with_late old.ranks late) n (get_or l n none)) (sym is.levels_are)
    (reach_so r w old.ranks late n (get_or old.levels n none) is.narrowed.late_is (are n none fits)))

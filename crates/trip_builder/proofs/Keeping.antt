-- How late the sixteenth of the best arrives.
use Rattle.std.proofs.Common.{ℕ, ◌<◌, ◌≤◌, inl, inr, List, [], arith}
use Rattle.train_runs.specs.declared.segment.Segment.{Segment}
use Rattle.train_runs.specs.Runs.{RunsView}
use Rattle.trip_builder.specs.Best.{AreInOrder}
use Rattle.trip_builder.specs.Search.{AllArriveBy, AllArriveBefore}
use Rattle.trip_builder.specs.Bounds.{never}
use Rattle.trip_builder.specs.Keeping.{IsLimit}
use Rattle.trip_builder.proofs.Deciding.{all_arrive_by}

pub all_by_limit : (r : RunsView) (best : List (List Segment)) (limit m : ℕ) → AreInOrder r best → IsLimit r best limit → limit < never → limit ≤ m → AllArriveBy r best m
all_by_limit r best limit m ordered (inl none) small by = absurd (omega (arith, none, small))
all_by_limit r best limit m ordered (inr (full, at)) small by = (full, all_arrive_by r best 15 m [] ordered (omega (arith, full)) (omega (arith, at, by)))

pub all_before_late : (r : RunsView) (best : List (List Segment)) (limit m : ℕ) → AreInOrder r best → IsLimit r best limit → m ≤ never → limit < m → AllArriveBefore r best m
all_before_late r best limit m ordered is high late = (limit, late, all_by_limit r best limit limit ordered is (omega (arith, late, high)) (omega arith))

-- What bounds a search from the destination back: for each departure the earliest arrival at the destination, with that
-- many changes.
use Rattle.std.specs.Prelude.{◌≡◌, ◌<◌, ◌≤◌, ◌+◌, ◌-◌, ◌*◌, ◌++◌, ◌==◌, ◌&&◌, ◌⊎◌, ℕ, length, nat_lt, Bool, true, false, List, [], ◌∷◌, slice_index_or, if◌then◌else◌}
use Rattle.std.specs.List.{AllByRecursion}
use Rattle.rail_ids.specs.declared.StationNo.{StationNo}
use Rattle.train_runs.specs.declared.segment.Segment.{Segment}
use Rattle.train_runs.specs.Stops.{stop_at}
use Rattle.train_runs.specs.Runs.{RunsView, stops_of}
use Rattle.train_runs.specs.declared.wish.TripWish.{TripWish}
use Rattle.trip_builder.specs.declared.board.Useful.{Useful}
use Rattle.trip_builder.specs.declared.ranks.FirstTwo.{FirstTwo}
use Rattle.trip_builder.specs.declared.ranks.Arrival.{Arrival}
use Rattle.trip_builder.specs.declared.rides.Rides.{Rides}
use Rattle.train_runs.specs.declared.departure.Departure.{Departure}
use Rattle.train_runs.specs.declared.run.Stop.{Stop}
use Rattle.trip_builder.specs.Segments.{IsKnown, first_stop, last_stop}
use Rattle.trip_builder.specs.Trips.{connects, leaves}
use Rattle.trip_builder.specs.Best.{IsTrip}
use Rattle.trip_builder.specs.Search.{has_run}
use Rattle.trip_builder.specs.Ends.{IsThere}

-- later than each arrival
abbrev pub never : ℕ
never = 18_446_744_073_709_551_615

-- ---- what goes on to the destination

-- each of the further segments connects with the one before, and the last ends at the destination; runs may come twice
abbrev pub goes_to : RunsView → TripWish → Segment → List Segment → Bool
goes_to r w s [] = (last_stop r s).station.0 == w.destination.0
goes_to r w s (t ∷ rest) = connects r (last_stop r s) t && goes_to r w t rest

-- likewise as the last segments of a trip of the wish, whose first ones are those before
pub record LeadsTo (r : RunsView) (w : TripWish) (s : Segment) (rest : List Segment) : Type 0 where
  pub known : AllByRecursion (IsKnown r) (s ∷ rest)
  pub goes : goes_to r w s rest ≡ true
  pub before : List Segment
  pub trip : IsTrip r w (before ++ s ∷ rest)

abbrev pub end_of : Segment → List Segment → Segment
end_of s [] = s
end_of s (t ∷ rest) = end_of t rest

-- when the last of the segments arrives
abbrev pub arrival_of : RunsView → Segment → List Segment → ℕ
arrival_of r s rest = (last_stop r (end_of s rest)).arrive

-- ---- bounds

-- the bound is no later than the arrival
abbrev pub IsBound : ℕ → ℕ → Type 0
IsBound bound arrival = (bound ≤ arrival) × (bound < never)

-- ---- ranks

-- after each rank
abbrev pub no_rank : ℕ
no_rank = 65_535

-- the runs that come to the destination, for each run its place among them, and from which rank on they come too late
pub record RanksView : Type 0 where
  pub order : List Arrival
  pub ranks : List ℕ
  pub late : ℕ

abbrev pub rank_in : RanksView → ℕ → ℕ
rank_in v run = slice_index_or v.ranks run no_rank

-- the rank of the last of the segments
abbrev pub rank_of : RanksView → Segment → List Segment → ℕ
rank_of v s rest = rank_in v (end_of s rest).run.0

-- the run stands at its rank, with the stop, and with an arrival that isn't after its own
pub record IsPlaced (r : RunsView) (v : RanksView) (run stop : ℕ) : Type 0 where
  pub within : rank_in v run < length v.order
  pub few : rank_in v run < no_rank
  pub run_is : (none : Arrival) → (slice_index_or v.order (rank_in v run) none).run.0 ≡ run
  pub stop_is : (none : Arrival) → (slice_index_or v.order (rank_in v run) none).stop ≡ stop
  pub time : (none : Arrival)
      → IsBound (slice_index_or v.order (rank_in v run) none).arrive (stop_at (stops_of r run) stop).arrive

abbrev pub IsPlacedRun : RunsView → TripWish → RanksView → ℕ → Type 0
IsPlacedRun r w v run = (stop : ℕ) → stop < length (stops_of r run) → IsThere r w run stop → IsPlaced r v run stop

-- the later ones stand further on
abbrev pub Ascends : List Arrival → Type 0
Ascends order =
    (j k : ℕ) (none : Arrival) → j ≤ k → k < length order
    → (slice_index_or order j none).arrive ≤ (slice_index_or order k none).arrive

-- all that come to the destination have their places
pub record AreRanks (r : RunsView) (w : TripWish) (v : RanksView) : Type 0 where
  pub placed : (run : ℕ) → IsPlacedRun r w v run
  pub ascends : Ascends v.order

-- no rank is before the first of them, and none but the first's own is before the second
abbrev pub Precede : FirstTwo → ℕ → Type 0
Precede two rank = (rank < no_rank) × ((two.first ≤ rank) × ((rank ≡ two.first) ⊎ (two.second ≤ rank)))

-- what leads there with a run that the way doesn't have, and that they precede, arrives no earlier
abbrev pub BoundsFresh : RunsView → TripWish → RanksView → FirstTwo → List Segment → ℕ → Type 0
BoundsFresh r w v two way bound =
    (s : Segment) (rest : List Segment) → LeadsTo r w s rest → Precede two (rank_of v s rest)
    → has_run way (end_of s rest).run.0 ≡ false → IsBound bound (arrival_of r s rest)

-- the same ranks, of which as many come too late, or more
pub record IsNarrowed (old new : RanksView) : Type 0 where
  pub order_is : new.order ≡ old.order
  pub ranks_are : new.ranks ≡ old.ranks
  pub late_is : new.late ≤ old.late

-- ---- the board of a station

-- later departures stand further on, those of a block together
abbrev pub Rises : List Useful → Type 0
Rises board = (j k : ℕ) (none : Useful) → j ≤ k → k < length board
    → ((slice_index_or board j none).moment ≤ (slice_index_or board k none).moment)
    × ((slice_index_or board j none).block ≤ (slice_index_or board k none).block)

-- the next departure of a board, which those of `least` precede
pub record Follows (board : List Useful) (least : FirstTwo) (u : Useful) : Type 0 where
  pub block : (none : Useful) → 0 < length board → (slice_index_or board (length board - 1) none).block ≤ u.block
  pub onward : (rank : ℕ) → Precede least rank → Precede u.onward rank
  pub so_far : (rank : ℕ) → Precede least rank → Precede u.so_far rank
  pub same : (none : Useful) (rank : ℕ) → 0 < length board → (slice_index_or board (length board - 1) none).block
      ≡ u.block
      → Precede (slice_index_or board (length board - 1) none).so_far rank → Precede u.so_far rank

-- the board with one departure more
pub record HasPosted (old : List Useful) (moment : ℕ) (least : FirstTwo) (new : List Useful) : Type 0 where
  pub it : Useful
  pub is : new ≡ old ++ it ∷ []
  pub rises : Rises old
  pub moment_is : it.moment ≡ moment
  pub follows : Follows old least it

-- one of that rank leaves at this moment: it has its place, and those of its block that leave no earlier say no later
-- one
pub record IsNoted (board : List Useful) (depart rank : ℕ) : Type 0 where
  pub place : ℕ
  pub within : place < length board
  pub moment : (none : Useful) → (slice_index_or board place none).moment ≡ depart
  pub here : (none : Useful) → Precede (slice_index_or board place none).onward rank
  pub later : (k : ℕ) (none : Useful) → place ≤ k → k < length board → (slice_index_or board k none).block
      ≡ (slice_index_or board place none).block
      → Precede (slice_index_or board k none).so_far rank

-- likewise those of its block that leave no later
pub record IsPosted (board : List Useful) (depart rank : ℕ) : Type 0 where
  pub place : ℕ
  pub within : place < length board
  pub moment : (none : Useful) → (slice_index_or board place none).moment ≡ depart
  pub earlier : (k : ℕ) (none : Useful) → k ≤ place → (slice_index_or board k none).block
      ≡ (slice_index_or board place none).block
      → Precede (slice_index_or board k none).onward rank
  pub later : (k : ℕ) (none : Useful) → place ≤ k → k < length board → (slice_index_or board k none).block
      ≡ (slice_index_or board place none).block
      → Precede (slice_index_or board k none).so_far rank

-- the two precede what leaves from the one moment to the other
abbrev pub BoundsWindow : List Useful → ℕ → ℕ → FirstTwo → Type 0
BoundsWindow board from to two =
    (depart rank : ℕ) → IsPosted board depart rank → from ≤ depart → depart ≤ to → Precede two rank

-- ---- the board of a station, by what leads to the destination

-- what leaves the station and goes on with that many changes is posted, unless it comes too late
abbrev pub IsBoardOf : RunsView → TripWish → RanksView → ℕ → ℕ → List Useful → Type 0
IsBoardOf r w v changes station board =
    (s : Segment) (rest : List Segment) → length rest ≡ changes → LeadsTo r w s rest → (first_stop r s).station.0
    ≡ station
    → rank_of v s rest < v.late → IsPosted board (first_stop r s).depart (rank_of v s rest)

abbrev pub AreBoards : RunsView → TripWish → RanksView → ℕ → List (List Useful) → Type 0
AreBoards r w v changes boards =
    (n : ℕ) (none : List Useful) → n < length boards → IsBoardOf r w v changes n (slice_index_or boards n none)

-- what leaves the station comes too late
abbrev pub LeavesLate : RunsView → TripWish → RanksView → ℕ → ℕ → Type 0
LeavesLate r w v changes station =
    (s : Segment) (rest : List Segment) → length rest ≡ changes → LeadsTo r w s rest → (first_stop r s).station.0
    ≡ station → v.late ≤ rank_of v s rest

-- ---- the bounds of rides

abbrev pub unknown : FirstTwo
unknown = record { first = 0; second = 0 }

-- for each run and each number of a stop which two come first by what leaves there: a run's stops stand together
abbrev pub firsts_in : Rides → ℕ → ℕ → FirstTwo
firsts_in rides run stop =
    if nat_lt stop rides.width then slice_index_or rides.firsts.items (run * rides.width + stop) unknown else unknown

-- the two precede what takes the run at the stop, and goes on with that many changes to the destination
abbrev pub FirstsOfRide : RunsView → TripWish → RanksView → ℕ → ℕ → ℕ → FirstTwo → Type 0
FirstsOfRide r w v changes run stop two =
    (s : Segment) (rest : List Segment) → s.run.0 ≡ run → s.span.from ≡ stop → length rest ≡ changes
    → LeadsTo r w s rest
    → Precede two (rank_of v s rest)

-- for each of the first so many departures the two that precede what takes it
pub record AreFirsts (r : RunsView) (w : TripWish) (v : RanksView) (changes : ℕ) (ds : List Departure) (many : ℕ)
    (twos : List FirstTwo) : Type 0 where
  pub count : length twos ≡ many
  pub each : (k : ℕ) (d : Departure) (two : FirstTwo) → k < many
      → FirstsOfRide r w v changes (slice_index_or ds k d).run.0 (slice_index_or ds k d).stop
      (slice_index_or twos k two)

-- where what takes the run comes in time, the station that it leaves is marked
abbrev pub IsMarkedRun : RunsView → TripWish → RanksView → ℕ → ℕ → List Bool → Type 0
IsMarkedRun r w v changes run marks =
    (s : Segment) (rest : List Segment) → s.run.0 ≡ run → length rest ≡ changes → LeadsTo r w s rest
    → rank_of v s rest < v.late
    → slice_index_or marks (first_stop r s).station.0 true ≡ true

-- likewise of each run
abbrev pub AreMarked : RunsView → TripWish → RanksView → ℕ → List Bool → Type 0
AreMarked r w v changes marks = (run : ℕ) → IsMarkedRun r w v changes run marks

-- marks that were made stay
abbrev pub KeepMarks : List Bool → List Bool → Type 0
KeepMarks old new = (n : ℕ) → slice_index_or old n true ≡ true → slice_index_or new n true ≡ true

pub record AreRides (r : RunsView) (w : TripWish) (v : RanksView) (changes : ℕ) (rides : Rides) : Type 0 where
  pub firsts : (run stop : ℕ) → FirstsOfRide r w v changes run stop (firsts_in rides run stop)
  pub whole : rides.all ≡ true → AreMarked r w v changes rides.marks.items

-- rides of which nothing is known
pub record AreUnknown (rides : Rides) : Type 0 where
  pub firsts : (run stop : ℕ) → firsts_in rides run stop ≡ unknown
  pub all : rides.all ≡ false

-- ---- the bounds of all

-- the bounds with one number of changes: of each ride, and of each station's departures
pub record ReachView : Type 0 where
  pub rides : Rides
  pub boards : List (List Useful)

pub record IsReach (r : RunsView) (w : TripWish) (v : RanksView) (changes : ℕ) (reach : ReachView) : Type 0 where
  pub ranks : AreRanks r w v
  pub rides : AreRides r w v changes reach.rides
  pub boards : AreBoards r w v changes reach.boards

-- those without a change, with one, and so on
pub record BoundsView : Type 0 where
  pub ranks : RanksView
  pub levels : List ReachView

abbrev pub AreBounds : RunsView → TripWish → BoundsView → Type 0
AreBounds r w b =
    (n : ℕ) (none : ReachView) → n < length b.levels → IsReach r w b.ranks n (slice_index_or b.levels n none)

-- the same bounds, of which more may come too late
pub record AreNarrowed (old new : BoundsView) : Type 0 where
  pub narrowed : IsNarrowed old.ranks new.ranks
  pub levels_are : new.levels ≡ old.levels

-- for any wish: where the bounds of what goes on are its own, the rides with one change more stay right
abbrev pub StayRides : RunsView → RanksView → ReachView → Rides → Rides → Type 0
StayRides r v reach old new =
    (w : TripWish) (changes : ℕ) → IsReach r w v changes reach → AreRides r w v (changes + 1) old
    → AreRides r w v (changes + 1) new

-- likewise those without a change
abbrev pub StayLastRides : RunsView → RanksView → Rides → Rides → Type 0
StayLastRides r v old new = (w : TripWish) → AreRanks r w v → AreRides r w v 0 old → AreRides r w v 0 new

-- the station has a board, and the two precede what leaves it from that moment on
abbrev pub PrecedeFrom : List (List Useful) → ℕ → ℕ → FirstTwo → Type 0
PrecedeFrom boards station from two = (station < length boards)
    × ((depart rank : ℕ) (none : List Useful) → IsPosted (slice_index_or boards station none) depart rank
    → from ≤ depart → Precede two rank)

-- what takes the run at the stop after the way, and goes on with so many changes and a last run that the way doesn't
-- have, arrives no earlier
abbrev pub BoundsRide : RunsView → TripWish → ℕ → List Segment → ℕ → ℕ → ℕ → Type 0
BoundsRide r w changes way run stop bound =
    (s : Segment) (rest : List Segment) → s.run.0 ≡ run → s.span.from ≡ stop → length rest ≡ changes
    → LeadsTo r w s rest
    → has_run way (end_of s rest).run.0 ≡ false → IsBound bound (arrival_of r s rest)

-- likewise what leaves the station within the window
abbrev pub BoundsLeaving : RunsView → TripWish → ℕ → List Segment → StationNo → ℕ → ℕ → ℕ → Type 0
BoundsLeaving r w changes way station from to bound =
    (s : Segment) (rest : List Segment) → length rest ≡ changes → LeadsTo r w s rest
    → leaves station from to (first_stop r s) ≡ true → has_run way (end_of s rest).run.0 ≡ false
    → IsBound bound (arrival_of r s rest)

-- the two precede what gets off a train at this stop, and goes on with that many changes to the destination
abbrev pub FirstsOfStop : RunsView → TripWish → RanksView → ℕ → Stop → FirstTwo → Type 0
FirstsOfStop r w v changes off two =
    (s : Segment) (rest : List Segment) → last_stop r s ≡ off → length rest ≡ changes → LeadsTo r w s rest
    → Precede two (rank_of v s rest)

-- How the trips are searched: from departure to departure, with the best sixteen so far.
use Rattle.std.specs.Prelude.{◌≡◌, ◌<◌, ◌≤◌, ◌+◌, ◌==◌, ◌&&◌, ℕ, length, Bool, true, false, not, List, [], ◌∷◌, ◌++◌, take, slice_index_or, if◌then◌else◌}
use Rattle.std.specs.List.{AllByRecursion, list_any}
use Rattle.rail_ids.specs.declared.StationNo.{StationNo}
use Rattle.train_runs.specs.declared.segment.Segment.{Segment}
use Rattle.train_runs.specs.declared.run.Stop.{Stop}
use Rattle.train_runs.specs.declared.departure.Departure.{Departure}
use Rattle.train_runs.specs.Stops.{stop_at}
use Rattle.train_runs.specs.Runs.{RunsView, stops_of}
use Rattle.train_runs.specs.declared.wish.TripWish.{TripWish}
use Rattle.trip_builder.specs.Segments.{IsKnown, first_stop, last_stop, last_of, segment}
use Rattle.trip_builder.specs.Order.{sorted_in, last_arrival}
use Rattle.trip_builder.specs.Trips.{leaves, change_at, uses_run, sets_out, arrives, most_trips, longest_wait}
use Rattle.trip_builder.specs.Best.{IsTrip, IsDecided, AreBest}

-- a beginning of a trip, or nothing yet
abbrev pub is_way : RunsView → TripWish → List Segment → Bool
is_way r w [] = true
is_way r w (s ∷ rest) = sets_out r w (s ∷ rest)

pub record IsWay (r : RunsView) (w : TripWish) (way : List Segment) : Type 0 where
  pub known : AllByRecursion (IsKnown r) way
  pub so_far : is_way r w way ≡ true

-- a train may be taken at the stop after the way: as the first within the wish's window, later within that of the
-- change
abbrev pub leaves_after : RunsView → TripWish → List Segment → Stop → Bool
leaves_after r w [] stop = leaves w.origin w.earliest w.latest stop
leaves_after r w (s ∷ rest) stop =
    let off = last_stop r (last_of (s ∷ rest)) in
    leaves off.station (off.arrive + change_at r off.station) (off.arrive + longest_wait) stop

-- the first and the last moment of a train that is reached from the last of the segments
abbrev pub first_after : RunsView → List Segment → ℕ
first_after r segments = let off = last_stop r (last_of segments) in off.arrive + change_at r off.station

abbrev pub last_after : RunsView → List Segment → ℕ
last_after r segments = (last_stop r (last_of segments)).arrive + longest_wait

-- what goes on from the way leaves the station from the one moment to the other
abbrev pub IsWindowOf : RunsView → TripWish → List Segment → StationNo → ℕ → ℕ → Type 0
IsWindowOf r w way station from to = (stop : Stop) → leaves station from to stop ≡ leaves_after r w way stop

-- one of the segments has the run
abbrev pub has_run : List Segment → ℕ → Bool
has_run way run = list_any (λ s. s.run.0 == run) way

-- the segment goes on from the way
abbrev pub goes_on : RunsView → TripWish → List Segment → Segment → Bool
goes_on r w way s = leaves_after r w way (first_stop r s) && not (uses_run way s)

-- the run may be taken from this stop: it goes on from the way
pub record MayTake (r : RunsView) (w : TripWish) (way : List Segment) (d : Departure) : Type 0 where
  pub further : d.stop + 1 < length (stops_of r d.run.0)
  pub leaves : leaves_after r w way (stop_at (stops_of r d.run.0) d.stop) ≡ true
  pub fresh : has_run way d.run.0 ≡ false

-- the run leaves that station within the window, from this stop at this moment, and goes on to another one
pub record Leaves (r : RunsView) (station : StationNo) (from to : ℕ) (d : Departure) : Type 0 where
  pub further : d.stop + 1 < length (stops_of r d.run.0)
  pub window : leaves station from to (stop_at (stops_of r d.run.0) d.stop) ≡ true
  pub moment : (stop_at (stops_of r d.run.0) d.stop).depart ≡ d.moment

-- the run's stop is one of the departures
pub record IsListed (ds : List Departure) (run stop : ℕ) : Type 0 where
  pub place : ℕ
  pub within : place < length ds
  pub run_is : (none : Departure) → (slice_index_or ds place none).run.0 ≡ run
  pub stop_is : (none : Departure) → (slice_index_or ds place none).stop ≡ stop

-- all departures of the station, at whatever moment, the earlier ones first
pub record AreAllLeaving (r : RunsView) (station : StationNo) (ds : List Departure) : Type 0 where
  pub moments : (k : ℕ) (none : Departure) → k < length ds
      → (stop_at (stops_of r (slice_index_or ds k none).run.0) (slice_index_or ds k none).stop).depart
      ≡ (slice_index_or ds k none).moment
  pub every : (run stop : ℕ) → stop + 1 < length (stops_of r run) → (stop_at (stops_of r run) stop).station.0
      ≡ station.0 → IsListed ds run stop
  pub rise : (j k : ℕ) (none : Departure) → j ≤ k → k < length ds
      → (slice_index_or ds j none).moment ≤ (slice_index_or ds k none).moment

-- all departures of the station within the window, the earlier ones first
pub record AreLeaving (r : RunsView) (station : StationNo) (from to : ℕ) (ds : List Departure) : Type 0 where
  pub each : (k : ℕ) (none : Departure) → k < length ds → Leaves r station from to (slice_index_or ds k none)
  pub every : (run stop : ℕ) → stop + 1 < length (stops_of r run)
      → leaves station from to (stop_at (stops_of r run) stop) ≡ true → IsListed ds run stop
  pub rise : (j k : ℕ) (none : Departure) → j ≤ k → k < length ds
      → (slice_index_or ds j none).moment ≤ (slice_index_or ds k none).moment

-- each segment departs no earlier than its train came there, and arrives after it departed
abbrev pub Rise : RunsView → Type 0
Rise r =
    (s : Segment) → IsKnown r s → ((first_stop r s).arrive ≤ (first_stop r s).depart)
    × ((first_stop r s).depart < (last_stop r s).arrive)

-- the best sixteen with one more
abbrev pub keep : RunsView → TripWish → List (List Segment) → List Segment → List (List Segment)
keep r w best trip = if arrives r w trip then take most_trips (sorted_in r best trip) else best

-- the trips are sixteen, and all of them arrive by this moment: what arrives later doesn't come among them
abbrev pub AllArriveBy : RunsView → List (List Segment) → ℕ → Type 0
AllArriveBy r best moment = (length best ≡ most_trips) × AllByRecursion (λ t. last_arrival r t ≤ moment) best

-- likewise what arrives at this moment: they all arrive earlier
abbrev pub AllArriveBefore : RunsView → List (List Segment) → ℕ → Type 0
AllArriveBefore r best moment = (earlier : ℕ) × (earlier < moment) × AllArriveBy r best earlier

-- the best trips after some more were tried
pub record Grows (r : RunsView) (w : TripWish) (old new : List (List Segment)) : Type 0 where
  pub best : AreBest r w new
  pub stays : (t : List Segment) → IsDecided r old t → IsDecided r new t

-- all trips that go on from the way with this segment and that many more are decided
abbrev pub AreDecidedWith : RunsView → TripWish → List (List Segment) → List Segment → ℕ → Segment → Type 0
AreDecidedWith r w best way more s =
    (rest : List Segment) → length rest ≡ more → IsTrip r w (way ++ s ∷ rest) → IsDecided r best (way ++ s ∷ rest)

-- likewise with any segment of the run from this stop
abbrev pub AreDecidedFrom : RunsView → TripWish → List (List Segment) → List Segment → ℕ → Departure → Type 0
AreDecidedFrom r w best way more d = (to : ℕ) → AreDecidedWith r w best way more (segment d.run.0 d.stop to)

-- likewise with any segment
abbrev pub AreDecided : RunsView → TripWish → List (List Segment) → List Segment → ℕ → Type 0
AreDecided r w best way more = (s : Segment) → AreDecidedWith r w best way more s

-- The shortest rides straight to the destination.
use Rattle.std.specs.Prelude.{◌≡◌, ◌<◌, ◌≤◌, ◌+◌, ℕ, length, List, slice_index_or}
use Rattle.rail_ids.specs.declared.StationNo.{StationNo}
use Rattle.train_runs.specs.declared.segment.Segment.{Segment}
use Rattle.train_runs.specs.declared.departure.Departure.{Departure}
use Rattle.train_runs.specs.Stops.{stop_at}
use Rattle.train_runs.specs.Runs.{RunsView, stops_of}
use Rattle.train_runs.specs.declared.wish.TripWish.{TripWish}
use Rattle.trip_builder.specs.Segments.{first_stop}
use Rattle.trip_builder.specs.Search.{Rise}
use Rattle.trip_builder.specs.Ends.{IsThere}
use Rattle.trip_builder.specs.Bounds.{LeadsTo, arrival_of}

-- how many seconds the shortest ride from the station takes; one where it isn't known
abbrev pub ride_from : List ℕ → ℕ → ℕ
ride_from rides station = slice_index_or rides station 1

-- none got longer
abbrev pub AreLowered : List ℕ → List ℕ → Type 0
AreLowered old new = (station : ℕ) → ride_from new station ≤ ride_from old station

-- a train that leaves the station then and arrives then takes no less
abbrev pub IsRide : List ℕ → ℕ → ℕ → ℕ → Type 0
IsRide rides station depart arrive = depart + ride_from rides station ≤ arrive

-- no ride on the run to this stop takes less
abbrev pub AreRidesTo : RunsView → ℕ → ℕ → List ℕ → Type 0
AreRidesTo r run to rides = to < length (stops_of r run) → (from : ℕ) → from < to
    → IsRide rides (stop_at (stops_of r run) from).station.0 (stop_at (stops_of r run) from).depart
    (stop_at (stops_of r run) to).arrive

-- no ride to one of these departures' stops takes less
abbrev pub AreFromDepartures : RunsView → List Departure → List ℕ → Type 0
AreFromDepartures r ds rides =
    (k : ℕ) (none : Departure) → k < length ds
    → AreRidesTo r (slice_index_or ds k none).run.0 (slice_index_or ds k none).stop rides

-- no ride to the destination takes less
abbrev pub AreShortest : RunsView → TripWish → List ℕ → Type 0
AreShortest r w rides = Rise r → (run to : ℕ) → IsThere r w run to → AreRidesTo r run to rides

-- what leaves the station and comes to the destination with that many changes takes at least the given seconds
abbrev pub TakesAtLeast : RunsView → TripWish → ℕ → StationNo → ℕ → Type 0
TakesAtLeast r w changes station seconds =
    (s : Segment) (rest : List Segment) → length rest ≡ changes → LeadsTo r w s rest → (first_stop r s).station.0
    ≡ station.0
    → (first_stop r s).depart + seconds ≤ arrival_of r s rest

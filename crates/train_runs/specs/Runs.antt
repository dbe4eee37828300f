-- All stations and runs, and what adding a run answers.
use Rattle.std.specs.Prelude.{◌≡◌, true, ℕ, ◌≤◌, nat_le, nat_lt, List, length, All, if◌then◌else◌, Option, Some, option_map, option_and_then, slice_get, [], ◌∷◌, ◌++◌, Ok, Err}
use Rattle.std.specs.List.{list_all}
use Rattle.std.specs.Option.{option_or, option_map_or}
use Rattle.leg_masks.specs.Interval.{Interval}
use Rattle.rail_ids.specs.declared.StationNo.{StationNo}
use Rattle.rail_ids.specs.declared.RunNo.{RunNo}
use Rattle.train_runs.specs.declared.run.Stop.{Stop}
use Rattle.train_runs.specs.declared.run.RunFault.{RunFault}
use Rattle.train_runs.specs.declared.run.RunFault.TheVariants.{TooFewStops, TooManyStops, TimesNotRising, TooManyRuns, StationRepeated}
use Rattle.train_runs.specs.Stations.{StationView, is_code, with_station}
use Rattle.train_runs.specs.Stops.{RunView, IsRun, most_stops, first_unrisen, first_repeated, stop_of, legs_between}
use Rattle.train_runs.specs.declared.station.StationFault.{StationFault}
use Rattle.train_runs.specs.declared.station.StationFault.TheVariants.{NoMemory}

-- the stations and the runs, each in the order of their numbers
pub record RunsView : Type 0 where
  pub stations : List StationView
  pub runs : List RunView

abbrev pub most_runs : ℕ
most_runs = 4_096

-- the stops of the run with this number, and none where there is no such run
abbrev pub stops_of : RunsView → ℕ → List Stop
stops_of r run = option_map_or (λ (it : RunView). it.stops) (slice_get r.runs run) []

-- the first fault of a further run, in the order of the listing
abbrev pub run_fault : List RunView → RunView → Option RunFault
run_fault runs run =
    if nat_lt (length run.stops) 2 then Some TooFewStops
    else (if nat_lt most_stops (length run.stops) then Some TooManyStops
    else (option_or (option_map TimesNotRising (first_unrisen run.stops))
    (if nat_le most_runs (length runs) then Some TooManyRuns
    else option_map StationRepeated (first_repeated run.stops))))

-- the legs of the run between two stations; none where it doesn't stop at the one and later at the other
abbrev pub span_of : RunsView → RunNo → StationNo → StationNo → Option Interval
span_of r run from to =
    option_and_then (λ it. legs_between (stop_of from it.stops) (stop_of to it.stops)) (slice_get r.runs run.0)

-- with one station more
abbrev pub and_station : RunsView → List ℕ → ℕ → RunsView
and_station r code change = record r { stations = r.stations ++ (record { code = code; change = change }) ∷ [] }

-- the station has the next number
abbrev pub IsStationAdded : RunsView → List ℕ → ℕ → RunsView → StationNo → Type 0
IsStationAdded before code change after n =
    (n.0 ≡ length before.stations) × (with_station before.stations code change ≡ Ok after.stations)

-- it is the fault of the station, unless memory ran out
abbrev pub RefusesStation : RunsView → List ℕ → ℕ → StationFault → Type 0
RefusesStation r code change e = ¬ (e ≡ NoMemory) → with_station r.stations code change ≡ Err e

-- the code of the station with the number
abbrev pub code_of : RunsView → StationNo → Option (List ℕ)
code_of r station = option_map (λ s. s.code) (slice_get r.stations station.0)

-- what holds of all stations and runs that were taken
pub record AreSound (r : RunsView) : Type 0 where
  pub stations : length r.stations ≤ 65_536
  pub runs : length r.runs ≤ most_runs
  pub codes : list_all (λ s. is_code s.code) r.stations ≡ true
  pub each : All (IsRun (length r.stations)) r.runs

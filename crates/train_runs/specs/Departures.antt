-- The departures of a station: which they are, their order, and how many there are.
use Rattle.std.specs.Prelude.{◌≡◌, ℕ, ◌+◌, ◌-◌, ◌<◌, ◌≤◌, ◌⊎◌, List, length, take, slice_get, Some, count_by, sum_by, ◌↔◌}
use Rattle.std.specs.List.{AllPairs, Contains}
use Rattle.rail_ids.specs.declared.StationNo.{StationNo}
use Rattle.train_runs.specs.declared.departure.Departure.{Departure}
use Rattle.train_runs.specs.Stops.{RunView, stop_at, stands_at}

-- the run leaves the station at this moment from this stop, which isn't its last
pub record IsDeparture (runs : List RunView) (station : StationNo) (d : Departure) : Type 0 where
  pub run : RunView
  pub found : slice_get runs d.run.0 ≡ Some run
  pub goes_on : d.stop + 1 < length run.stops
  pub here : (stop_at run.stops d.stop).station ≡ station
  pub leaves : (stop_at run.stops d.stop).depart ≡ d.moment

-- from the one moment to the other, both included
abbrev pub IsWithin : ℕ → ℕ → Departure → Type 0
IsWithin from to d = (from ≤ d.moment) × (d.moment ≤ to)

-- in the order of moment, run and stop
abbrev pub IsBefore : Departure → Departure → Type 0
IsBefore a b =
    (a.moment < b.moment) ⊎ ((a.moment ≡ b.moment) × ((a.run.0 < b.run.0) ⊎ ((a.run.0 ≡ b.run.0) × (a.stop < b.stop))))

-- exactly the departures of this kind, each once, in order
pub record AreExactly (Is : Departure → Type 0) (ds : List Departure) : Type 0 where
  pub in_order : AllPairs IsBefore ds
  pub members : (d : Departure) → Contains ds d ↔ Is d

-- the departures of the station from the one moment to the other
abbrev pub AreDepartures : List RunView → StationNo → ℕ → ℕ → List Departure → Type 0
AreDepartures runs station from to ds = AreExactly (λ d. IsDeparture runs station d × IsWithin from to d) ds

-- how often the run leaves the station
abbrev pub times_left : StationNo → RunView → ℕ
times_left station run = count_by (stands_at station) (take (length run.stops - 1) run.stops)

-- how many departures the station has
abbrev pub departure_count : StationNo → List RunView → ℕ
departure_count station runs = sum_by (times_left station) runs

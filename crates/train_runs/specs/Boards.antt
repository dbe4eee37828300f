-- The lists of departures that are kept, one for each station.
use Rattle.std.specs.Prelude.{◌≡◌, ℕ, ◌+◌, ◌<◌, ◌≤◌, ◌⊎◌, List, [], ◌∷◌, ◌++◌, length, take, drop, slice_index_or, count_by}
use Rattle.rail_ids.specs.declared.StationNo.{StationNo}
use Rattle.train_runs.specs.declared.departure.Departure.{Departure}
use Rattle.train_runs.specs.Stops.{RunView, stands_at}
use Rattle.train_runs.specs.Runs.{RunsView}
use Rattle.std.specs.List.{AllWithin}
use Rattle.train_runs.specs.Departures.{IsWithin, IsDeparture, AreExactly, departure_count}

-- all departures of the station
pub record IsBoard (runs : List RunView) (station : StationNo) (ds : List Departure) : Type 0 where
  pub exact : AreExactly (IsDeparture runs station) ds
  pub count : length ds ≡ departure_count station runs

-- a board for each station, in the order of their numbers
pub record HasBoards (r : RunsView) (boards : List (List Departure)) : Type 0 where
  pub count : length boards ≡ length r.stations
  pub each : (n : ℕ) (none : List Departure) → n < length boards
      → IsBoard r.runs (record { 0 = n }) (slice_index_or boards n none)

-- the departure is of an earlier run, or of this run at a stop before the n-th
abbrev pub IsPosted : ℕ → ℕ → Departure → Type 0
IsPosted run n d = (d.run.0 < run) ⊎ ((d.run.0 ≡ run) × (d.stop < n))

-- the departures of the station that are posted, of the last run those of its first n stops
pub record IsPartBoard (runs : List RunView) (last : RunView) (n : ℕ) (station : StationNo)
    (ds : List Departure) : Type 0 where
  pub exact : AreExactly (λ d. IsDeparture (runs ++ last ∷ []) station d × IsPosted (length runs) n d) ds
  pub count : length ds ≡ departure_count station runs + count_by (stands_at station) (take n last.stops)

-- likewise at each station
abbrev pub ArePosted : List RunView → RunView → ℕ → List (List Departure) → Type 0
ArePosted runs last n boards =
    (k : ℕ) (none : List Departure) → k < length boards
    → IsPartBoard runs last n (record { 0 = k }) (slice_index_or boards k none)

-- those of the board that leave from the one moment to the other, as they stand there
pub record IsWindow (from to : ℕ) (board ds : List Departure) : Type 0 where
  pub first : ℕ
  pub within : first + length ds ≤ length board
  pub part : ds ≡ take (length ds) (drop first board)
  pub inside : AllWithin (IsWithin from to) board first (first + length ds)
  pub earlier : AllWithin (λ d. d.moment < from) board 0 first
  pub later : AllWithin (λ d. to < d.moment) board (first + length ds) (length board)

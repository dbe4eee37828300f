-- The stops of a run, and what may be wrong with them.
use Rattle.std.specs.Prelude.{◌≡◌, ℕ, zero, suc, ◌+◌, ◌-◌, ◌==◌, ◌<◌, ◌≤◌, ◌&&◌, ◌||◌, nat_le, nat_lt, Bool, List, [], ◌∷◌, length, take, slice_index_or, if◌then◌else◌, Option, Some, None, All}
use Rattle.std.specs.List.{list_any}
use Rattle.rail_ids.specs.declared.StationNo.{StationNo}
use Rattle.train_runs.specs.declared.run.Stop.{Stop}
use Rattle.leg_masks.specs.Interval.{Interval}

-- a run: the number of its train, and its stops in order
pub record RunView : Type 0 where
  pub train : ℕ
  pub stops : List Stop

abbrev pub no_stop : Stop
no_stop = record { station = record { 0 = 0 }; arrive = 0; depart = 0 }

abbrev pub stop_at : List Stop → ℕ → Stop
stop_at stops n = slice_index_or stops n no_stop

-- how many legs lie between that many stops
abbrev pub legs_of : RunView → ℕ
legs_of run = length run.stops - 1

-- the stop is left before it is reached, or reached no later than the one before is left
abbrev pub is_unrisen : List Stop → ℕ → Bool
is_unrisen stops n = nat_lt (stop_at stops n).depart (stop_at stops n).arrive
    || (nat_lt 0 n && nat_le (stop_at stops n).arrive (stop_at stops (n - 1)).depart)

abbrev pub stands_at : StationNo → Stop → Bool
stands_at station stop = stop.station.0 == station.0

-- the station stood earlier
abbrev pub is_repeated : List Stop → ℕ → Bool
is_repeated stops n = list_any (stands_at (stop_at stops n).station) (take n stops)

-- the least of the n numbers from k on that passes
abbrev pub least_from : (ℕ → Bool) → ℕ → ℕ → Option ℕ
least_from passes k zero = None
least_from passes k (suc n) = if passes k then Some k else least_from passes (k + 1) n

abbrev pub first_unrisen : List Stop → Option ℕ
first_unrisen stops = least_from (is_unrisen stops) 0 (length stops)

abbrev pub first_repeated : List Stop → Option ℕ
first_repeated stops = least_from (is_repeated stops) 0 (length stops)

-- the stop at the station, counted from k
abbrev pub stop_from : ℕ → StationNo → List Stop → Option ℕ
stop_from k station [] = None
stop_from k station (s ∷ rest) = if stands_at station s then Some k else stop_from (k + 1) station rest

abbrev pub stop_of : StationNo → List Stop → Option ℕ
stop_of station stops = stop_from 0 station stops

-- the legs from the one stop to the other, where that one is the earlier
abbrev pub legs_between : Option ℕ → Option ℕ → Option Interval
legs_between (Some from) (Some to) = if nat_lt from to then Some (record { from = from; to = to }) else None
legs_between _ _ = None

-- how many stops a run may have: one more than the legs of the longest
abbrev pub most_stops : ℕ
most_stops = 127

-- a run that may be served: two to 127 stops, at known stations, each once, at times that rise
pub record IsRun (stations : ℕ) (run : RunView) : Type 0 where
  pub few : 2 ≤ length run.stops
  pub many : length run.stops ≤ most_stops
  pub risen : first_unrisen run.stops ≡ None
  pub apart : first_repeated run.stops ≡ None
  pub known : All (λ s. s.station.0 < stations) run.stops

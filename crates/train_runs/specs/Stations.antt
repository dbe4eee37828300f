-- Stations, and what adding one answers.
use Rattle.std.specs.Prelude.{ℕ, ◌+◌, ◌*◌, ◌&&◌, ◌||◌, nat_le, Bool, List, [], ◌∷◌, ◌++◌, length, if◌then◌else◌, Option, Some, None, Result, Ok, Err, is_some}
use Rattle.std.specs.List.{list_all}
use Rattle.std.specs.Str.{bytes_eq}
use Rattle.rail_ids.specs.declared.StationNo.{StationNo}
use Rattle.train_runs.specs.declared.station.StationFault.{StationFault}
use Rattle.train_runs.specs.declared.station.StationFault.TheVariants.{BadCode, DoubleCode, TooManyStations}

-- a station: its code, and the least time in seconds between an arrival and a departure there
pub record StationView : Type 0 where
  pub code : List ℕ
  pub change : ℕ

-- `A` to `Z`, or `0` to `9`
abbrev pub is_code_byte : ℕ → Bool
is_code_byte b = (nat_le 65 b && nat_le b 90) || (nat_le 48 b && nat_le b 57)

-- how many letters a code has at most
abbrev pub most_code_letters : ℕ
most_code_letters = 8

-- one to eight of them
abbrev pub is_code : List ℕ → Bool
is_code code = nat_le 1 (length code) && (nat_le (length code) most_code_letters && list_all is_code_byte code)

-- the number of a code: its letters as digits to the base 256, the first the least
abbrev pub code_number : List ℕ → ℕ
code_number [] = 0
code_number (b ∷ rest) = b + 256 * code_number rest

-- the number of the first station with the code, where the first station has the number n
abbrev pub number_from : ℕ → List ℕ → List StationView → Option StationNo
number_from n code [] = None
number_from n code (s ∷ rest) = if bytes_eq s.code code then Some (record { 0 = n }) else number_from (n + 1) code rest

abbrev pub station_with : List ℕ → List StationView → Option StationNo
station_with code stations = number_from 0 code stations

abbrev pub most_stations : ℕ
most_stations = 65_536

-- the stations with a further one, or the first fault of it
abbrev pub with_station : List StationView → List ℕ → ℕ → Result (List StationView) StationFault
with_station stations code change =
    if is_code code then
    (if is_some (station_with code stations) then Err DoubleCode
    else (if nat_le most_stations (length stations) then Err TooManyStations
    else Ok (stations ++ (record { code = code; change = change }) ∷ [])))
    else Err BadCode

-- The stations of a catalogue.
use Rattle.std.specs.Prelude.{ℕ, List, [], ◌∷◌, length, codes, if◌then◌else◌, Option, Result, Ok, Err, is_some}
use Rattle.serde_json.specs.Data.{Data}
use Rattle.serde_json.specs.Find.{get, as_object}
use Rattle.train_runs.specs.declared.station.StationFault.{StationFault}
use Rattle.train_runs.specs.declared.station.StationFault.TheVariants.{BadCode, DoubleCode, TooManyStations, NoMemory}
use Rattle.train_runs.specs.Stations.{StationView, is_code, station_with, with_station}
use Rattle.rail_catalogue.specs.Json.{whole_or, text_by, list_in}
use Rattle.rail_catalogue.specs.Faults.{Fault, field, double_key, need, after, item_path}

-- what a refusal of the station with the index n is here
abbrev pub station_taken : ℕ → Result (List StationView) StationFault → Result (List StationView) Fault
station_taken n (Ok stations) = Ok stations
station_taken n (Err BadCode) = Err (field (item_path (codes "stations") n (codes ".code")))
station_taken n (Err DoubleCode) = Err double_key
station_taken n (Err TooManyStations) = Err (field (codes "stations"))
station_taken n (Err NoMemory) = Err (field (codes "stations"))

-- the stations with the next item of the list
abbrev pub with_item : List StationView → Data → Result (List StationView) Fault
with_item found d = let at : List ℕ → List ℕ = item_path (codes "stations") (length found) in
    need (at []) (as_object d) (λ _.
    need (at (codes ".code")) (text_by is_code (get (codes "code") d)) (λ code.
    if is_some (station_with code found) then Err double_key else
    need (at (codes ".change")) (whole_or 300 0 14_400 (get (codes "change") d)) (λ change.
    station_taken (length found) (with_station found code change))))

abbrev pub stations_from : List StationView → List Data → Result (List StationView) Fault
stations_from found [] = Ok found
stations_from found (d ∷ ds) = after (with_item found d) (λ more. stations_from more ds)

-- the stations of the member
abbrev pub stations_of : Option Data → Result (List StationView) Fault
stations_of member = need (codes "stations") (list_in 2 65_536 member) (stations_from [])

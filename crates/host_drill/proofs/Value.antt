-- The value that the catalogue's text spells, with its members in the order of their names.
use Rattle.std.specs.Prelude.{ℕ, List, [], ◌∷◌, ◌++◌, codes}
use Rattle.serde_json.specs.Data.{Num, unsigned, Data, number, string, array, object, Members, no_members, member}
use Rattle.serde_json.specs.View.{items_of}
use Rattle.host_drill.specs.Fits.{station_code}

abbrev members_of : List (List ℕ × Data) → Members
members_of [] = no_members
members_of (m ∷ ms) = member m.0 m.1 (members_of ms)

abbrev object_of : List (List ℕ × Data) → Data
object_of ms = object (members_of ms)

abbrev array_of : List Data → Data
array_of ds = array (items_of ds)

abbrev whole : ℕ → Data
whole n = number (unsigned n)

-- the places from 1 to the last
abbrev pub group_data : Num → Data
group_data last = object_of ((codes "first", whole 1) ∷ (codes "last", number last) ∷ [])

abbrev pub coach_data : Num → Data
coach_data last = object_of ((codes "class", string (codes "SECOND")) ∷ (codes "coach", whole 1) ∷ (codes "places", array_of (group_data last ∷ [])) ∷ [])

abbrev fare_data : Data
fare_data = object_of ((codes "base", whole 100) ∷ (codes "perLeg", whole 10) ∷ [])

abbrev fares_data : Data
fares_data = object_of ((codes "first", fare_data) ∷ (codes "second", fare_data) ∷ [])

abbrev station : ℕ → List ℕ × Data
station n = (codes "station", string (station_code n))

abbrev clock : List ℕ → Data
clock at = string (codes "2026-06-01T" ++ (at ++ codes ":00Z"))

abbrev arrive : List ℕ → List ℕ × Data
arrive at = (codes "arrive", clock at)

abbrev depart : List ℕ → List ℕ × Data
depart at = (codes "depart", clock at)

abbrev stop_data : ℕ → List ℕ → Data
stop_data n at = object_of (arrive at ∷ depart at ∷ station n ∷ [])

abbrev stops_data : Data
stops_data =
    array_of
    (object_of (depart (codes "08:00") ∷ station 0 ∷ [])
    ∷ stop_data 1 (codes "08:10") ∷ stop_data 2 (codes "08:20") ∷ stop_data 3 (codes "08:30") ∷ stop_data 4 (codes "08:40") ∷ stop_data 5 (codes "08:50") ∷ stop_data 6 (codes "09:00") ∷ stop_data 7 (codes "09:10")
    ∷ object_of (arrive (codes "09:20") ∷ station 8 ∷ [])
    ∷ [])

-- the run, with this coach
abbrev pub run_data : Data → Data
run_data coach = object_of ((codes "coaches", array_of (coach ∷ [])) ∷ (codes "fares", fares_data) ∷ (codes "stops", stops_data) ∷ (codes "train", whole 1) ∷ [])

abbrev step_data : Data
step_data = object_of ((codes "before", whole 0) ∷ (codes "fee", whole 10_000) ∷ [])

abbrev retailer_data : Data
retailer_data = object_of ((codes "key", string (codes "drill")) ∷ (codes "number", whole 1) ∷ [])

abbrev station_data : ℕ → Data
station_data n = object_of ((codes "code", string (station_code n)) ∷ [])

abbrev stations_data : Data
stations_data =
    array_of
    (station_data 0 ∷ station_data 1 ∷ station_data 2 ∷ station_data 3 ∷ station_data 4 ∷ station_data 5 ∷ station_data 6 ∷ station_data 7 ∷ station_data 8 ∷ [])

-- the catalogue, with this run
abbrev pub catalogue_data : Data → Data
catalogue_data run =
    object_of
    ((codes "currency", string (codes "EUR"))
    ∷ (codes "refundSteps", array_of (step_data ∷ []))
    ∷ (codes "retailers", array_of (retailer_data ∷ []))
    ∷ (codes "rows", whole 32_768)
    ∷ (codes "runs", array_of (run ∷ []))
    ∷ (codes "stations", stations_data)
    ∷ [])

-- the whole, with this number as the last place
abbrev pub drill_data : Num → Data
drill_data last = catalogue_data (run_data (coach_data last))

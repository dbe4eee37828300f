-- The stops and the fares of a run.
use Rattle.std.specs.Prelude.{ℕ, ◌+◌, ◌==◌, ◌&&◌, Bool, not, List, [], ◌∷◌, ◌++◌, length, codes, if◌then◌else◌, Option, Some, None, option_and_then, Result, Ok, Err, map}
use Rattle.serde_json.specs.Data.{Data}
use Rattle.serde_json.specs.Find.{get, as_object, as_str}
use Rattle.rail_ids.specs.declared.StationNo.{StationNo}
use Rattle.rail_time.specs.Moments.{moment_of}
use Rattle.rail_time.specs.declared.moment.MomentFault.{MomentFault}
use Rattle.train_runs.specs.declared.run.Stop.{Stop}
use Rattle.train_runs.specs.declared.run.RunFault.{RunFault}
use Rattle.train_runs.specs.Stations.{StationView, station_with}
use Rattle.train_runs.specs.Stops.{RunView}
use Rattle.train_runs.specs.Runs.{RunsView, run_fault}
use Rattle.catalogue_contents.specs.Contents.{FaresView}
use Rattle.rail_catalogue.specs.Json.{whole_in, list_of, text_of}
use Rattle.rail_catalogue.specs.Faults.{Fault, field, run, unknown_station, need, after, item_path, run_item_path}
use Rattle.json_text.specs.View.{view}
use Rattle.json_text.specs.declared.value.Value.{Value}

-- a member for a moment: it is missing, it is no moment, or it is this one
pub data Time : Type 0 where
  missing : Time
  bad : Time
  given : ℕ → Time

abbrev pub read_time : Result ℕ MomentFault → Time
read_time (Ok m) = given m
read_time (Err e) = bad

abbrev pub time_in : Option (List ℕ) → Time
time_in None = bad
time_in (Some text) = read_time (moment_of text)

abbrev pub time_of : Option Data → Time
time_of None = missing
time_of (Some d) = time_in (as_str d)

pub record Times : Type 0 where
  pub arrive : ℕ
  pub depart : ℕ

-- the times of a stop, of which the first may lack its arrival and the last its departure, or the member at fault
abbrev pub times_of : Bool → Bool → Time → Time → Result Times (List ℕ)
times_of first last bad depart = Err (codes ".arrive")
times_of first last (given arrive) bad = Err (codes ".depart")
times_of first last (given arrive) (given depart) = Ok (record { arrive = arrive; depart = depart })
times_of first last (given arrive) missing =
    if last then Ok (record { arrive = arrive; depart = arrive }) else Err (codes ".depart")
times_of first last missing (given depart) =
    if first then Ok (record { arrive = depart; depart = depart }) else Err (codes ".arrive")
times_of first last missing bad = if first then Err (codes ".depart") else Err (codes ".arrive")
times_of first last missing missing = if first then Err (codes ".depart") else Err (codes ".arrive")

abbrev pub timed : ℕ → ℕ → Result Times (List ℕ) → Result Times Fault
timed i j (Err name) = Err (field (run_item_path i (codes "stops") j name))
timed i j (Ok times) = Ok times

-- the times of the j-th of n stops of the i-th run; an only stop needs both
abbrev pub times_at : ℕ → ℕ → ℕ → Data → Result Times Fault
times_at i j n d =
    timed i j (times_of (j == 0 && not (n == 1)) (j + 1 == n && not (n == 1)) (time_of (get (codes "arrive") d))
    (time_of (get (codes "depart") d)))

abbrev pub known : List ℕ → Option StationNo → (StationNo → Result Stop Fault) → Result Stop Fault
known code None next = Err (unknown_station code)
known code (Some station) next = next station

-- the j-th of n stops of the i-th run
abbrev pub stop_at : List StationView → ℕ → ℕ → ℕ → Data → Result Stop Fault
stop_at stations i j n d = let at : List ℕ → List ℕ = run_item_path i (codes "stops") j in
    need (at []) (as_object d) (λ _.
    need (at (codes ".station")) (text_of (get (codes "station") d)) (λ code.
    known code (station_with code stations) (λ station.
    after (times_at i j n d) (λ times.
    Ok (record { station = station; arrive = times.arrive; depart = times.depart })))))

-- the stops found so far with those of the items left, of n in all
abbrev pub stops_from : List StationView → ℕ → ℕ → List Stop → List Data → Result (List Stop) Fault
stops_from stations i n found [] = Ok found
stops_from stations i n found (d ∷ ds) =
    after (stop_at stations i (length found) n d) (λ s. stops_from stations i n (found ++ s ∷ []) ds)

-- the stops of all items, of the i-th run
abbrev pub stops_in : List StationView → ℕ → List Value → Result (List Stop) Fault
stops_in stations i items = stops_from stations i (length items) [] (map view items)

abbrev pub unless_refused : RunsView → Option RunFault → Result RunsView Fault
unless_refused runs None = Ok runs
unless_refused runs (Some e) = Err (run e)

-- the runs with a further one, or its fault
abbrev pub with_run : RunsView → RunView → Result RunsView Fault
with_run r added = unless_refused (record r { runs = r.runs ++ added ∷ [] }) (run_fault r.runs added)

-- the runs with the train and the stops of the i-th item
abbrev pub timetable_of : RunsView → ℕ → Data → Result RunsView Fault
timetable_of r i d = let at : List ℕ → List ℕ = item_path (codes "runs") i in
    need (at []) (as_object d) (λ _.
    need (at (codes ".train")) (whole_in 1 99_999 (get (codes "train") d)) (λ train.
    need (at (codes ".stops")) (list_of (get (codes "stops") d)) (λ items.
    after (stops_from r.stations i (length items) [] items) (λ stops.
    with_run r (record { train = train; stops = stops })))))

abbrev pub amount_at : List ℕ → List ℕ → Data → Option ℕ
amount_at class name d =
    whole_in 0 10_000_000 (option_and_then (get name) (option_and_then (get class) (get (codes "fares") d)))

-- the fares of the i-th item
abbrev pub fares_of : ℕ → Data → Result FaresView Fault
fares_of i d = let at : List ℕ → List ℕ = item_path (codes "runs") i in
    need (at (codes ".fares.first.base")) (amount_at (codes "first") (codes "base") d) (λ first_base.
    need (at (codes ".fares.first.perLeg")) (amount_at (codes "first") (codes "perLeg") d) (λ first_leg.
    need (at (codes ".fares.second.base")) (amount_at (codes "second") (codes "base") d) (λ second_base.
    need (at (codes ".fares.second.perLeg")) (amount_at (codes "second") (codes "perLeg") d) (λ second_leg.
    Ok (record {
      first = record { base = first_base; per_leg = first_leg };
      second = record { base = second_base; per_leg = second_leg };
    })))))

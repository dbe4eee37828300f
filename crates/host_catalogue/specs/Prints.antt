-- The text whose sum says what the numbers of places mean.
use Rattle.std.specs.Prelude.{ℕ, List, [], ◌∷◌, ◌++◌, codes, flat_map, slice_get}
use Rattle.std.specs.Option.{option_map_or}
use Rattle.line_text.specs.Lines.{field, number_field}
use Rattle.journal_text.specs.Texts.{sum_of}
use Rattle.place_map.specs.declared.coach.Class.{Class}
use Rattle.place_map.specs.declared.coach.Class.TheVariants.{First, Second}
use Rattle.place_map.specs.declared.coach.Place.{Place}
use Rattle.train_runs.specs.declared.run.Stop.{Stop}
use Rattle.train_runs.specs.Runs.{RunsView, code_of}
use Rattle.train_runs.specs.Stops.{RunView}
use Rattle.catalogue_contents.specs.Contents.{CatalogueView}

-- the station of a stop, by its code
abbrev pub stop_text : RunsView → Stop → List ℕ
stop_text runs stop = field (option_map_or (λ (code : List ℕ). code) (code_of runs stop.station) [])

abbrev pub stops_text : RunsView → List Stop → List ℕ
stops_text runs stops = flat_map (stop_text runs) stops

-- a run: the number of its train, and where it stops
abbrev pub run_text : RunsView → RunView → List ℕ
run_text runs run = codes "run" ++ (number_field run.train ++ (stops_text runs run.stops ++ 10 ∷ []))

abbrev pub runs_text : RunsView → List RunView → List ℕ
runs_text runs all = flat_map (run_text runs) all

abbrev pub run_text_at : RunsView → ℕ → List ℕ
run_text_at runs run = option_map_or (run_text runs) (slice_get runs.runs run) []

abbrev pub class_text : Class → List ℕ
class_text First = codes " F"
class_text Second = codes " S"

-- a place: the number of its run, its coach, its number there, and the class
abbrev pub place_text : Place → List ℕ
place_text p =
    number_field p.run.0 ++ (number_field p.coach ++ (number_field p.number ++ (class_text p.class ++ 10 ∷ [])))

abbrev pub places_text : List Place → List ℕ
places_text places = flat_map place_text places

-- all runs and all places, in the order of their numbers
abbrev pub print_text : CatalogueView → List ℕ
print_text cat = (codes "rail-print 1" ++ 10 ∷ []) ++ (runs_text cat.runs cat.runs.runs ++ places_text cat.places)

abbrev pub print_in : CatalogueView → List ℕ
print_in cat = sum_of (print_text cat)

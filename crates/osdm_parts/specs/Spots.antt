-- What a catalogue says of the stops and places that a reply names. Where it has no such run, stop, station or place,
-- an empty one stands in.
use Rattle.std.specs.Prelude.{ℕ, List, [], slice_get, slice_index_or}
use Rattle.std.specs.Option.{option_map_or}
use Rattle.rail_ids.specs.declared.StationNo.{StationNo}
use Rattle.place_map.specs.declared.coach.Class.TheVariants.{First}
use Rattle.place_map.specs.declared.coach.Place.{Place}
use Rattle.place_map.specs.Places.{places_of}
use Rattle.train_runs.specs.declared.run.Stop.{Stop}
use Rattle.train_runs.specs.Stations.{StationView}
use Rattle.train_runs.specs.Stops.{RunView, stop_at}
use Rattle.catalogue_contents.specs.Contents.{CatalogueView}

-- the n-th stop of a run
abbrev pub run_stop : CatalogueView → ℕ → ℕ → Stop
run_stop cat run n = stop_at (option_map_or (λ (it : RunView). it.stops) (slice_get cat.runs.runs run) []) n

abbrev pub station_code : CatalogueView → StationNo → List ℕ
station_code cat station = option_map_or (λ (it : StationView). it.code) (slice_get cat.runs.stations station.0) []

-- the code of the station of the n-th stop
abbrev pub stop_code : CatalogueView → ℕ → ℕ → List ℕ
stop_code cat run n = station_code cat (run_stop cat run n).station

abbrev pub train_of : CatalogueView → ℕ → ℕ
train_of cat run = option_map_or (λ (it : RunView). it.train) (slice_get cat.runs.runs run) 0

abbrev pub no_place : Place
no_place = record { run = record { 0 = 0 }; coach = 0; number = 0; class = First; traits = 0 }

abbrev pub place_at : CatalogueView → ℕ → Place
place_at cat place = slice_index_or cat.places place no_place

-- the places of a run, in order
abbrev pub run_places : CatalogueView → ℕ → List Place
run_places cat run = places_of run cat.places

-- The catalogue that the text is.
use Rattle.std.proofs.Common.{◌≡◌, ℕ, ◌+◌, ◌*◌, ◌≤◌, List, [], ◌∷◌, Ok, Result, codes, ap}
use Rattle.jiff.proofs.OnLiterals.{jiff_on_literals}
use Rattle.serde_json.specs.Data.{Data, unsigned}
use Rattle.place_map.specs.declared.coach.Place.{Place}
use Rattle.tariff.specs.Prices.{FareAmounts}
use Rattle.tariff.specs.Refunds.{RefundTerms}
use Rattle.train_runs.specs.declared.run.Stop.{Stop}
use Rattle.train_runs.specs.Stations.{StationView}
use Rattle.train_runs.specs.Runs.{RunsView}
use Rattle.rail_catalogue.specs.Coaches.{coaches_from}
use Rattle.catalogue_contents.specs.Contents.{CatalogueView}
use Rattle.rail_catalogue.specs.Faults.{Fault, after}
use Rattle.rail_catalogue.specs.Format.{NetworkView, with_item, contents_of}
use Rattle.host_drill.specs.Generator.{drill_rows}
use Rattle.host_drill.specs.Fits.{drill_retailer, station_code}
use Rattle.host_drill.proofs.Coach.{coaches_from-coach_data}
use Rattle.host_drill.proofs.Places.{group_from}
use Rattle.host_drill.proofs.Value.{coach_data, run_data, catalogue_data, drill_data}

abbrev station_view : ℕ → StationView
station_view n = record { code = station_code n; change = 300 }

abbrev drill_stations : List StationView
drill_stations = station_view 0 ∷ station_view 1 ∷ station_view 2 ∷ station_view 3 ∷ station_view 4 ∷ station_view 5 ∷ station_view 6 ∷ station_view 7 ∷ station_view 8 ∷ []

-- one every ten minutes, from 2026-06-01T08:00:00Z on
abbrev drill_stop : ℕ → Stop
drill_stop n = record { station = record { 0 = n }; arrive = 1_780_300_800 + 600 * n; depart = 1_780_300_800 + 600 * n }

abbrev drill_stops : List Stop
drill_stops = drill_stop 0 ∷ drill_stop 1 ∷ drill_stop 2 ∷ drill_stop 3 ∷ drill_stop 4 ∷ drill_stop 5 ∷ drill_stop 6 ∷ drill_stop 7 ∷ drill_stop 8 ∷ []

abbrev pub drill_runs : RunsView
drill_runs = record { stations = drill_stations; runs = record { train = 1; stops = drill_stops } ∷ [] }

abbrev drill_fare : FareAmounts
drill_fare = record { base = 100; per_leg = 10 }

abbrev drill_network : List Place → NetworkView
drill_network places = record { runs = drill_runs; fares = record { first = drill_fare; second = drill_fare } ∷ []; places = places }

abbrev drill_terms : RefundTerms
drill_terms = record { steps = record { before = 0; fee = 10_000 } ∷ []; ticket_fee = 0; exchange_fee = 0; confirm_seconds = 900 }

-- the catalogue, with this network
abbrev catalogue_over : NetworkView → CatalogueView
catalogue_over network = record {
  currency = codes "EUR";
  rows = drill_rows;
  retailers = record { number = drill_retailer; key = codes "drill" } ∷ [];
  runs = network.runs;
  fares = network.fares;
  places = network.places;
  terms = drill_terms;
}

-- the drill's catalogue, with these places
abbrev pub drill_view : List Place → CatalogueView
drill_view places = catalogue_over (drill_network places)

-- ---- the parts

abbrev no_runs : NetworkView
no_runs = record { runs = record { stations = drill_stations; runs = [] }; fares = []; places = [] }

with_item-run_data : (coach : Data) (places : List Place) → coaches_from 0 0 [] (coach ∷ []) ≡ Ok places → with_item no_runs 0 (run_data coach) ≡ Ok (drill_network places)
unfolding jiff_on_literals
with_item-run_data coach places holds = ap (λ (r : Result (List Place) Fault). after r (λ all. Ok (drill_network all))) holds

contents_of-catalogue_data : (run : Data) (network : NetworkView) → with_item no_runs 0 run ≡ Ok network → contents_of (catalogue_data run) ≡ Ok (catalogue_over network)
contents_of-catalogue_data run network is = ap (λ (r : Result NetworkView Fault). after (after r (λ more. Ok more)) (λ all. Ok (catalogue_over all))) is

pub contents_of-drill_data : (places : ℕ) → 1 ≤ places → places ≤ 1_200 → contents_of (drill_data (unsigned places)) ≡ Ok (drill_view (group_from 1 places))
contents_of-drill_data places some few =
    let coach = coach_data (unsigned places) in
    let group = group_from 1 places in
    contents_of-catalogue_data (run_data coach) (drill_network group) (with_item-run_data coach group (coaches_from-coach_data places some few))

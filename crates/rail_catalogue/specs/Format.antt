-- Which catalogue a text is, or its first fault. The members stand in the order in which they are tried.
use Rattle.std.specs.Prelude.{ℕ, ◌+◌, ◌==◌, ◌&&◌, nat_le, Bool, List, [], ◌∷◌, ◌++◌, length, codes, Option, Some, None, Result, Ok, Err}
use Rattle.std.specs.List.{list_all}
use Rattle.serde_json.specs.Data.{Data}
use Rattle.serde_json.specs.Find.{get, as_object}
use Rattle.place_map.specs.declared.coach.Place.{Place}
use Rattle.train_runs.specs.Stations.{StationView}
use Rattle.train_runs.specs.Runs.{RunsView}
use Rattle.catalogue_contents.specs.Contents.{CatalogueView, FaresView}
use Rattle.rail_catalogue.specs.Json.{json_of, whole_or, text_by, list_in}
use Rattle.rail_catalogue.specs.Faults.{Fault, not_json, need, after, item_path}
use Rattle.rail_catalogue.specs.Retailers.{retailers_of}
use Rattle.rail_catalogue.specs.Stations.{stations_of}
use Rattle.rail_catalogue.specs.Steps.{terms_of}
use Rattle.rail_catalogue.specs.Stops.{timetable_of, fares_of}
use Rattle.rail_catalogue.specs.Coaches.{coaches_from}

-- runs with their fares and places
pub record NetworkView : Type 0 where
  pub runs : RunsView
  pub fares : List FaresView
  pub places : List Place

-- the places with those of the coaches of the i-th run
abbrev pub places_of : ℕ → List Place → Data → Result (List Place) Fault
places_of i places d =
    need (item_path (codes "runs") i (codes ".coaches")) (list_in 1 9_223_372_036_854_775_807 (get (codes "coaches") d))
    (λ items.
    coaches_from i 0 places items)

-- the network with the i-th item of the list
abbrev pub with_item : NetworkView → ℕ → Data → Result NetworkView Fault
with_item network i d =
    after (timetable_of network.runs i d) (λ runs.
    after (fares_of i d) (λ fares.
    after (places_of i network.places d) (λ places.
    Ok (record { runs = runs; fares = network.fares ++ fares ∷ []; places = places }))))

abbrev pub network_from : NetworkView → ℕ → List Data → Result NetworkView Fault
network_from network i [] = Ok network
network_from network i (d ∷ ds) = after (with_item network i d) (λ more. network_from more (i + 1) ds)

-- the network of the member, over these stations
abbrev pub network_of : List StationView → Option Data → Result NetworkView Fault
network_of stations member =
    need (codes "runs") (list_in 1 9_223_372_036_854_775_807 member)
    (network_from (record { runs = record { stations = stations; runs = [] }; fares = []; places = [] }) 0)

abbrev pub is_capital : ℕ → Bool
is_capital b = nat_le 65 b && nat_le b 90

-- three letters from `A` to `Z`
abbrev pub is_currency : List ℕ → Bool
is_currency text = length text == 3 && list_all is_capital text

-- what stands before the lists
pub record HeadingView : Type 0 where
  pub currency : List ℕ
  pub rows : ℕ
  pub confirm_seconds : ℕ

abbrev pub heading_of : Data → Result HeadingView Fault
heading_of d =
    need [] (as_object d) (λ _.
    need (codes "currency") (text_by is_currency (get (codes "currency") d)) (λ currency.
    need (codes "rows") (whole_or 65_536 1 262_144 (get (codes "rows") d)) (λ rows.
    need (codes "confirmSeconds") (whole_or 900 1 86_400 (get (codes "confirmSeconds") d)) (λ confirm.
    Ok (record { currency = currency; rows = rows; confirm_seconds = confirm })))))

-- the catalogue of a value
abbrev pub contents_of : Data → Result CatalogueView Fault
contents_of d =
    after (heading_of d) (λ heading.
    after (retailers_of (get (codes "retailers") d)) (λ retailers.
    after (stations_of (get (codes "stations") d)) (λ stations.
    after (terms_of heading.confirm_seconds d) (λ terms.
    after (network_of stations (get (codes "runs") d)) (λ network.
    Ok (record {
      currency = heading.currency;
      rows = heading.rows;
      retailers = retailers;
      runs = network.runs;
      fares = network.fares;
      places = network.places;
      terms = terms;
    }))))))

abbrev pub contents_in : Option Data → Result CatalogueView Fault
contents_in None = Err not_json
contents_in (Some d) = contents_of d

-- the catalogue of a text
abbrev pub catalogue_of : List ℕ → Result CatalogueView Fault
catalogue_of text = contents_in (json_of text)

-- The heading and the network while they are read, as contracts see them, and what stands before the runs.
use Rattle.std.specs.Prelude.{◌≡◌, ◌≤◌, ℕ, List, [], length, codes, Option, Result, Ok, string_bytes, option_and_then}
use Rattle.serde_json.specs.Data.{Data}
use Rattle.serde_json.specs.Find.{get}
use Rattle.json_text.specs.Outlines.{member_at}
use Rattle.tariff.specs.Refunds.{RefundTerms}
use Rattle.train_runs.specs.Stations.{StationView}
use Rattle.catalogue_contents.specs.declared.network.Network.{Network}
use Rattle.catalogue_contents.specs.Contents.{CatalogueView}
use Rattle.catalogue_contents.specs.Retailers.{RetailerView}
use Rattle.rail_catalogue.specs.declared.reader.Front.{Front}
use Rattle.rail_catalogue.specs.declared.reader.Heading.{Heading}
use Rattle.rail_catalogue.specs.Faults.{Fault, after}
use Rattle.rail_catalogue.specs.Format.{HeadingView, NetworkView, heading_of, network_of}
use Rattle.rail_catalogue.specs.Retailers.{retailers_of}
use Rattle.rail_catalogue.specs.Stations.{stations_of}
use Rattle.rail_catalogue.specs.Steps.{terms_of}

abbrev pub heading_view : Heading → HeadingView
heading_view h = record { currency = string_bytes h.currency; rows = h.rows; confirm_seconds = h.confirm_seconds }

abbrev pub network_view : Network → NetworkView
network_view n = record { runs = n.runs; fares = n.fares.items; places = n.places }

-- three letters, 1 to 262,144 rows, and a second to a day
pub record IsWithin (h : Heading) : Type 0 where
  pub letters : length (string_bytes h.currency) ≡ 3
  pub some : 1 ≤ h.rows
  pub most : h.rows ≤ 262_144
  pub a_second : 1 ≤ h.confirm_seconds
  pub a_day : h.confirm_seconds ≤ 86_400

-- what stands before the runs
pub record FrontView : Type 0 where
  pub heading : HeadingView
  pub retailers : List RetailerView
  pub stations : List StationView
  pub terms : RefundTerms

abbrev pub front_view : Front → FrontView
front_view f =
    record {
      heading = heading_view f.heading;
      retailers = f.retailers;
      stations = f.stations.stations;
      terms = f.terms;
    }

abbrev pub front_in : Data → Result FrontView Fault
front_in d =
    after (heading_of d) (λ heading.
    after (retailers_of (get (codes "retailers") d)) (λ retailers.
    after (stations_of (get (codes "stations") d)) (λ stations.
    after (terms_of heading.confirm_seconds d) (λ terms.
    Ok (record { heading = heading; retailers = retailers; stations = stations; terms = terms })))))

-- the network of these stations, with no run yet
abbrev pub start_of : List StationView → NetworkView
start_of stations = record { runs = record { stations = stations; runs = [] }; fares = []; places = [] }

-- what the member at the place is, if the runs have one
abbrev pub runs_at : Option ℕ → List ℕ → Option Data
runs_at place text = option_and_then (λ i. member_at i text) place

-- the catalogue of what stands before the runs, and of these
abbrev pub with_runs : FrontView → Option Data → Result CatalogueView Fault
with_runs f member =
    after (network_of f.stations member) (λ network.
    Ok (record {
      currency = f.heading.currency;
      rows = f.heading.rows;
      retailers = f.retailers;
      runs = network.runs;
      fares = network.fares;
      places = network.places;
      terms = f.terms;
    }))

-- What contracts see of a catalogue, and what it is asked.
use Rattle.std.specs.Prelude.{◌≡◌, ◌<◌, ◌≤◌, ℕ, min, List, length, map, fold, All, slice_get}
use Rattle.std.specs.Option.{option_map_or}
use Rattle.leg_masks.specs.Interval.{PlacedSpan, most_legs}
use Rattle.rail_time.specs.Moments.{last_second}
use Rattle.tariff.specs.Prices.{FareAmounts}
use Rattle.tariff.specs.Refunds.{RefundTerms}
use Rattle.place_map.specs.declared.coach.Class.{Class}
use Rattle.place_map.specs.declared.coach.Class.TheVariants.{First, Second}
use Rattle.place_map.specs.declared.coach.Place.{Place}
use Rattle.place_map.specs.Places.{run_number}
use Rattle.train_runs.specs.declared.run.Stop.{Stop}
use Rattle.train_runs.specs.Stops.{legs_of}
use Rattle.train_runs.specs.Runs.{RunsView}
use Rattle.catalogue_contents.specs.Retailers.{RetailerView}

-- the fares of a run, by class
pub record FaresView : Type 0 where
  pub first : FareAmounts
  pub second : FareAmounts

pub record CatalogueView : Type 0 where
  pub currency : List ℕ
  pub rows : ℕ
  pub retailers : List RetailerView
  pub runs : RunsView
  pub fares : List FaresView
  pub places : List Place
  pub terms : RefundTerms

abbrev pub fare_in : Class → FaresView → FareAmounts
fare_in First fares = fares.first
fare_in Second fares = fares.second

-- the number of legs of the place's run
abbrev pub place_legs : RunsView → Place → ℕ
place_legs runs p = option_map_or legs_of (slice_get runs.runs (run_number p)) 0

-- a run has one leg to 126
abbrev pub IsNumberOfLegs : ℕ → Type 0
IsNumberOfLegs n = (0 < n) × (n ≤ most_legs)

abbrev pub legs_in : CatalogueView → List ℕ
legs_in cat = map (place_legs cat.runs) cat.places

-- the departure from the n-th stop
abbrev pub departure_at : List Stop → ℕ → ℕ
departure_at stops n = option_map_or (λ s. s.depart) (slice_get stops n) last_second

-- the departure of a place's run from its n-th stop
abbrev pub departure_from : RunsView → ℕ → Place → ℕ
departure_from runs n p = option_map_or (λ r. departure_at r.stops n) (slice_get runs.runs (run_number p)) last_second

-- the departure where the item begins
abbrev pub departure_of : CatalogueView → PlacedSpan → ℕ
departure_of cat item =
    option_map_or (departure_from cat.runs item.span.from) (slice_get cat.places item.place) last_second

-- the least departure of the items
abbrev pub least_departure : CatalogueView → List PlacedSpan → ℕ
least_departure cat items = fold (λ least item. min least (departure_of cat item)) last_second items

-- each place is one of a known run, each run has its fares, and there are no fewer places than runs
pub record IsWhole (runs : RunsView) (fares : List FaresView) (places : List Place) : Type 0 where
  pub of_known_runs : All (λ p. run_number p < length runs.runs) places
  pub fares_of_runs : length fares ≡ length runs.runs
  pub places_of_runs : length runs.runs ≤ length places

-- What a catalogue has to have, for the requests of a drill to be what they are meant to be.
use Rattle.std.specs.Prelude.{◌≡◌, ℕ, zero, suc, ◌+◌, ◌<◌, List, [], ◌∷◌, Some, codes, map, replicate}
use Rattle.rail_ids.specs.declared.StationNo.{StationNo}
use Rattle.place_map.specs.Candidates.{candidates_of}
use Rattle.place_map.specs.declared.coach.Class.TheVariants.{Second}
use Rattle.train_runs.specs.Stations.{station_with}
use Rattle.train_runs.specs.Runs.{RunsView, span_of}
use Rattle.catalogue_contents.specs.Contents.{CatalogueView, legs_in}
use Rattle.catalogue_contents.specs.Retailers.{retailer_with}
use Rattle.hold_core.specs.Tries.{place_number}
use Rattle.host_drill.specs.Generator.{digit, drill_legs, drill_rows}
use Rattle.host_drill.specs.Parts.{on_leg}

-- the numbers from one on, this many
abbrev pub numbers_from : ℕ → ℕ → List ℕ
numbers_from first zero = []
numbers_from first (suc n) = first ∷ numbers_from (first + 1) n

-- the drill's one retailer
abbrev pub drill_retailer : ℕ
drill_retailer = 1

-- what the law of the totals needs of the catalogue: each place has the eight legs, and all of them are what a request
-- may have, in order
pub record HasPlaces (cat : CatalogueView) (places : ℕ) : Type 0 where
  pub legs : legs_in cat ≡ replicate places drill_legs
  pub rows : cat.rows ≡ drill_rows
  pub candidates : map place_number (candidates_of 0 Second 0 cat.places) ≡ numbers_from 0 places

-- the code of the station of this number
abbrev pub station_code : ℕ → List ℕ
station_code n = 68 ∷ digit n ∷ []

-- the one run goes from the leg's station to the next, and that is the leg
pub record HasLeg (runs : RunsView) (leg : ℕ) : Type 0 where
  pub start : StationNo
  pub end : StationNo
  pub from : station_with (station_code leg) runs.stations ≡ Some start
  pub to : station_with (station_code (leg + 1)) runs.stations ≡ Some end
  pub span : span_of runs (record { 0 = 0 }) start end ≡ Some (on_leg leg)

abbrev pub HasLegs : RunsView → Type 0
HasLegs runs = (leg : ℕ) → leg < drill_legs → HasLeg runs leg

-- it has the retailer of the requests, the run and the stations that they name, and the places that are to be sold
pub record FitsDrill (cat : CatalogueView) (places : ℕ) : Type 0 where
  pub has : HasPlaces cat places
  pub retailer : retailer_with (codes "drill") cat.retailers ≡ Some (record { 0 = drill_retailer })
  pub each : HasLegs cat.runs

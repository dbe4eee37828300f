-- The text is that of a catalogue with all that the requests of a drill name.
use Rattle.std.proofs.Common.{◌≡◌, ◌∙◌, ℕ, zero, suc, ◌+◌, ◌≤◌, Some, Ok, Err, Result, IfSome, refl, ap, subst, arith}
use Rattle.std.specs.Option.{option_map_or}
use Rattle.std.specs.Prelude.{slice_get}
use Rattle.place_map.specs.declared.coach.Place.{Place}
use Rattle.place_map.specs.Places.{run_number}
use Rattle.train_runs.specs.Stations.{station_with}
use Rattle.train_runs.specs.Stops.{legs_of}
use Rattle.train_runs.specs.Runs.{span_of}
use Rattle.catalogue_contents.specs.Contents.{CatalogueView, place_legs}
use Rattle.rail_catalogue.specs.Faults.{Fault, fault_of}
use Rattle.rail_catalogue.specs.Format.{catalogue_of, contents_in}
use Rattle.rail_catalogue.specs.declared.fault.CatalogueFault.{CatalogueFault}
use Rattle.rail_catalogue.specs.declared.fault.CatalogueFault.TheVariants as fault
use Rattle.host_drill.specs.Generator.{catalogue_text, drill_legs}
use Rattle.host_drill.specs.Parts.{on_leg}
use Rattle.host_drill.specs.Fits.{HasLeg, HasLegs, HasPlaces, FitsDrill, station_code}
use Rattle.host_drill.proofs.Contents.{drill_runs, drill_view, contents_of-drill_data}
use Rattle.host_drill.proofs.Places.{group_from, map-group_from, numbers_of-group_from}
use Rattle.host_drill.proofs.Text.{json_of-catalogue_text}

place_legs-drill_runs : (p : Place) → run_number p ≡ 0 → place_legs drill_runs p ≡ drill_legs
place_legs-drill_runs p is = ap (λ (n : ℕ). option_map_or legs_of (slice_get drill_runs.runs n) 0) is

has_places : (places : ℕ) → HasPlaces (drill_view (group_from 1 places)) places
has_places places = record {
  legs = map-group_from (place_legs drill_runs) drill_legs place_legs-drill_runs 1 places;
  rows = refl;
  candidates = numbers_of-group_from 0 1 places;
}

-- the leg's stations have its number and the next one
between : (leg : ℕ)
    → station_with (station_code leg) drill_runs.stations ≡ Some (record { 0 = leg })
    → station_with (station_code (leg + 1)) drill_runs.stations ≡ Some (record { 0 = leg + 1 })
    → span_of drill_runs (record { 0 = 0 }) (record { 0 = leg }) (record { 0 = leg + 1 }) ≡ Some (on_leg leg)
    → HasLeg drill_runs leg
between leg from to span = record { start = record { 0 = leg }; end = record { 0 = leg + 1 }; from = from; to = to; span = span }

has_legs : HasLegs drill_runs
has_legs zero less = between 0 refl refl refl
has_legs (suc zero) less = between 1 refl refl refl
has_legs (suc (suc zero)) less = between 2 refl refl refl
has_legs (suc (suc (suc zero))) less = between 3 refl refl refl
has_legs (suc (suc (suc (suc zero)))) less = between 4 refl refl refl
has_legs (suc (suc (suc (suc (suc zero))))) less = between 5 refl refl refl
has_legs (suc (suc (suc (suc (suc (suc zero)))))) less = between 6 refl refl refl
has_legs (suc (suc (suc (suc (suc (suc (suc zero))))))) less = between 7 refl refl refl
has_legs (suc (suc (suc (suc (suc (suc (suc (suc leg)))))))) less = absurd (omega arith)

FitsDrill-drill_view : (places : ℕ) → FitsDrill (drill_view (group_from 1 places)) places
FitsDrill-drill_view places = record { has = has_places places; retailer = refl; each = has_legs }

-- with any number of places from 1 to 1,200
pub catalogue_fits : (places : ℕ) → 1 ≤ places → places ≤ 1_200 → (c : CatalogueView) × (catalogue_of (catalogue_text places) ≡ Ok c) × FitsDrill c places
catalogue_fits places some few = (
  drill_view (group_from 1 places),
  ap contents_in (json_of-catalogue_text places (omega arith)) ∙ contents_of-drill_data places some few,
  FitsDrill-drill_view places,
)

-- so what is read from it fits
pub read_fits : (places : ℕ) (c : CatalogueView) → 1 ≤ places → places ≤ 1_200 → catalogue_of (catalogue_text places) ≡ Ok c → FitsDrill c places
read_fits places c some few is =
    let made = catalogue_fits places some few in
    let same : made.0 ≡ c = cc in
    subst (λ (d : CatalogueView). FitsDrill d places) same made.2

no_other_fault : (e : CatalogueFault) {c : CatalogueView} {r : Result CatalogueView Fault} → r ≡ Ok c → IfSome (fault_of e) (λ f. r ≡ Err f) → e ≡ fault.NoMemory
no_other_fault fault.NotJson is bad = cc
no_other_fault (fault.Field path) is bad = cc
no_other_fault (fault.Run e) is bad = cc
no_other_fault (fault.Place e) is bad = cc
no_other_fault (fault.Tariff e) is bad = cc
no_other_fault (fault.UnknownStation code) is bad = cc
no_other_fault fault.DoubleKey is bad = cc
no_other_fault fault.NoMemory is bad = refl

-- and reading it ends with no fault but want of memory
pub read_faultless : (places : ℕ) (e : CatalogueFault) → 1 ≤ places → places ≤ 1_200 → IfSome (fault_of e) (λ f. catalogue_of (catalogue_text places) ≡ Err f) → e ≡ fault.NoMemory
read_faultless places e some few = no_other_fault e (catalogue_fits places some few).1

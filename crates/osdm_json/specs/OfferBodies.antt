-- What a body asks offers for.
use Rattle.std.specs.Prelude.{ℕ, List, if◌then◌else◌, option_and_then, Result, Ok, Err, codes}
use Rattle.serde_json.specs.Data.{Data}
use Rattle.serde_json.specs.Find.{get}
use Rattle.offer_codes.specs.Offers.{is_party}
use Rattle.train_runs.specs.Stations.{station_with}
use Rattle.train_runs.specs.declared.wish.TripWish.{TripWish}
use Rattle.rail_catalogue.specs.Json.{whole_in, whole_or, text_of}
use Rattle.catalogue_contents.specs.Contents.{CatalogueView}
use Rattle.osdm_parts.specs.declared.field.FieldName.TheVariants.{Adults, Children, Class, Wanted, Origin, Destination, Earliest, Latest}
use Rattle.osdm_json.specs.declared.fault.BodyFault.{BodyFault}
use Rattle.osdm_json.specs.declared.fault.BodyFault.TheVariants.{Field}
use Rattle.osdm_json.specs.declared.offers.Party.{Party}
use Rattle.osdm_json.specs.declared.offers.Window.{Window}
use Rattle.osdm_json.specs.Asked.{Asked, offers}
use Rattle.osdm_json.specs.Members.{need, known, after, class_in, traits_in, unlike, moment_in, latest_in}

-- up to eight of each, and one to eight together, which is tried after both
abbrev pub party_of : Data → Result Party BodyFault
party_of d =
    need Adults (whole_in 0 8 (get (codes "adults") d)) (λ adults.
    need Children (whole_or 0 0 8 (get (codes "children") d)) (λ children.
    if is_party adults children then Ok (record { adults = adults; children = children }) else Err (Field Adults)))

-- two texts that differ
pub record TripEnds : Type 0 where
  pub origin : List ℕ
  pub destination : List ℕ

abbrev pub ends_of : Data → Result TripEnds BodyFault
ends_of d =
    need Origin (text_of (get (codes "origin") d)) (λ origin.
    need Destination (option_and_then (unlike origin) (text_of (get (codes "destination") d))) (λ destination.
    Ok (record { origin = origin; destination = destination })))

abbrev pub window_of : Data → Result Window BodyFault
window_of d =
    need Earliest (moment_in (get (codes "earliest") d)) (λ earliest.
    need Latest (latest_in earliest (get (codes "latest") d)) (λ latest.
    Ok (record { earliest = earliest; latest = latest })))

-- stations are looked up after all fields
abbrev pub trip_of : CatalogueView → TripEnds → Window → Result TripWish BodyFault
trip_of cat ends window =
    known Origin (station_with ends.origin cat.runs.stations) (λ origin.
    known Destination (station_with ends.destination cat.runs.stations) (λ destination.
    Ok (record { origin = origin; destination = destination; earliest = window.earliest; latest = window.latest })))

abbrev pub offers_of : CatalogueView → Data → Result Asked BodyFault
offers_of cat d =
    after (party_of d) (λ party.
    need Class (class_in (get (codes "class") d)) (λ class.
    need Wanted (traits_in (get (codes "wanted") d)) (λ wanted.
    after (ends_of d) (λ ends.
    after (window_of d) (λ window.
    after (trip_of cat ends window) (λ trip.
    Ok (offers trip party.adults party.children class wanted)))))))

-- What an offer costs.
use Rattle.std.specs.Prelude.{ℕ, ◌-◌, slice_get, sum_by}
use Rattle.std.specs.Option.{option_map_or}
use Rattle.place_map.specs.declared.coach.Class.{Class}
use Rattle.tariff.specs.Prices.{FareAmounts, price_of}
use Rattle.train_runs.specs.declared.segment.Segment.{Segment}
use Rattle.offer_codes.specs.Offers.{OfferView}
use Rattle.catalogue_contents.specs.Contents.{CatalogueView, fare_in}

abbrev pub no_fare : FareAmounts
no_fare = record { base = 0; per_leg = 0 }

abbrev pub fare_on : CatalogueView → Class → ℕ → FareAmounts
fare_on cat class run = option_map_or (fare_in class) (slice_get cat.fares run) no_fare

-- what the passengers pay for a segment
abbrev pub segment_price : CatalogueView → Class → ℕ → ℕ → Segment → ℕ
segment_price cat class adults children s =
    price_of (fare_on cat class s.run.0) (s.span.to - s.span.from) adults children

-- and for the whole offer
abbrev pub offer_price : CatalogueView → OfferView → ℕ
offer_price cat o = sum_by (segment_price cat o.class o.adults o.children) o.segments

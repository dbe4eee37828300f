-- Which offers the catalogue has.
use Rattle.std.specs.Prelude.{ℕ, ◌==◌, ◌&&◌, nat_le, nat_lt, not, Bool, List, length}
use Rattle.std.specs.List.{list_all}
use Rattle.train_runs.specs.declared.segment.Segment.{Segment}
use Rattle.offer_codes.specs.Offers.{OfferView}
use Rattle.train_runs.specs.Runs.{RunsView}
use Rattle.catalogue_contents.specs.Contents.{CatalogueView}
use Rattle.offer_prices.specs.Runs.{is_of_runs}
use Rattle.trip_builder.specs.Segments.{first_stop, last_stop, first_of, last_of}
use Rattle.trip_builder.specs.Trips.{are_connected}

-- the segments are a trip whose first and last stations differ, and the first departs no earlier than this
abbrev pub goes : RunsView → ℕ → List Segment → Bool
goes r made segments =
    nat_le made (first_stop r (first_of segments)).depart
    && (not ((first_stop r (first_of segments)).station.0 == (last_stop r (last_of segments)).station.0)
    && are_connected r segments)

abbrev pub is_offered : CatalogueView → OfferView → Bool
is_offered cat o =
    nat_lt 0 (length o.segments) && (list_all (is_of_runs cat.runs) o.segments && goes cat.runs o.made o.segments)

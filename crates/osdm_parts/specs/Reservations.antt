-- What a booking has at each place, and its JSON.
use Rattle.std.specs.Prelude.{◌==◌, ◌&&◌, Bool, List, [], ◌∷◌, if◌then◌else◌, codes}
use Rattle.serde_json.specs.Data.{Data, string, object, no_members, member}
use Rattle.leg_masks.specs.Interval.{PlacedSpan, word_legs}
use Rattle.place_map.specs.Places.{run_number}
use Rattle.catalogue_contents.specs.Contents.{CatalogueView}
use Rattle.osdm_parts.specs.Amounts.{count_tree}
use Rattle.osdm_parts.specs.Spots.{stop_code, train_of, place_at}

-- the two are at one place, and the second begins where the first ends, at the border of the halves
abbrev pub goes_on : PlacedSpan → PlacedSpan → Bool
goes_on a b = a.place == b.place && (a.span.to == word_legs && b.span.from == word_legs)

-- the legs of both
abbrev pub joined : PlacedSpan → PlacedSpan → PlacedSpan
joined a b = record { place = a.place; span = record { from = a.span.from; to = b.span.to } }

-- what a booking with these items has at each place: its item there, or both its items as one where they go on over the
-- border
abbrev pub reservations : List PlacedSpan → List PlacedSpan
reservations [] = []
reservations (a ∷ []) = a ∷ []
reservations (a ∷ b ∷ rest) = if goes_on a b then joined a b ∷ reservations rest else a ∷ reservations (b ∷ rest)

-- a place with the legs that are reserved on it
abbrev pub reservation_tree : CatalogueView → PlacedSpan → Data
reservation_tree cat r = let p = place_at cat r.place in
    object (member (codes "coach") (count_tree p.coach)
    (member (codes "from") (string (stop_code cat (run_number p) r.span.from))
    (member (codes "place") (count_tree p.number) (member (codes "run") (count_tree (run_number p))
    (member (codes "to") (string (stop_code cat (run_number p) r.span.to))
    (member (codes "train") (count_tree (train_of cat (run_number p))) no_members))))))

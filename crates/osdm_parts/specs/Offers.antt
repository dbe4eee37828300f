-- The JSON of offers.
use Rattle.std.specs.Prelude.{◌≡◌, ℕ, pos, ◌+◌, min, true, List, [], ◌∷◌, length, codes}
use Rattle.serde_json.specs.Data.{Data, string, array, object, no_members, member}
use Rattle.serde_json.specs.View.{items_of}
use Rattle.rail_time.specs.Moments.{last_second}
use Rattle.train_runs.specs.declared.segment.Segment.{Segment}
use Rattle.offer_codes.specs.declared.code.Offer.{Offer}
use Rattle.offer_codes.specs.Offers.{offer_view, is_offer, valid_seconds}
use Rattle.catalogue_contents.specs.Contents.{CatalogueView}
use Rattle.osdm_parts.specs.Times.{time_text}
use Rattle.osdm_parts.specs.Ids.{offer_id}
use Rattle.osdm_parts.specs.Amounts.{count_tree, amount_tree}
use Rattle.osdm_parts.specs.Spots.{run_stop, stop_code, train_of}

-- an offer or a quote is valid for that many seconds, and never past the last moment
abbrev pub valid_until : ℕ → ℕ
valid_until made = min (made + valid_seconds) last_second

-- a segment with the number of places that were free on it
abbrev pub segment_tree : CatalogueView → Segment → ℕ → Data
segment_tree cat s free =
    object (member (codes "arrive") (string (time_text (run_stop cat s.run.0 s.span.to).arrive))
    (member (codes "depart") (string (time_text (run_stop cat s.run.0 s.span.from).depart))
    (member (codes "free") (count_tree free)
    (member (codes "from") (string (stop_code cat s.run.0 s.span.from)) (member (codes "run") (count_tree s.run.0)
    (member (codes "to") (string (stop_code cat s.run.0 s.span.to))
    (member (codes "train") (count_tree (train_of cat s.run.0)) no_members)))))))

abbrev pub segment_trees : CatalogueView → List Segment → List ℕ → List Data
segment_trees cat [] free = []
segment_trees cat (s ∷ rest) [] = []
segment_trees cat (s ∷ rest) (n ∷ free) = segment_tree cat s n ∷ segment_trees cat rest free

abbrev pub offer_tree : CatalogueView → Offer → Data
offer_tree cat o =
    object (member (codes "id") (string (offer_id (offer_view o.code)))
    (member (codes "price") (amount_tree cat.currency (pos o.price))
    (member (codes "segments") (array (items_of (segment_trees cat o.code.segments.items o.free.items)))
    (member (codes "validUntil") (string (time_text (valid_until o.code.made))) no_members))))

-- an offer whose id has a spelling, with one count for each segment
pub record IsWritable (o : Offer) : Type 0 where
  pub ranges : is_offer (offer_view o.code) ≡ true
  pub counts : length o.free.items ≡ length o.code.segments.items

-- The JSON of each reply.
use Rattle.std.specs.Prelude.{◌≡◌, ℕ, ℤ, Bool, true, List, All, length, map, codes}
use Rattle.serde_json.specs.Data.{Data, array, object, string, no_members, member}
use Rattle.serde_json.specs.View.{items_of}
use Rattle.offer_codes.specs.declared.code.Offer.{Offer}
use Rattle.offer_codes.specs.Refunds.{is_refund}
use Rattle.offer_codes.specs.Exchanges.{exchange_view, is_exchange}
use Rattle.rail_ids.specs.declared.RowNo.{RowNo}
use Rattle.booking_rows.specs.Views.{RowSeen}
use Rattle.catalogue_contents.specs.Contents.{CatalogueView}
use Rattle.osdm_texts.specs.declared.reply.Reply.{Reply}
use Rattle.osdm_texts.specs.declared.reply.Reply.TheVariants.{OfferList, Booking, RefundOffer, ExchangeOffer, Exchange, PlaceList, Swept, Problem}
use Rattle.osdm_parts.specs.Ids.{booking_id, HasId}
use Rattle.osdm_parts.specs.Amounts.{amount_tree}
use Rattle.osdm_parts.specs.Spots.{run_places}
use Rattle.osdm_parts.specs.Problems.{problem_tree}
use Rattle.osdm_texts.specs.Sweeps.{swept_tree}
use Rattle.osdm_parts.specs.Offers.{offer_tree, IsWritable}
use Rattle.osdm_texts.specs.Bookings.{booking_tree, HasIds}
use Rattle.osdm_parts.specs.Quotes.{refund_tree, exchange_tree}
use Rattle.osdm_parts.specs.Places.{place_list_tree}

abbrev pub offers_tree : CatalogueView → List Offer → Data
offers_tree cat offers = object (member (codes "offers") (array (items_of (map (offer_tree cat) offers))) no_members)

-- the new booking, what was paid on top, and the booking that was replaced
abbrev pub exchanged_tree : CatalogueView → RowNo → RowSeen → ℤ → RowNo → Data
exchanged_tree cat row view difference replaced =
    object (member (codes "booking") (booking_tree cat row view)
    (member (codes "difference") (amount_tree cat.currency difference)
    (member (codes "replaced") (string (booking_id replaced)) no_members)))

abbrev pub places_tree : CatalogueView → ℕ → List Bool → Data
places_tree cat run free = place_list_tree (run_places cat run) free

abbrev pub tree_of : CatalogueView → Reply → Data
tree_of cat (OfferList offers) = offers_tree cat offers.now
tree_of cat (Booking row view) = booking_tree cat row view
tree_of cat (RefundOffer code) = refund_tree cat code
tree_of cat (ExchangeOffer code) = exchange_tree cat code
tree_of cat (Exchange row view difference replaced) = exchanged_tree cat row view difference replaced
tree_of cat (PlaceList run free) = places_tree cat run.0 free.now
tree_of cat (Swept swept) = swept_tree swept
tree_of cat (Problem problem) = problem_tree problem

-- ids that have a spelling, one count for each segment, and one entry for each place of the run
abbrev pub CanBeWritten : CatalogueView → Reply → Type 0
CanBeWritten cat (OfferList offers) = All IsWritable offers.now
CanBeWritten cat (RefundOffer code) = is_refund code ≡ true
CanBeWritten cat (ExchangeOffer code) = is_exchange (exchange_view code) ≡ true
CanBeWritten cat (PlaceList run free) = length free.now ≡ length (run_places cat run.0)
CanBeWritten cat (Booking row view) = HasIds row view
CanBeWritten cat (Exchange row view difference replaced) = HasIds row view × HasId replaced
CanBeWritten cat (Swept swept) = Unit {0}
CanBeWritten cat (Problem problem) = Unit {0}

-- How replies are told.
use Rattle.std.proofs.Common.{◌≡◌, ℕ, ℤ, Bool, List, refl}
use Rattle.serde_json.specs.Written.{compact_text}
use Rattle.offer_codes.specs.declared.code.Offer.{Offer}
use Rattle.offer_codes.specs.declared.code.RefundCode.{RefundCode}
use Rattle.offer_codes.specs.declared.code.ExchangeCode.{ExchangeCode}
use Rattle.rail_ids.specs.declared.RowNo.{RowNo}
use Rattle.booking_rows.specs.Views.{RowSeen}
use Rattle.booking_rows.specs.declared.swept.Swept.{Swept}
use Rattle.catalogue_contents.specs.Contents.{CatalogueView}
use Rattle.osdm_parts.specs.declared.problem.Problem.{Problem}
use Rattle.osdm_texts.specs.Bookings.{booking_tree}
use Rattle.osdm_parts.specs.Quotes.{refund_tree, exchange_tree}
use Rattle.osdm_texts.specs.Replies.{offers_tree, exchanged_tree, places_tree}
use Rattle.osdm_texts.specs.Sweeps.{swept_tree}
use Rattle.osdm_texts.specs.Answers.{offer_list, created, booking, refund_offer, exchange_offer, exchanged, place_list, swept, problem, refused, telling, reply_told}

pub of_problem : (cat : CatalogueView) (p : Problem) → refused p ≡ reply_told cat (problem p)
unfolding reply_told
of_problem cat p = refl

pub of_booking : (cat : CatalogueView) (row : RowNo) (v : RowSeen) → telling 200 (compact_text (booking_tree cat row v)) ≡ reply_told cat (booking row v)
unfolding reply_told
of_booking cat row v = refl

pub of_created : (cat : CatalogueView) (row : RowNo) (v : RowSeen) → telling 201 (compact_text (booking_tree cat row v)) ≡ reply_told cat (created row v)
unfolding reply_told
of_created cat row v = refl

pub of_offers : (cat : CatalogueView) (offers : List Offer) → telling 200 (compact_text (offers_tree cat offers)) ≡ reply_told cat (offer_list offers)
unfolding reply_told
of_offers cat offers = refl

pub of_places : (cat : CatalogueView) (run : ℕ) (free : List Bool) → telling 200 (compact_text (places_tree cat run free)) ≡ reply_told cat (place_list run free)
unfolding reply_told
of_places cat run free = refl

pub of_swept : (cat : CatalogueView) (n : Swept) → telling 200 (compact_text (swept_tree n)) ≡ reply_told cat (swept n)
unfolding reply_told
of_swept cat n = refl

pub of_refund : (cat : CatalogueView) (code : RefundCode) → telling 201 (compact_text (refund_tree cat code)) ≡ reply_told cat (refund_offer code)
unfolding reply_told
of_refund cat code = refl

pub of_exchange : (cat : CatalogueView) (code : ExchangeCode) → telling 201 (compact_text (exchange_tree cat code)) ≡ reply_told cat (exchange_offer code)
unfolding reply_told
of_exchange cat code = refl

pub of_exchanged : (cat : CatalogueView) (row : RowNo) (v : RowSeen) (difference : ℤ) (replaced : RowNo) → telling 201 (compact_text (exchanged_tree cat row v difference replaced)) ≡ reply_told cat (exchanged row v difference replaced)
unfolding reply_told
of_exchanged cat row v difference replaced = refl

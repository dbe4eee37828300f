-- What a retailer is answered, and how it is told: a problem, or a status and a JSON text.
use Rattle.std.specs.Prelude.{ℕ, ℤ, Bool, true, false, List, length, Result, Ok, Err, ◌≡◌}
use Rattle.serde_json.specs.Data.{Data}
use Rattle.serde_json.specs.Written.{compact_text}
use Rattle.offer_codes.specs.declared.code.Offer.{Offer}
use Rattle.offer_codes.specs.declared.code.RefundCode.{RefundCode}
use Rattle.offer_codes.specs.declared.code.ExchangeCode.{ExchangeCode}
use Rattle.rail_ids.specs.declared.RowNo.{RowNo}
use Rattle.booking_rows.specs.Views.{RowSeen}
use Rattle.booking_rows.specs.declared.swept.Swept.{Swept}
use Rattle.catalogue_contents.specs.Contents.{CatalogueView}
use Rattle.osdm_parts.specs.declared.problem.Problem.{Problem}
use Rattle.osdm_texts.specs.declared.written.Success.{Success}
use Rattle.osdm_texts.specs.declared.written.Success.TheVariants.{Done, Created}
use Rattle.osdm_texts.specs.declared.written.Text.{Text}
use Rattle.osdm_texts.specs.declared.written.Text.TheVariants.{Counts, Large}
use Rattle.osdm_texts.specs.declared.written.Written.{Written}
use Rattle.osdm_parts.specs.Problems.{problem_line, problem_tree}
use Rattle.osdm_texts.specs.Bookings.{booking_tree}
use Rattle.osdm_parts.specs.Quotes.{refund_tree, exchange_tree}
use Rattle.osdm_texts.specs.Replies.{offers_tree, exchanged_tree, places_tree}
use Rattle.osdm_texts.specs.Sweeps.{swept_tree}

-- a booking is answered as new, or as it stands
pub data Reply : Type 0 where
  offer_list : List Offer → Reply
  created booking : RowNo → RowSeen → Reply
  refund_offer : RefundCode → Reply
  exchange_offer : ExchangeCode → Reply
  exchanged : RowNo → RowSeen → ℤ → RowNo → Reply
  place_list : ℕ → List Bool → Reply
  swept : Swept → Reply
  problem : Problem → Reply

abbrev pub status_of : Reply → ℕ
status_of (offer_list offers) = 200
status_of (created row view) = 201
status_of (booking row view) = 200
status_of (refund_offer code) = 201
status_of (exchange_offer code) = 201
status_of (exchanged row view difference replaced) = 201
status_of (place_list run free) = 200
status_of (swept n) = 200
status_of (problem p) = (problem_line p).status

abbrev pub tree_of : CatalogueView → Reply → Data
tree_of cat (offer_list offers) = offers_tree cat offers
tree_of cat (created row view) = booking_tree cat row view
tree_of cat (booking row view) = booking_tree cat row view
tree_of cat (refund_offer code) = refund_tree cat code
tree_of cat (exchange_offer code) = exchange_tree cat code
tree_of cat (exchanged row view difference replaced) = exchanged_tree cat row view difference replaced
tree_of cat (place_list run free) = places_tree cat run free
tree_of cat (swept n) = swept_tree n
tree_of cat (problem p) = problem_tree p

abbrev pub is_problem : Reply → Bool
is_problem (problem p) = true
is_problem _ = false

-- what is told: a problem, or a status with a text and its length
pub data Told : Type 0 where
  refused : Problem → Told
  told : ℕ → ℕ → List ℕ → Told

abbrev pub telling : ℕ → List ℕ → Told
telling status text = told status (length text) text

-- how a reply is told
unfoldable pub reply_told : CatalogueView → Reply → Told
reply_told cat (problem p) = refused p
reply_told cat reply = telling (status_of reply) (compact_text (tree_of cat reply))

-- what a service's answer tells
abbrev pub status_told : Success → ℕ
status_told Done = 200
status_told Created = 201

abbrev pub text_bytes : Text → List ℕ
text_bytes (Counts n) = compact_text (swept_tree n)
text_bytes (Large text) = text.items

abbrev pub told_of : Result Written Problem → Told
told_of (Ok w) = told (status_told w.success) w.length (text_bytes w.text)
told_of (Err p) = refused p

-- the text that was written tells the reply
abbrev pub Tells : CatalogueView → Reply → Written → Type 0
Tells cat reply written = told_of (Ok written) ≡ reply_told cat reply

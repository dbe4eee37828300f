-- The JSON of bookings.
use Rattle.std.specs.Prelude.{ℕ, zero, suc, ◌/◌, ◌%◌, pos, Bool, true, false, map, codes, Option, Some, None, option_map}
use Rattle.serde_json.specs.Data.{Data, boolean, string, array, object, Members, no_members, member}
use Rattle.serde_json.specs.View.{items_of}
use Rattle.history_model.specs.declared.phase.Phase.{Phase}
use Rattle.history_model.specs.declared.phase.Phase.TheVariants.{Free, Making, Prebooked, Confirmed, Fulfilled, Ending, Ended}
use Rattle.history_model.specs.declared.phase.EndKind.TheVariants.{Exchange}
use Rattle.history_model.specs.declared.booking.End.{End}
use Rattle.history_model.specs.Booking.{successor_rows}
use Rattle.rail_ids.specs.declared.RowNo.{RowNo}
use Rattle.booking_rows.specs.Views.{RowSeen, MaySucceed}
use Rattle.catalogue_contents.specs.Contents.{CatalogueView}
use Rattle.osdm_parts.specs.Statuses.{phase_text}
use Rattle.osdm_parts.specs.Times.{time_text}
use Rattle.osdm_parts.specs.Ids.{booking_id, HasId}
use Rattle.osdm_parts.specs.Amounts.{amount_tree}
use Rattle.osdm_parts.specs.Reservations.{reservations, reservation_tree}
use Rattle.booking_rows.specs.Ends.{shown_end}
use Rattle.booking_rows.specs.declared.views.EndView.{EndView}

-- a booking is settled once it has ended
abbrev pub is_settled : Phase → Bool
is_settled Free = false
is_settled Making = false
is_settled Prebooked = false
is_settled Confirmed = false
is_settled Fulfilled = false
is_settled (Ending kind) = false
is_settled (Ended kind) = true

abbrev pub seen_end : Option EndView → Option End
seen_end ended = option_map shown_end ended

-- how a settled booking ended stands before the other members
abbrev pub end_members : CatalogueView → Option End → Members → Members
end_members cat None rest = rest
end_members cat (Some e) rest =
    member (codes "endAmount") (amount_tree cat.currency e.amount)
    (member (codes "endedAt") (string (time_text e.moment)) rest)

-- the booking whose word as a successor is one more than this
abbrev pub successor_before : ℕ → RowNo
successor_before n = record { row = n % successor_rows; generation = n / successor_rows }

abbrev pub succeeding : RowNo → Members
succeeding row = member (codes "successor") (string (booking_id row)) no_members

-- the successor of a booking, by its word in the end: 0 is for none
abbrev pub successor_member : ℕ → Members
successor_member zero = no_members
successor_member (suc n) = succeeding (successor_before n)

-- only a booking that ended by exchange has a successor
abbrev pub successor_members : Phase → Option End → Members
successor_members (Ended Exchange) (Some e) = successor_member e.successor
successor_members (Ended Exchange) None = no_members
successor_members phase e = no_members

-- the booking has an id, and so has its successor
abbrev pub HasIds : RowNo → RowSeen → Type 0
HasIds row v = HasId row × MaySucceed v.ended

abbrev pub booking_tree : CatalogueView → RowNo → RowSeen → Data
booking_tree cat row v =
    object (member (codes "confirmableUntil") (string (time_text v.limit)) (end_members cat v.ended
    (member (codes "id") (string (booking_id row)) (member (codes "price") (amount_tree cat.currency (pos v.total))
    (member (codes "reservations") (array (items_of (map (reservation_tree cat) (reservations v.items))))
    (member (codes "settled") (boolean (is_settled v.phase)) (member (codes "status") (string (phase_text v.phase))
    (successor_members v.phase v.ended))))))))

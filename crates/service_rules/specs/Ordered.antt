-- What a command orders, with the ids and codes that stand in it.
use Rattle.std.specs.Prelude.{Bool}
use Rattle.rail_ids.specs.declared.RowNo.{RowNo}
use Rattle.train_runs.specs.declared.segment.Segment.{Segment}
use Rattle.offer_codes.specs.declared.code.OfferCode.{OfferCode}
use Rattle.offer_codes.specs.declared.code.RefundCode.{RefundCode}
use Rattle.offer_codes.specs.declared.code.ExchangeCode.{ExchangeCode}
use Rattle.offer_engine.specs.declared.wish.OfferWish.{OfferWish}
use Rattle.reservation_service.specs.declared.booking.Reservation.{Reservation}

-- an order, as contracts see it
pub data Ordered : Type 0 where
  offers : OfferWish → Ordered
  book : OfferCode → Bool → Ordered
  reserve : Reservation → Ordered
  show release confirm fulfil quote_refund : RowNo → Ordered
  accept_refund : RefundCode → Ordered
  quote_exchange : RowNo → OfferCode → Ordered
  accept_exchange : ExchangeCode → Ordered
  places : Segment → Ordered
  sweep : Ordered

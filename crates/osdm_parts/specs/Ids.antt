-- Ids as they stand in replies, each in its one spelling.
use Rattle.std.specs.Prelude.{ℕ, ◌≤◌, List}
use Rattle.rail_ids.specs.Spelling.{booking_id_text, last_generation}
use Rattle.rail_ids.specs.declared.RowNo.{RowNo}
use Rattle.offer_codes.specs.declared.code.RefundCode.{RefundCode}
use Rattle.offer_codes.specs.Offers.{OfferView, offer_text}
use Rattle.offer_codes.specs.Refunds.{refund_text}
use Rattle.offer_codes.specs.Exchanges.{ExchangeView, exchange_text}

-- of a generation that ids have room for
abbrev pub HasId : RowNo → Type 0
HasId row = row.generation ≤ last_generation

unfoldable pub booking_id : RowNo → List ℕ
booking_id row = booking_id_text row.row row.generation

unfoldable pub offer_id : OfferView → List ℕ
offer_id offer = offer_text offer

unfoldable pub refund_id : RefundCode → List ℕ
refund_id code = refund_text code

unfoldable pub exchange_id : ExchangeView → List ℕ
exchange_id code = exchange_text code

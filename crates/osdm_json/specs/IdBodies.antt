-- What a body says of a booking or an offer.
use Rattle.std.specs.Prelude.{ℕ, List, if◌then◌else◌, Option, Some, None, option_and_then, Result, Ok, codes, ◌≡◌, Bool, Err}
use Rattle.std.specs.Str.{bytes_eq}
use Rattle.serde_json.specs.Data.{Data}
use Rattle.serde_json.specs.Find.{get}
use Rattle.rail_catalogue.specs.Json.{text_of}
use Rattle.osdm_parts.specs.declared.field.FieldName.TheVariants.{Status, OfferId, Together, BookingId, ExchangeOfferId}
use Rattle.osdm_json.specs.declared.fault.BodyFault.{BodyFault}
use Rattle.osdm_json.specs.Asked.{Asked, book, quote_exchange, accept_exchange, fulfil, accept_refund}
use Rattle.osdm_json.specs.Members.{need, flag_in}
use Rattle.osdm_json.specs.declared.fault.BodyFault.TheVariants.{Field}

-- the text alone that the status may be
abbrev pub if_status : List ℕ → List ℕ → Option (List ℕ)
if_status wanted text = if bytes_eq text wanted then Some text else None

abbrev pub with_status : List ℕ → Asked → Data → Result Asked BodyFault
with_status wanted asked d =
    need Status (option_and_then (if_status wanted) (text_of (get (codes "status") d))) (λ _. Ok asked)

-- the status passed as the wanted one, or else it is the field at fault
abbrev pub IsStatusTest : List ℕ → Data → Bool → Type 0
IsStatusTest wanted d passed =
    (asked : Asked) → with_status wanted asked d ≡ (if passed then Ok asked else Err (Field Status))

abbrev pub fulfil_of : List ℕ → Data → Result Asked BodyFault
fulfil_of id d = with_status (codes "FULFILLED") (fulfil id) d

abbrev pub accept_refund_of : List ℕ → List ℕ → Data → Result Asked BodyFault
accept_refund_of id offer d = with_status (codes "CONFIRMED") (accept_refund id offer) d

abbrev pub book_of : Data → Result Asked BodyFault
book_of d =
    need OfferId (text_of (get (codes "offerId") d)) (λ offer.
    need Together (flag_in (get (codes "together") d)) (λ together. Ok (book offer together)))

abbrev pub quote_exchange_of : Data → Result Asked BodyFault
quote_exchange_of d =
    need BookingId (text_of (get (codes "bookingId") d)) (λ booking.
    need OfferId (text_of (get (codes "offerId") d)) (λ offer. Ok (quote_exchange booking offer)))

abbrev pub accept_exchange_of : List ℕ → Data → Result Asked BodyFault
accept_exchange_of id d =
    need ExchangeOfferId (text_of (get (codes "exchangeOfferId") d)) (λ offer. Ok (accept_exchange id offer))

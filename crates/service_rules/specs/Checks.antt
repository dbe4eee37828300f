-- What a command orders, or is refused for by its ids, its codes and the moment alone.
use Rattle.std.specs.Prelude.{ℕ, ◌+◌, ◌==◌, ◌&&◌, nat_lt, nat_le, Bool, false, Option, Some, None, Result, Ok, Err, ok_or, if◌then◌else◌}
use Rattle.rail_ids.specs.declared.RowNo.{RowNo}
use Rattle.offer_codes.specs.declared.code.OfferCode.{OfferCode}
use Rattle.offer_codes.specs.declared.code.RefundCode.{RefundCode}
use Rattle.offer_codes.specs.declared.code.ExchangeCode.{ExchangeCode}
use Rattle.offer_codes.specs.Offers.{offer_view, valid_seconds}
use Rattle.catalogue_contents.specs.Contents.{CatalogueView}
use Rattle.offer_engine.specs.Codes.{is_offered}
use Rattle.osdm_parts.specs.declared.problem.Problem.{Problem}
use Rattle.osdm_parts.specs.declared.problem.Problem.TheVariants.{UnknownOffer, UnknownBooking, OfferTooOld}
use Rattle.osdm_json.specs.declared.command.Command.{Command}
use Rattle.osdm_json.specs.declared.command.Command.TheVariants as command
use Rattle.service_rules.specs.Ordered as order

-- a code made at this moment, or that it is too old
abbrev pub aged : {A : Type 0} → ℕ → ℕ → A → Result A Problem
aged made now code = if nat_lt (made + valid_seconds) now then Err (OfferTooOld made now) else Ok code

-- a code that isn't known, or was made after now, is unknown
abbrev pub checked : {A : Type 0} → Bool → ℕ → ℕ → A → Result A Problem
checked known made now code = if known && nat_le made now then aged made now code else Err UnknownOffer

-- an offer of the catalogue
abbrev pub offer_checked : CatalogueView → ℕ → Option OfferCode → Result OfferCode Problem
offer_checked cat now None = Err UnknownOffer
offer_checked cat now (Some c) = checked (is_offered cat (offer_view c)) c.made now c

-- an id that is no spelling is of no booking
abbrev pub row_checked : Option RowNo → Result RowNo Problem
row_checked row = ok_or row UnknownBooking

-- the id spells this booking's row and generation
abbrev pub is_of_row : Option RowNo → RowNo → Bool
is_of_row None row = false
is_of_row (Some id) row = id.row == row.row && id.generation == row.generation

-- a quote of a refund, under the id of the quote's row
abbrev pub refund_checked : ℕ → Option RowNo → Option RefundCode → Result RefundCode Problem
refund_checked now row None = Err UnknownOffer
refund_checked now row (Some c) = checked (is_of_row row c.row) c.made now c

-- the quote's offer is one of the catalogue, and was good when the quote was made
abbrev pub is_quoted : CatalogueView → ExchangeCode → Bool
is_quoted cat c =
    is_offered cat (offer_view c.offer) && (nat_le c.offer.made c.made && nat_le c.made (c.offer.made + valid_seconds))

-- a quote of an exchange, under the id of the quote's row
abbrev pub exchange_checked : CatalogueView → ℕ → Option RowNo → Option ExchangeCode → Result ExchangeCode Problem
exchange_checked cat now row None = Err UnknownOffer
exchange_checked cat now row (Some c) = checked (is_of_row row c.row && is_quoted cat c) c.made now c

-- what is ordered by what was checked
abbrev pub and_then : {A : Type 0} → Result A Problem → (A → Result order.Ordered Problem)
    → Result order.Ordered Problem
and_then (Err p) next = Err p
and_then (Ok a) next = next a

-- what a command orders, or its problem
abbrev pub ordered : CatalogueView → ℕ → Command → Result order.Ordered Problem
ordered cat now (command.Offers trip adults children class wanted) =
    Ok (order.offers (record { trip = trip; adults = adults; children = children; class = class; wanted = wanted }))
ordered cat now (command.Book offer together) = and_then (offer_checked cat now offer) (λ c. Ok (order.book c together))
ordered cat now (command.Reserve segment class count wanted together) =
    Ok (order.reserve (record {
      segment = segment;
      class = class;
      count = count;
      traits = wanted;
      together = together;
    }))
ordered cat now (command.Show row) = and_then (row_checked row) (λ r. Ok (order.show r))
ordered cat now (command.Release row) = and_then (row_checked row) (λ r. Ok (order.release r))
ordered cat now (command.Confirm row) = and_then (row_checked row) (λ r. Ok (order.confirm r))
ordered cat now (command.Fulfil row) = and_then (row_checked row) (λ r. Ok (order.fulfil r))
ordered cat now (command.QuoteRefund row) = and_then (row_checked row) (λ r. Ok (order.quote_refund r))
ordered cat now (command.AcceptRefund row code) =
    and_then (refund_checked now row code) (λ c. Ok (order.accept_refund c))
ordered cat now (command.QuoteExchange row offer) =
    and_then (offer_checked cat now offer) (λ c. and_then (row_checked row) (λ r. Ok (order.quote_exchange r c)))
ordered cat now (command.AcceptExchange row code) =
    and_then (exchange_checked cat now row code) (λ c. Ok (order.accept_exchange c))
ordered cat now (command.Places segment) = Ok (order.places segment)
ordered cat now command.Sweep = Ok order.sweep

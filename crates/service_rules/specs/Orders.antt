-- Orders, and what holds of each that a command is read as.
use Rattle.std.specs.Prelude.{◌≡◌, ◌≤◌, ℕ, ◌+◌, true, Result, Ok, Err}
use Rattle.offer_codes.specs.Offers.{offer_view, is_party, is_offer, valid_seconds}
use Rattle.offer_codes.specs.Refunds.{is_refund}
use Rattle.offer_codes.specs.Exchanges.{exchange_view, is_exchange}
use Rattle.catalogue_contents.specs.Contents.{CatalogueView}
use Rattle.offer_engine.specs.Codes.{is_offered}
use Rattle.osdm_parts.specs.declared.problem.Problem.{Problem}
use Rattle.osdm_json.specs.Readable.{IsWithinRun}
use Rattle.service_rules.specs.declared.order.Order.{Order}
use Rattle.service_rules.specs.declared.order.Order.TheVariants as rust
use Rattle.service_rules.specs.Ordered as order

abbrev pub order_view : Order → order.Ordered
order_view (rust.Offers wish) = order.offers wish
order_view (rust.Book offer together) = order.book offer.now together
order_view (rust.Reserve reservation) = order.reserve reservation
order_view (rust.Show row) = order.show row
order_view (rust.Release row) = order.release row
order_view (rust.Confirm row) = order.confirm row
order_view (rust.Fulfil row) = order.fulfil row
order_view (rust.QuoteRefund row) = order.quote_refund row
order_view (rust.AcceptRefund code) = order.accept_refund code
order_view (rust.QuoteExchange row offer) = order.quote_exchange row offer.now
order_view (rust.AcceptExchange code) = order.accept_exchange code.now
order_view (rust.Places segment) = order.places segment
order_view rust.Sweep = order.sweep

-- an order, or a problem, is this
abbrev pub IsOrder : Result Order Problem → Result order.Ordered Problem → Type 0
IsOrder (Ok o) is = is ≡ Ok (order_view o)
IsOrder (Err p) is = is ≡ Err p

-- a code of this moment is of no later one than now, and hasn't grown too old
abbrev pub IsFresh : ℕ → ℕ → Type 0
IsFresh made now = (made ≤ now) × (now ≤ made + valid_seconds)

-- its numbers are in their ranges, what it names of the catalogue is there, and its code is fresh
abbrev pub IsSoundOrder : CatalogueView → ℕ → order.Ordered → Type 0
IsSoundOrder cat now (order.offers w) = (is_party w.adults w.children ≡ true) × (w.wanted ≤ 31)
IsSoundOrder cat now (order.book c together) =
    (is_offer (offer_view c) ≡ true) × (is_offered cat (offer_view c) ≡ true) × IsFresh c.made now
IsSoundOrder cat now (order.reserve r) = IsWithinRun cat r.segment × (1 ≤ r.count) × (r.count ≤ 8) × (r.traits ≤ 31)
IsSoundOrder cat now (order.accept_refund c) = (is_refund c ≡ true) × IsFresh c.made now
IsSoundOrder cat now (order.quote_exchange row c) =
    (is_offer (offer_view c) ≡ true) × (is_offered cat (offer_view c) ≡ true) × IsFresh c.made now
IsSoundOrder cat now (order.accept_exchange c) =
    (is_exchange (exchange_view c) ≡ true) × (is_offered cat (offer_view c.offer) ≡ true) × IsFresh c.made now
IsSoundOrder cat now (order.places s) = IsWithinRun cat s
IsSoundOrder cat now o = Unit {0}

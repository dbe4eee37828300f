-- The law of all orders, and of all commands.
use Rattle.std.proofs.Common.{◌≡◌, ℕ, ◌+◌, ◌≤◌, Bool, true, false, cond, Option, Some, None, Ok, Err, refl}
use Rattle.std.specs.Prelude.{Result, ◌&&◌, nat_le, nat_lt}
use Rattle.std.proofs.lemmas.Bool.{and_parts, leb-true, ltb-false}
use Rattle.rail_ids.specs.declared.RowNo.{RowNo}
use Rattle.offer_codes.specs.declared.code.RefundCode.{RefundCode}
use Rattle.offer_codes.specs.Offers.{valid_seconds}
use Rattle.catalogue_contents.specs.Contents.{CatalogueView}
use Rattle.osdm_parts.specs.declared.problem.Problem.{Problem}
use Rattle.osdm_parts.specs.declared.problem.Problem.TheVariants.{UnknownOffer, OfferTooOld}
use Rattle.osdm_json.specs.declared.command.Command.{Command}
use Rattle.osdm_json.specs.declared.command.Command.TheVariants as command
use Rattle.osdm_json.specs.Readable.{IsReadable}
use Rattle.service_rules.specs.Ordered as order
use Rattle.service_rules.specs.Checks.{aged, and_then, is_of_row, ordered}
use Rattle.service_rules.specs.Orders.{IsSoundOrder}
use Rattle.service_rules.proofs.Sound.{sound_order}
use Rattle.plain_host.specs.Plainly.{AnswersPlainly}
use Rattle.plain_host.proofs.Sweeps.{sweep_plain, refused_plain}
use Rattle.plain_host.proofs.Commands.{show_plain, confirm_plain, fulfil_plain, release_plain}
use Rattle.plain_host.proofs.Trades.{quote_refund_plain, accept_refund_plain, quote_exchange_plain}
use Rattle.plain_host.proofs.PlacesLaws.{book_plain, reserve_plain, offers_plain, places_plain}
use Rattle.plain_host.proofs.ExchangeLaws.{accept_exchange_plain}

order_plain : (cat : CatalogueView) (retailer now : ℕ) (o : order.Ordered) → IsSoundOrder cat now o → AnswersPlainly cat retailer now (Ok o)
order_plain cat retailer now (order.offers w) sound = offers_plain cat retailer now w
order_plain cat retailer now (order.book code together) sound = book_plain cat retailer now code together sound
order_plain cat retailer now (order.reserve r) sound = reserve_plain cat retailer now r sound
order_plain cat retailer now (order.show row) sound = show_plain cat retailer now row
order_plain cat retailer now (order.release row) sound = release_plain cat retailer now row
order_plain cat retailer now (order.confirm row) sound = confirm_plain cat retailer now row
order_plain cat retailer now (order.fulfil row) sound = fulfil_plain cat retailer now row
order_plain cat retailer now (order.quote_refund row) sound = quote_refund_plain cat retailer now row
order_plain cat retailer now (order.accept_refund code) sound = accept_refund_plain cat retailer now code sound.1
order_plain cat retailer now (order.quote_exchange row code) sound = quote_exchange_plain cat retailer now row code
order_plain cat retailer now (order.accept_exchange code) sound = accept_exchange_plain cat retailer now code sound
order_plain cat retailer now (order.places segment) sound = places_plain cat retailer now segment sound
order_plain cat retailer now order.sweep sound = sweep_plain cat retailer now

pub command_plain : (cat : CatalogueView) (retailer now : ℕ) (c : Command) → IsReadable cat c → AnswersPlainly cat retailer now (ordered cat now c)
command_plain cat retailer now c readable = go (ordered cat now c) refl where
  go : (o : Result order.Ordered Problem) → ordered cat now c ≡ o → AnswersPlainly cat retailer now o
  go (Err p) is = refused_plain cat retailer now p
  go (Ok o) is = order_plain cat retailer now o (sound_order cat now c o readable is)

-- a refund by a quote of any making: what is unknown or too old is refused, and what is fresh ordered
abbrev RefundsBy : CatalogueView → ℕ → ℕ → Result RefundCode Problem → Type 0
RefundsBy cat retailer now r = AnswersPlainly cat retailer now (and_then r (λ c. Ok (order.accept_refund c)))

pub refund_command_plain : (cat : CatalogueView) (retailer now : ℕ) (row : Option RowNo) (code : Option RefundCode) → AnswersPlainly cat retailer now (ordered cat now (command.AcceptRefund row code))
refund_command_plain cat retailer now row None = refused_plain cat retailer now UnknownOffer
refund_command_plain cat retailer now row (Some code) = go (is_of_row row code.row && nat_le code.made now) refl where
  young : (t : Bool) → nat_lt (code.made + valid_seconds) now ≡ t → code.made ≤ now → RefundsBy cat retailer now (cond t (Err (OfferTooOld code.made now)) (Ok code))
  young true late made = refused_plain cat retailer now (OfferTooOld code.made now)
  young false late made = accept_refund_plain cat retailer now code (made, ltb-false (code.made + valid_seconds) now late)

  go : (t : Bool) → (is_of_row row code.row && nat_le code.made now) ≡ t → RefundsBy cat retailer now (cond t (aged code.made now code) (Err UnknownOffer))
  go false e = refused_plain cat retailer now UnknownOffer
  go true e =
      young (nat_lt (code.made + valid_seconds) now) refl
      (leb-true code.made now (and_parts (is_of_row row code.row) (nat_le code.made now) e).1)

-- What each route asks, and the command that it is.
use Rattle.std.specs.Prelude.{◌≡◌, ◌≢◌, ℕ, nat_lt, nat_le, ◌^◌, ◌&&◌, Bool, true, false, if◌then◌else◌, List, Option, Some, None, option_map, Result, Ok, Err}
use Rattle.serde_json.specs.Data.{Data, null}
use Rattle.rail_ids.specs.declared.RowNo.{RowNo}
use Rattle.rail_ids.specs.Spelling.{booking_id_text, last_generation}
use Rattle.offer_codes.specs.declared.code.OfferCode.{OfferCode}
use Rattle.offer_codes.specs.declared.code.RefundCode.{RefundCode}
use Rattle.offer_codes.specs.declared.code.ExchangeCode.{ExchangeCode}
use Rattle.offer_codes.specs.Offers.{offer_view, is_offer, offer_text}
use Rattle.offer_codes.specs.Refunds.{is_refund, refund_text}
use Rattle.offer_codes.specs.Exchanges.{exchange_view, is_exchange, exchange_text}
use Rattle.rail_catalogue.specs.Json.{json_of}
use Rattle.catalogue_contents.specs.Contents.{CatalogueView}
use Rattle.osdm_json.specs.declared.route.Route.{Route}
use Rattle.osdm_json.specs.declared.route.Route.TheVariants as route
use Rattle.osdm_json.specs.declared.command.Command.{Command}
use Rattle.osdm_json.specs.declared.command.Command.TheVariants as command
use Rattle.osdm_json.specs.declared.fault.BodyFault.{BodyFault}
use Rattle.osdm_json.specs.Asked.{Asked, offers, book, reserve, show, release, confirm, fulfil, quote_refund, accept_refund, quote_exchange, accept_exchange, places, sweep}
use Rattle.osdm_json.specs.Members.{in_object}
use Rattle.osdm_json.specs.OfferBodies.{offers_of}
use Rattle.osdm_json.specs.OrderBodies.{reserve_of, places_of}
use Rattle.osdm_json.specs.IdBodies.{fulfil_of, accept_refund_of, book_of, quote_exchange_of, accept_exchange_of}
use Rattle.osdm_json.specs.declared.fault.BodyFault.TheVariants.{NoMemory}

-- what a route asks with this object as its body, or the first fault; a route that has no body lets it be
abbrev pub asked_in : CatalogueView → Route → Data → Result Asked BodyFault
asked_in cat route.Offers d = offers_of cat d
asked_in cat route.Book d = book_of d
asked_in cat route.Reserve d = reserve_of cat d
asked_in cat (route.Show id) d = Ok (show id.now)
asked_in cat (route.Release id) d = Ok (release id.now)
asked_in cat (route.Confirm id) d = Ok (confirm id.now)
asked_in cat (route.Fulfil id) d = fulfil_of id.now d
asked_in cat (route.QuoteRefund id) d = Ok (quote_refund id.now)
asked_in cat (route.AcceptRefund id offer) d = accept_refund_of id.now offer.now d
asked_in cat route.QuoteExchange d = quote_exchange_of d
asked_in cat (route.AcceptExchange id) d = accept_exchange_of id.now d
asked_in cat (route.Places run start end) d = places_of cat run.now start.now end.now
asked_in cat route.Sweep d = Ok sweep

abbrev pub has_body : Route → Bool
has_body route.Offers = true
has_body route.Book = true
has_body route.Reserve = true
has_body (route.Show id) = false
has_body (route.Release id) = false
has_body (route.Confirm id) = false
has_body (route.Fulfil id) = true
has_body (route.QuoteRefund id) = false
has_body (route.AcceptRefund id offer) = true
has_body route.QuoteExchange = true
has_body (route.AcceptExchange id) = true
has_body (route.Places run start end) = false
has_body route.Sweep = false

-- what a route asks with these bytes as its body
abbrev pub asked_by : CatalogueView → Route → List ℕ → Result Asked BodyFault
asked_by cat route body =
    if has_body route then in_object (json_of body) (asked_in cat route) else asked_in cat route null

-- the body is this object
abbrev pub IsObject : List ℕ → Data → Type 0
IsObject body d = (next : Data → Result Asked BodyFault) → in_object (json_of body) next ≡ next d

-- the body is no object, for this fault, unless memory ran out
abbrev pub IsNoObject : List ℕ → BodyFault → Type 0
IsNoObject body e = ¬ (e ≡ NoMemory) → (next : Data → Result Asked BodyFault) → in_object (json_of body) next ≡ Err e

-- the text is the one spelling of the value, or of none
abbrev pub Spells : {A : Type 0} → (A → Bool) → (A → List ℕ) → List ℕ → Option A → Type 0
Spells valid spell text (Some a) = (valid a ≡ true) × (text ≡ spell a)
Spells valid spell text None = (a : _) → valid a ≡ true → text ≢ spell a

-- a row and a generation that ids have room for
abbrev pub is_named : RowNo → Bool
is_named row = nat_lt row.row (2 ^ 32) && nat_le row.generation last_generation

abbrev pub SpellsRow : List ℕ → Option RowNo → Type 0
SpellsRow text row = Spells is_named (λ r. booking_id_text r.row r.generation) text row

abbrev pub SpellsOffer : List ℕ → Option OfferCode → Type 0
SpellsOffer text offer = Spells is_offer offer_text text (option_map offer_view offer)

abbrev pub SpellsRefund : List ℕ → Option RefundCode → Type 0
SpellsRefund text code = Spells is_refund refund_text text code

abbrev pub SpellsExchange : List ℕ → Option ExchangeCode → Type 0
SpellsExchange text code = Spells is_exchange exchange_text text (option_map exchange_view code)

-- the command is what was asked, with the ids and codes that the texts spell
abbrev pub Asks : Result Asked BodyFault → Command → Type 0
Asks asked (command.Offers trip adults children class wanted) = asked ≡ Ok (offers trip adults children class wanted)
Asks asked (command.Book offer together) = (text : List ℕ) × (asked ≡ Ok (book text together)) × SpellsOffer text offer
Asks asked (command.Reserve segment class count wanted together) =
    asked ≡ Ok (reserve segment class count wanted together)
Asks asked (command.Show row) = (text : List ℕ) × (asked ≡ Ok (show text)) × SpellsRow text row
Asks asked (command.Release row) = (text : List ℕ) × (asked ≡ Ok (release text)) × SpellsRow text row
Asks asked (command.Confirm row) = (text : List ℕ) × (asked ≡ Ok (confirm text)) × SpellsRow text row
Asks asked (command.Fulfil row) = (text : List ℕ) × (asked ≡ Ok (fulfil text)) × SpellsRow text row
Asks asked (command.QuoteRefund row) = (text : List ℕ) × (asked ≡ Ok (quote_refund text)) × SpellsRow text row
Asks asked (command.AcceptRefund row code) =
    (id offer : List ℕ) × (asked ≡ Ok (accept_refund id offer)) × SpellsRow id row × SpellsRefund offer code
Asks asked (command.QuoteExchange row offer) =
    (id text : List ℕ) × (asked ≡ Ok (quote_exchange id text)) × SpellsRow id row × SpellsOffer text offer
Asks asked (command.AcceptExchange row code) =
    (id offer : List ℕ) × (asked ≡ Ok (accept_exchange id offer)) × SpellsRow id row × SpellsExchange offer code
Asks asked (command.Places segment) = asked ≡ Ok (places segment)
Asks asked command.Sweep = asked ≡ Ok sweep

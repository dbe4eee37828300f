-- What a host of one thread answers to each command, and leaves.
use Rattle.std.specs.Prelude.{ℕ, ◌==◌, ℤ, pos, negsuc, Bool, false, ◌&&◌, ◌||◌, nat_lt, nat_le, List, map, count_by, Option, Some, None, Result, Ok, Err, if◌then◌else◌}
use Rattle.leg_masks.specs.Interval.{PlacedSpan as Item}
use Rattle.rail_ids.specs.declared.PlaceNo.{PlaceNo}
use Rattle.rail_ids.specs.declared.RowNo.{RowNo}
use Rattle.history_model.specs.Booking.{successor_word}
use Rattle.history_model.specs.declared.phase.Phase.TheVariants as phase
use Rattle.history_model.specs.declared.phase.EndKind.TheVariants as kind
use Rattle.history_model.specs.WholeEnds.{end_at}
use Rattle.booking_rows.specs.Views.{RowSeen}
use Rattle.booking_rows.specs.Aims.{end_of}
use Rattle.booking_rows.specs.declared.turns.Aim.TheVariants as aim
use Rattle.train_runs.specs.declared.segment.Segment.{Segment}
use Rattle.offer_codes.specs.declared.code.OfferCode.{OfferCode}
use Rattle.offer_codes.specs.declared.code.RefundCode.{RefundCode}
use Rattle.offer_codes.specs.declared.code.ExchangeCode.{ExchangeCode}
use Rattle.offer_codes.specs.declared.code.Offer.{Offer}
use Rattle.offer_codes.specs.Offers.{OfferView, offer_view}
use Rattle.offer_codes.specs.Exchanges.{ExchangeView, exchange_view}
use Rattle.catalogue_contents.specs.Contents.{CatalogueView}
use Rattle.trip_builder.specs.Trips.{trips_of}
use Rattle.offer_engine.specs.declared.wish.OfferWish.{OfferWish}
use Rattle.offer_prices.specs.Prices.{offer_price}
use Rattle.offer_engine.specs.Offers.{raised, code_for, wanted_places}
use Rattle.osdm_parts.specs.declared.problem.Problem.{Problem}
use Rattle.refund_core.specs.Quotes.{phase_named, refund_at}
use Rattle.exchange_core.specs.Exchanges.{difference_at}
use Rattle.osdm_parts.specs.declared.problem.Problem.TheVariants.{UnknownBooking, RowsFull, NoPlace, TooLate, WrongState, QuoteWrong}
use Rattle.osdm_texts.specs.Answers.{offer_list, created, booking, refund_offer, exchange_offer, exchanged, place_list, swept, problem}
use Rattle.osdm_json.specs.declared.command.Command.{Command}
use Rattle.booking_service.specs.Deciding.{in_phase, at_end}
use Rattle.osdm_texts.specs.Seen.{made_view}
use Rattle.reservation_service.specs.Reserving.{reserved, detail_of}
use Rattle.search_service.specs.Searching.{numbers_on}
use Rattle.service_rules.specs.Ordered as order
use Rattle.service_rules.specs.Checks.{ordered}
use Rattle.plain_host.specs.Plain.{Standing, Plain, Outcome, outcome, is_free, chosen, Choice, choice_for, keeping, own_view, is_in, with_view, with_new}

abbrev pub refusing : Problem → Plain → Outcome
refusing p plain = outcome (problem p) plain

-- booking

-- what is made in the row of the places found; without them the row is kept
abbrev pub placed : (Plain → RowNo → List Item → Outcome) → Choice → Option (List Item) → Outcome
placed makes c None = refusing NoPlace (keeping c)
placed makes c (Some items) = makes (keeping c) c.row items

abbrev pub placed_in : CatalogueView → OfferView → Bool → (Plain → RowNo → List Item → Outcome) → Plain → Option Choice
    → Outcome
placed_in cat o together makes plain None = refusing RowsFull plain
placed_in cat o together makes plain (Some c) = placed makes c (chosen cat c.left o together o.segments)

-- what is made in the row of a new booking, of the offer's places
abbrev pub with_places_for : CatalogueView → OfferView → Bool → (Plain → RowNo → List Item → Outcome) → Plain → Outcome
with_places_for cat o together makes plain = placed_in cat o together makes plain (choice_for cat.rows plain)

abbrev pub prebooked : CatalogueView → ℕ → ℕ → OfferView → Plain → RowNo → List Item → Outcome
prebooked cat retailer now o plain row items =
    let v = made_view phase.Prebooked (detail_of cat o retailer now) items in
    outcome (created row v) (with_new plain row v)

abbrev pub booked : CatalogueView → ℕ → ℕ → OfferView → Bool → Plain → Outcome
booked cat retailer now o together plain = with_places_for cat o together (prebooked cat retailer now o) plain

-- what is done with a retailer's booking

abbrev pub on_view : (RowSeen → Outcome) → Plain → Option RowSeen → Outcome
on_view does plain None = refusing UnknownBooking plain
on_view does plain (Some v) = does v

abbrev pub on_own : Plain → RowNo → ℕ → (RowSeen → Outcome) → Outcome
on_own plain row retailer does = on_view does plain (own_view plain row retailer)

abbrev pub shown : RowNo → Plain → RowSeen → Outcome
shown row plain v = outcome (booking row v) plain

abbrev pub changed_to : Plain → RowNo → RowSeen → Outcome
changed_to plain row v = outcome (booking row v) (with_view plain row v)

abbrev pub wrong : Plain → RowSeen → Outcome
wrong plain v = refusing (WrongState v.phase) plain

-- before the limit, and at it
abbrev pub confirmed_by : RowNo → ℕ → Plain → RowSeen → Outcome
confirmed_by row now plain v =
    if nat_lt v.limit now then refusing (TooLate v.limit now) plain
    else changed_to plain row (in_phase phase.Confirmed v)

abbrev pub confirmed : RowNo → ℕ → Plain → RowSeen → Outcome
confirmed row now plain v = if is_in phase.Prebooked v then confirmed_by row now plain v else wrong plain v

abbrev pub fulfilled : RowNo → Plain → RowSeen → Outcome
fulfilled row plain v =
    if is_in phase.Confirmed v then changed_to plain row (in_phase phase.Fulfilled v) else wrong plain v

abbrev pub released : RowNo → ℕ → Plain → RowSeen → Outcome
released row now plain v =
    if is_in phase.Prebooked v then changed_to plain row (at_end kind.Release (end_of (aim.Release now)) v)
    else wrong plain v

-- refunds

abbrev pub is_quotable : RowSeen → Bool
is_quotable v = is_in phase.Confirmed v || is_in phase.Fulfilled v

abbrev pub is_fulfilled : RowSeen → Bool
is_fulfilled v = is_in phase.Fulfilled v

abbrev pub quoted_refund : CatalogueView → RowNo → ℕ → RowSeen → RefundCode
quoted_refund cat row now v =
    record { row = row; made = now; fulfilled = is_fulfilled v; amount = refund_at cat v now (is_fulfilled v) }

abbrev pub refund_quoted : CatalogueView → RowNo → ℕ → Plain → RowSeen → Outcome
refund_quoted cat row now plain v =
    if is_quotable v then outcome (refund_offer (quoted_refund cat row now v)) plain else wrong plain v

-- in the phase that the quote names
abbrev pub refunded_by : RefundCode → ℕ → Plain → RowSeen → Outcome
refunded_by code now plain v =
    if is_in (phase_named code.fulfilled) v
    then changed_to plain code.row (at_end kind.Refund (end_of (aim.Refund now code.amount)) v)
    else wrong plain v

abbrev pub refunded : CatalogueView → RefundCode → ℕ → Plain → RowSeen → Outcome
refunded cat code now plain v =
    if code.amount == refund_at cat v code.made code.fulfilled then refunded_by code now plain v
    else refusing QuoteWrong plain

-- exchanges

abbrev pub quoted_exchange : CatalogueView → RowNo → OfferCode → ℕ → RowSeen → ExchangeCode
quoted_exchange cat row offer now v =
    record {
      row = row;
      made = now;
      fulfilled = is_fulfilled v;
      difference = difference_at cat v now (is_fulfilled v) (offer_view offer);
      offer = offer;
    }

abbrev pub exchange_quoted : CatalogueView → RowNo → OfferCode → ℕ → Plain → RowSeen → Outcome
exchange_quoted cat row offer now plain v =
    if is_quotable v then outcome (exchange_offer (quoted_exchange cat row offer now v)) plain else wrong plain v

-- the old booking ends, and a new one stands in this row
abbrev pub exchanged_for : CatalogueView → ExchangeView → ℕ → ℕ → RowSeen → Plain → RowNo → List Item → Outcome
exchanged_for cat x retailer now v plain row items =
    let new = made_view phase.Confirmed (detail_of cat x.offer retailer now) items in
    let old = at_end kind.Exchange (end_at now x.difference (successor_word row.row row.generation)) v in
    outcome (exchanged row new x.difference x.row) (with_new (with_view plain x.row old) row new)

-- the places of the new booking are chosen while the old one has its own
abbrev pub exchanged_by : CatalogueView → ExchangeView → ℕ → ℕ → Plain → RowSeen → Outcome
exchanged_by cat x retailer now plain v =
    if is_in (phase_named x.fulfilled) v
    then with_places_for cat x.offer false (exchanged_for cat x retailer now v) plain
    else wrong plain v

abbrev pub is_same : ℤ → ℤ → Bool
is_same (pos a) (pos b) = a == b
is_same (negsuc a) (negsuc b) = a == b
is_same a b = false

abbrev pub exchanged_with : CatalogueView → ExchangeView → ℕ → ℕ → Plain → RowSeen → Outcome
exchanged_with cat x retailer now plain v =
    if is_same x.difference (difference_at cat v x.made x.fulfilled x.offer)
    then exchanged_by cat x retailer now plain v
    else refusing QuoteWrong plain

-- sweeping

abbrev pub is_late : ℕ → Standing → Bool
is_late now b = is_in phase.Prebooked b.view && nat_lt b.view.limit now

abbrev pub is_waiting : ℕ → Standing → Bool
is_waiting now b = is_in phase.Prebooked b.view && nat_le now b.view.limit

abbrev pub swept_one : ℕ → Standing → Standing
swept_one now b =
    if is_late now b then record { row = b.row; view = at_end kind.Expire (end_of (aim.Expire now)) b.view } else b

abbrev pub swept_all : ℕ → Plain → Outcome
swept_all now plain =
    outcome
    (swept (record {
      expired = count_by (is_late now) plain.bookings;
      lost = 0;
      waiting = count_by (is_waiting now) plain.bookings;
    }))
    (record { bookings = map (swept_one now) plain.bookings; kept = plain.kept })

-- searching

-- the code that contracts see so
abbrev pub code_of : OfferView → OfferCode
code_of o =
    record {
      made = o.made;
      adults = o.adults;
      children = o.children;
      class = o.class;
      wanted = o.wanted;
      segments = record { items = o.segments };
    }

-- how many of the segment's wanted places are free on it
abbrev pub free_in : CatalogueView → Plain → OfferWish → Segment → ℕ
free_in cat plain w s = count_by (λ (p : PlaceNo). is_free plain.bookings s.span p.0) (wanted_places cat w s)

abbrev pub offer_on : CatalogueView → Plain → OfferWish → ℕ → List Segment → Offer
offer_on cat plain w now trip =
    let o = code_for w now trip in
    record { code = code_of o; price = offer_price cat o; free = record { items = map (free_in cat plain w) trip } }

abbrev pub offered : CatalogueView → Plain → OfferWish → ℕ → List Offer
offered cat plain w now = map (offer_on cat plain w now) (trips_of cat.runs (raised w.trip now))

abbrev pub listed : CatalogueView → Plain → Segment → Outcome
listed cat plain s =
    outcome (place_list s.run.0 (map (λ (p : PlaceNo). is_free plain.bookings s.span p.0) (numbers_on cat s.run.0)))
    plain

-- the outcome of an order
abbrev pub performed : CatalogueView → ℕ → ℕ → order.Ordered → Plain → Outcome
performed cat retailer now (order.offers wish) plain = outcome (offer_list (offered cat plain wish now)) plain
performed cat retailer now (order.book code together) plain = booked cat retailer now (offer_view code) together plain
performed cat retailer now (order.reserve r) plain =
    booked cat retailer now (reserved r.segment r.class r.count r.traits now) r.together plain
performed cat retailer now (order.show row) plain = on_own plain row retailer (shown row plain)
performed cat retailer now (order.release row) plain = on_own plain row retailer (released row now plain)
performed cat retailer now (order.confirm row) plain = on_own plain row retailer (confirmed row now plain)
performed cat retailer now (order.fulfil row) plain = on_own plain row retailer (fulfilled row plain)
performed cat retailer now (order.quote_refund row) plain = on_own plain row retailer (refund_quoted cat row now plain)
performed cat retailer now (order.accept_refund code) plain =
    on_own plain code.row retailer (refunded cat code now plain)
performed cat retailer now (order.quote_exchange row code) plain =
    on_own plain row retailer (exchange_quoted cat row code now plain)
performed cat retailer now (order.accept_exchange code) plain =
    on_own plain code.row retailer (exchanged_with cat (exchange_view code) retailer now plain)
performed cat retailer now (order.places segment) plain = listed cat plain segment
performed cat retailer now order.sweep plain = swept_all now plain

-- refused by its codes and ids, or performed
abbrev pub outcome_by : CatalogueView → ℕ → ℕ → Result order.Ordered Problem → Plain → Outcome
outcome_by cat retailer now (Err p) plain = refusing p plain
outcome_by cat retailer now (Ok o) plain = performed cat retailer now o plain

-- what the host answers to a retailer's command at this moment, and leaves
abbrev pub outcome_of : CatalogueView → ℕ → ℕ → Command → Plain → Outcome
outcome_of cat retailer now c plain = outcome_by cat retailer now (ordered cat now c) plain

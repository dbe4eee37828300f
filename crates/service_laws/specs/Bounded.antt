-- How many steps a command has at most, whatever other desks do meanwhile.
use Rattle.std.specs.Prelude.{◌≡◌, ℕ, ◌+◌, ◌*◌, Bool, true, false, List, [], ◌∷◌, length, Result, Ok, Err}
use Rattle.history_model.specs.Booking.{most_items}
use Rattle.claim_rule.specs.Rule.{BooksView, DeskView}
use Rattle.claim_rule.specs.Desks.{AddsAtMost, IsOf}
use Rattle.booking_rows.specs.Views.{other_looks}
use Rattle.catalogue_contents.specs.Contents.{CatalogueView}
use Rattle.train_runs.specs.declared.segment.Segment.{Segment}
use Rattle.offer_codes.specs.Offers.{OfferView, offer_view}
use Rattle.offer_codes.specs.Exchanges.{exchange_view}
use Rattle.hold_core.specs.Places.{most_entries}
use Rattle.reservation_service.specs.Holding.{candidates_in}
use Rattle.reservation_service.specs.Reserving.{reserved}
use Rattle.trip_builder.specs.Trips.{trips_of}
use Rattle.offer_engine.specs.Offers.{raised, wanted_places}
use Rattle.offer_engine.specs.declared.wish.OfferWish.{OfferWish}
use Rattle.osdm_texts.specs.Answers.{Reply}
use Rattle.osdm_parts.specs.declared.problem.Problem.{Problem}
use Rattle.search_service.specs.Searching.{numbers_on}
use Rattle.service_rules.specs.Ordered as order
use Rattle.service_rules.specs.Performing.{Performs}

-- the looks at a booking; a turn to an end, with all that follows it; and a sweep of one row
abbrev pub looks_most : ℕ
looks_most = most_items + other_looks

abbrev pub ends_most : ℕ
ends_most = 2 * most_items + 6

abbrev pub sweep_most : ℕ
sweep_most = 2 * most_items + 9

-- how many places the segments of trips have that the wish may have
abbrev pub wanted_on : CatalogueView → OfferWish → List Segment → ℕ
wanted_on cat wish [] = 0
wanted_on cat wish (s ∷ rest) = length (wanted_places cat wish s) + wanted_on cat wish rest

abbrev pub wanted_in : CatalogueView → OfferWish → List (List Segment) → ℕ
wanted_in cat wish [] = 0
wanted_in cat wish (trip ∷ rest) = wanted_on cat wish trip + wanted_in cat wish rest

-- a search for a row that can be started
abbrev pub starts_most : ℕ → ℕ
starts_most rows = 3 * rows + 2

-- how many places the segments of an offer have to choose from
abbrev pub candidates_on : CatalogueView → OfferView → List Segment → ℕ
candidates_on cat o [] = 0
candidates_on cat o (s ∷ rest) = length (candidates_in cat o s) + candidates_on cat o rest

-- Taking places of a segment, out of this many. A party that wants to sit together searches again where a place was
-- lost to another, from the one after it on: so it tries no more often than there are places
abbrev pub takes_most : Bool → ℕ → ℕ
takes_most false places = most_entries * places
takes_most true places = 24 * (places * places) + 22 * places

abbrev pub segment_most : CatalogueView → OfferView → Bool → Segment → ℕ
segment_most cat o together s = takes_most together (length (candidates_in cat o s))

abbrev pub placed_most : CatalogueView → OfferView → Bool → List Segment → ℕ
placed_most cat o together [] = 0
placed_most cat o together (s ∷ rest) = segment_most cat o together s + placed_most cat o together rest

-- a new booking of the offer: a row, the places, and the detail with the seal, or all places given back
abbrev pub booked_most : CatalogueView → OfferView → Bool → ℕ
booked_most cat o together =
    starts_most cat.rows + placed_most cat o together o.segments + (2 * candidates_on cat o o.segments + 5)

-- How many steps an order has at most. A search looks once at each piece of a span at each place, and a span has at
-- most two pieces. An exchange looks at the old booking, makes the new one, and ends the old one
abbrev pub most_steps : CatalogueView → ℕ → order.Ordered → ℕ
most_steps cat now (order.offers wish) = 2 * wanted_in cat wish (trips_of cat.runs (raised wish.trip now))
most_steps cat now (order.book code together) = booked_most cat (offer_view code) together
most_steps cat now (order.reserve r) = booked_most cat (reserved r.segment r.class r.count r.traits now) r.together
most_steps cat now (order.show row) = looks_most
most_steps cat now (order.release row) = looks_most + (ends_most + 3)
most_steps cat now (order.confirm row) = looks_most + 6
most_steps cat now (order.fulfil row) = looks_most + 6
most_steps cat now (order.quote_refund row) = looks_most
most_steps cat now (order.accept_refund code) = looks_most + (looks_most + ends_most)
most_steps cat now (order.quote_exchange row code) = looks_most
most_steps cat now (order.accept_exchange code) =
    looks_most + (booked_most cat (exchange_view code).offer false + (ends_most + 1))
most_steps cat now (order.places segment) = 2 * length (numbers_on cat segment.run.0)
most_steps cat now order.sweep = sweep_most * cat.rows

-- so a command ends within the steps of what it orders; one that is refused by its codes and ids makes none
abbrev pub EndsWithin : CatalogueView → ℕ → Result order.Ordered Problem → DeskView → DeskView → Type 0
EndsWithin cat now (Ok o) old new = AddsAtMost (most_steps cat now o) old new
EndsWithin cat now (Err p) old new = AddsAtMost 0 old new

-- whatever other desks do, the desk that performs an order adds no more entries than that
abbrev pub CommandsAreBounded : Type 0
CommandsAreBounded =
    (cat : CatalogueView) (books : BooksView) (retailer now : ℕ) (o : order.Ordered) (reply : Reply)
    (old new : DeskView)
    → IsOf books old → cat.rows ≡ books.layout.rows → Performs cat retailer now o old new reply
    → AddsAtMost (most_steps cat now o) old new

-- Every answer is a list of the desk's own steps.
use Rattle.std.proofs.Common.{◌≡◌, ℕ, Bool, false, List, [], ◌++◌, Ok, Err, sym, subst, inl, inr}
use Rattle.std.specs.Prelude.{Result}
use Rattle.leg_masks.specs.Interval.{PlacedSpan as Item}
use Rattle.train_runs.specs.declared.segment.Segment.{Segment}
use Rattle.offer_codes.specs.Offers.{OfferView, offer_view}
use Rattle.offer_codes.specs.Exchanges.{ExchangeView, exchange_view}
use Rattle.booking_rows.specs.declared.notes.Detail.{Detail}
use Rattle.exchange_core.specs.Ready.{ReadyView}
use Rattle.trade_service.specs.Refunds.{RefundsFound}
use Rattle.trade_service.specs.Exchanges.{DecidesOrNot, CarriesOut, AnswersAcceptedExchange, ready_of}
use Rattle.history_model.specs.declared.entry.Step.{Step}
use Rattle.history_model.specs.History.{IsLegal}
use Rattle.claim_rule.specs.Rule.{DeskView}
use Rattle.claim_rule.specs.Desks.{AddsSteps}
use Rattle.claim_rule.specs.Calls.{Calls, AddsStepsBy}
use Rattle.claim_rule.proofs.Shapes.{shape_then, shape_none}
use Rattle.rail_ids.specs.declared.RowNo.{RowNo}
use Rattle.catalogue_contents.specs.Contents.{CatalogueView}
use Rattle.booking_rows.specs.Views.{RowSeen}
use Rattle.osdm_parts.specs.declared.problem.Problem.{Problem}
use Rattle.osdm_texts.specs.Answers.{Reply}
use Rattle.booking_service.specs.Deciding.{Replying, OnBooking, shows, ConfirmsFound, FulfilsFound, ReleasesFound}
use Rattle.reservation_service.specs.declared.holding.Placing.{Placing}
use Rattle.reservation_service.specs.Holding.{HoldsPlaces}
use Rattle.reservation_service.specs.Reserving.{reserved, FailsToHold, Reserves}
use Rattle.reservation_service.proofs.Adding.{places_only}
use Rattle.search_service.specs.Searching.{SearchesOffers, ListsPlaces}
use Rattle.service_rules.specs.Ordered as order
use Rattle.service_rules.specs.Performing.{Performs}
use Rattle.service_rules.specs.Answering.{AnswersBy}

-- one list of the desk's own steps, and nothing else of it
abbrev pub Own : DeskView → DeskView → Type 0
Own old new = (steps : List Step) × AddsSteps old new steps

own_by : (P : Calls) (old new : DeskView) → AddsStepsBy P old new → Own old new
own_by P old new s = (s.0, s.2)

pub own_then : (a b c : DeskView) → Own a b → Own b c → Own a c
own_then a b c p q = (p.0 ++ q.0, shape_then a b c p.0 q.0 p.1 q.1)

pub own_same : (a b : DeskView) → IsLegal a.layout a.seen → b ≡ a → Own a b
own_same a b legal e = ([], subst (λ (d : DeskView). AddsSteps a d []) (sym e) (shape_none a legal))

abbrev Anything : Step → Type 0
Anything st = Unit {0}

holds_own : (cat : CatalogueView) (o : OfferView) (together : Bool) (segments : List Segment) (row : RowNo) (placing : Placing) (items : List Item) (old new : DeskView)
    → HoldsPlaces cat o together segments row placing items old new → Own old new
holds_own cat o together segments row placing items old new (mid, start, placed) =
    own_then old mid new (own_by _ old mid start) (own_by _ mid new
    (places_only Anything cat o together row [] segments placing items mid new (record { look = λ place half shown. tt; take = λ place span. tt; note = λ word value. tt; give = λ item. tt }) start.2.legal placed))

fails_own : (cat : CatalogueView) (o : OfferView) (together : Bool) (old new : DeskView) (reply : Reply) → FailsToHold cat o together old new reply → Own old new
fails_own cat o together old new reply (inl (none, eq)) = own_by _ old new none
fails_own cat o together old new reply (inr (row, placing, reason, items, mid, holds, short, gives, eq)) =
    own_then old mid new (holds_own cat o together o.segments row placing items old mid holds) (_, gives)

reserves_own : (cat : CatalogueView) (retailer now : ℕ) (o : OfferView) (together : Bool) (old new : DeskView) (reply : Reply) → Reserves cat retailer now o together old new reply → Own old new
reserves_own cat retailer now o together old new reply (inl (row, items, mid, holds, seals, eq)) =
    own_then old mid new (holds_own cat o together o.segments row _ items old mid holds) (_, seals)
reserves_own cat retailer now o together old new reply (inr (inl fails)) = fails_own cat o together old new reply fails
reserves_own cat retailer now o together old new reply (inr (inr ((row, items, mid, holds, gives), eq))) =
    own_then old mid new (holds_own cat o together o.segments row _ items old mid holds) (_, gives)

-- what a look at a booking leads to
module _ (Does : RowSeen → Replying) (does_own : (v : RowSeen) (old new : DeskView) (reply : Reply) → IsLegal old.layout old.seen → Does v old new reply → Own old new) where
  on_booking : (rows : ℕ) (row : RowNo) (retailer : ℕ) (old new : DeskView) (reply : Reply) → OnBooking rows row retailer Does old new reply → Own old new
  on_booking rows row retailer old new reply (inl (none, eq)) = own_by _ old new none
  on_booking rows row retailer old new reply (inr (v, mid, sees, inl did)) =
      own_then old mid new (own_by _ old mid sees) (does_own v mid new reply sees.2.legal did)
  on_booking rows row retailer old new reply (inr (v, mid, sees, inr (same, eq))) =
      own_then old mid new (own_by _ old mid sees) (own_same mid new sees.2.legal same)

searches_own : (cat : CatalogueView) (wish : _) (now : ℕ) (old new : DeskView) (reply : Reply) → SearchesOffers cat wish now old new reply → Own old new
searches_own cat wish now old new reply (inl (offers, did, told)) = own_by _ old new did
searches_own cat wish now old new reply (inr (did, eq)) = own_by _ old new did

lists_own : (cat : CatalogueView) (s : Segment) (old new : DeskView) (reply : Reply) → IsLegal old.layout old.seen → ListsPlaces cat s old new reply → Own old new
lists_own cat s old new reply legal (inl (free, did, told)) = own_by _ old new did
lists_own cat s old new reply legal (inr (same, eq)) = own_same old new legal same

pub decides_own : (ready : ReadyView) (row : RowNo) (items : List Item) (d : Detail) (old new : DeskView) (reply : Reply) → DecidesOrNot ready row items d old new reply → Own old new
decides_own ready row items d old new reply (inl (noted, notes, inl (made, difference, did, seals, is))) = own_then old noted new (_, notes) (own_by _ noted new did)
decides_own ready row items d old new reply (inl (noted, notes, inr (shown, hold, lost, did, gave, is))) =
    own_then old noted new (_, notes) (own_then noted lost new (own_by _ noted lost did) (_, gave))
decides_own ready row items d old new reply (inr (gave, is)) = (_, gave)

carries_own : (cat : CatalogueView) (ready : ReadyView) (old new : DeskView) (reply : Reply) → CarriesOut cat ready old new reply → Own old new
carries_own cat ready old new reply (inl fails) = fails_own cat ready.code.offer false old new reply fails
carries_own cat ready old new reply (inr (row, items, mid, places, did)) =
    own_then old mid new (holds_own cat ready.code.offer false ready.code.offer.segments row _ items old mid places) (decides_own ready row items _ mid new reply did)

exchanges_own : (cat : CatalogueView) (rows retailer : ℕ) (x : ExchangeView) (now : ℕ) (old new : DeskView) (reply : Reply) → AnswersAcceptedExchange cat rows retailer x now old new reply → Own old new
exchanges_own cat rows retailer x now old new reply (inl (a, p, did, un, is)) = own_by _ old new did
exchanges_own cat rows retailer x now old new reply (inr (mid, did, goes)) =
    own_then old mid new (own_by _ old mid did) (carries_own cat (ready_of retailer x now) mid new reply goes)

performs_own : (cat : CatalogueView) (retailer now : ℕ) (o : order.Ordered) (old new : DeskView) (reply : Reply) → IsLegal old.layout old.seen
    → Performs cat retailer now o old new reply → Own old new
performs_own cat retailer now (order.offers wish) old new reply legal did = searches_own cat wish now old new reply did
performs_own cat retailer now (order.book code together) old new reply legal did = reserves_own cat retailer now (offer_view code) together old new reply did
performs_own cat retailer now (order.reserve r) old new reply legal did =
    reserves_own cat retailer now (reserved r.segment r.class r.count r.traits now) r.together old new reply did
performs_own cat retailer now (order.show row) old new reply legal did =
    on_booking (shows row) (λ v a b r l is. own_same a b l is.0) cat.rows row retailer old new reply did
performs_own cat retailer now (order.release row) old new reply legal did =
    on_booking (ReleasesFound cat.rows row retailer now) (λ v a b r l is. own_by _ a b is.1) cat.rows row retailer old new reply did
performs_own cat retailer now (order.confirm row) old new reply legal did =
    on_booking (ConfirmsFound cat.rows row retailer now) (λ v a b r l is. own_by _ a b is.1) cat.rows row retailer old new reply did
performs_own cat retailer now (order.fulfil row) old new reply legal did =
    on_booking (FulfilsFound cat.rows row retailer) (λ v a b r l is. own_by _ a b is.1) cat.rows row retailer old new reply did
performs_own cat retailer now (order.quote_refund row) old new reply legal did = own_by _ old new did.1
performs_own cat retailer now (order.accept_refund code) old new reply legal did =
    on_booking (RefundsFound cat cat.rows retailer code now) (λ v a b r l is. own_by _ a b is.1) cat.rows code.row retailer old new reply did
performs_own cat retailer now (order.quote_exchange row code) old new reply legal did = own_by _ old new did.1
performs_own cat retailer now (order.accept_exchange code) old new reply legal did = exchanges_own cat cat.rows retailer (exchange_view code) now old new reply did
performs_own cat retailer now (order.places segment) old new reply legal did = lists_own cat segment old new reply legal did
performs_own cat retailer now order.sweep old new reply legal did = own_by _ old new did.1

pub answers_own : (cat : CatalogueView) (retailer now : ℕ) (o : Result order.Ordered Problem) (old new : DeskView) (reply : Reply) → IsLegal old.layout old.seen
    → AnswersBy cat retailer now o old new reply → Own old new
answers_own cat retailer now (Err p) old new reply legal did = (_, did.0)
answers_own cat retailer now (Ok o) old new reply legal did = performs_own cat retailer now o old new reply legal did

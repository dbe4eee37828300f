-- A request that there was no memory for changes no booking's fate.
use Rattle.std.proofs.Common.{◌≡◌, ◌∙◌, ℕ, suc, zero, Bool, true, false, List, [], ◌∷◌, ◌++◌, length, Option, Some, None, Ok, Err, refl, sym, ap, subst, inl, inr}
use Rattle.std.specs.Prelude.{Result}
use Rattle.leg_masks.specs.Interval.{PlacedSpan as Item}
use Rattle.rail_ids.specs.declared.RetailerNo.{RetailerNo}
use Rattle.history_model.specs.declared.entry.Step.{Step}
use Rattle.history_model.specs.declared.entry.Step.TheVariants.{Look, Take, Give, Start, SawRow, Note, Seal, Turn, LostTurn, Close, Met}
use Rattle.history_model.specs.History.{IsLegal}
use Rattle.history_model.specs.Work.{NoStep}
use Rattle.claim_rule.specs.Rule.{DeskView}
use Rattle.claim_rule.specs.Calls.{AddsStepsBy}
use Rattle.claim_rule.specs.Out.{is_look, AllLooks}
use Rattle.claim_rule.proofs.Shapes.{shape_then, shape_none}
use Rattle.booking_rows.specs.Starts.{Misses, misses_steps, Passed, search_steps, StartsHold}
use Rattle.booking_rows.specs.Views.{RowSeen}
use Rattle.booking_rows.proofs.Looked.{row_looked}
use Rattle.booking_rows.specs.declared.notes.Detail.{Detail}
use Rattle.hold_core.specs.Places.{gives_back}
use Rattle.confirm_core.specs.declared.confirming.Confirmed.{Confirmed}
use Rattle.confirm_core.specs.declared.confirming.Confirmed.TheVariants as confirmed
use Rattle.confirm_core.specs.declared.fulfilling.Fulfilment.{Fulfilment}
use Rattle.confirm_core.specs.declared.fulfilling.Fulfilment.TheVariants as fulfilled
use Rattle.refund_core.specs.declared.releasing.Released.{Released}
use Rattle.refund_core.specs.declared.releasing.Released.TheVariants as released
use Rattle.refund_core.specs.declared.refunding.Refunded.{Refunded}
use Rattle.refund_core.specs.declared.refunding.Refunded.TheVariants as refunded
use Rattle.refund_core.specs.declared.quoting.Quoted.TheVariants as quoted
use Rattle.exchange_core.specs.Ready.{ReadyView}
use Rattle.exchange_core.specs.declared.quoting.QuotedExchange.TheVariants as quoted_exchange
use Rattle.exchange_core.specs.declared.readying.Readied.TheVariants as readied
use Rattle.train_runs.specs.declared.segment.Segment.{Segment}
use Rattle.offer_codes.specs.declared.code.RefundCode.{RefundCode}
use Rattle.offer_codes.specs.Offers.{OfferView, offer_view}
use Rattle.offer_codes.specs.Exchanges.{ExchangeView, exchange_view}
use Rattle.offer_engine.specs.declared.wish.OfferWish.{OfferWish}
use Rattle.http_wire.specs.Requests.{RequestText}
use Rattle.catalogue_contents.specs.Contents.{CatalogueView}
use Rattle.osdm_parts.specs.declared.problem.Problem.{Problem}
use Rattle.osdm_parts.specs.declared.problem.Problem.TheVariants.{UnknownBooking, NoMemory, RowsFull, WrongState, OfferTooOld, QuoteWrong}
use Rattle.osdm_texts.specs.Answers.{Reply, problem}
use Rattle.osdm_json.specs.declared.command.Command.{Command}
use Rattle.refund_core.specs.Quotes.{SeesOwn, FindsBooking}
use Rattle.rail_ids.specs.declared.RowNo.{RowNo}
use Rattle.history_model.specs.declared.phase.Phase.{Phase}
use Rattle.history_model.specs.declared.phase.Phase.TheVariants as phase
use Rattle.booking_service.specs.Deciding.{Replying, OnBooking, shows, ConfirmsFound, confirm_reply, FulfilsFound, fulfil_reply, ReleasesFound, release_reply}
use Rattle.reservation_service.specs.declared.holding.Placing.{Placing}
use Rattle.reservation_service.specs.Holding.{HoldsPlaces, GivesUp}
use Rattle.reservation_service.specs.Reserving.{reserved, FailsToHold, Reserves}
use Rattle.reservation_service.proofs.Adding.{places_only}
use Rattle.search_service.specs.Searching.{SearchesOffers, ListsPlaces}
use Rattle.trade_service.specs.Refunds.{AnswersRefundQuote, RefundsFound, refund_reply}
use Rattle.trade_service.specs.Exchanges.{AnswersExchangeQuote, DecidesOrNot, lost_problem, CarriesOut, AnswersAcceptedExchange, ready_of}
use Rattle.service_rules.specs.Ordered as order
use Rattle.service_rules.specs.Checks.{ordered}
use Rattle.service_rules.specs.Performing.{Performs}
use Rattle.service_rules.specs.Answering.{AnswersBy}
use Rattle.rail_service.specs.Serving.{AnswersAsked, AnswersRequest}
use Rattle.rail_service.specs.Sparing.{decides, MakesFor}
use Rattle.rail_service.proofs.Looking.{searches_look, lists_look}
use Rattle.rail_service.proofs.Owned.{Own, own_same, decides_own}

-- steps that decide nothing

abbrev Spares : DeskView → DeskView → Type 0
Spares old new = AddsStepsBy (NoStep decides) old new

append : (xs ys : List Step) → NoStep decides xs → NoStep decides ys → NoStep decides (xs ++ ys)
append [] ys p q = q
append (x ∷ xs) ys p q = (p.0, append xs ys p.1 q)

spares_then : (a b c : DeskView) → Spares a b → Spares b c → Spares a c
spares_then a b c p q = (p.0 ++ q.0, append p.0 q.0 p.1 q.1, shape_then a b c p.0 q.0 p.2 q.2)

spares_same : (a b : DeskView) → IsLegal a.layout a.seen → b ≡ a → Spares a b
spares_same a b legal e = subst (Spares a) (sym e) ([], tt, shape_none a legal)

look : (st : Step) → is_look st ≡ true → decides st ≡ false
look (Look place half shown) is = refl
look (SawRow row word value) is = refl
look (LostTurn row wanted shown) is = refl
look Met is = refl
look (Take row place span) is = refl
look (Give row item) is = refl
look (Start row generation) is = refl
look (Note row word value) is = refl
look (Seal row phase) is = absurd (let no : false ≡ true = is in cc)
look (Close row) is = absurd (let no : false ≡ true = is in cc)
look (Turn row from to moment amount successor) is = absurd (let no : false ≡ true = is in cc)

looks : (es : List Step) → AllLooks es → NoStep decides es
looks [] all = tt
looks (st ∷ es) all = (look st all.0, looks es all.1)

spares_looks : (old new : DeskView) → AddsStepsBy AllLooks old new → Spares old new
spares_looks old new did = (did.0, looks did.0 did.1, did.2)

saw : (row : RowNo) (retailer : ℕ) (v : RowSeen) (es : List Step) → SeesOwn row retailer v es → NoStep decides es
saw row retailer v es (mine, is) = looks es (row_looked row (Some v) es is)

found : (rows : ℕ) (row : RowNo) (retailer : ℕ) (v : RowSeen) (es : List Step) → FindsBooking rows row retailer (Some v) es → NoStep decides es
found rows row retailer v es (here, sees) = saw row retailer v es sees

-- the parts of a booking

misses : (ms : Misses) → NoStep decides (misses_steps ms)
misses [] = tt
misses ((row, word) ∷ rest) = (refl, misses rest)

searched : (row : ℕ) (passed : List Passed) → NoStep decides (search_steps row passed)
searched row [] = tt
searched row ((n, None) ∷ ps) = (refl, searched (suc row) ps)
searched row ((n, Some m) ∷ ps) = (refl, (refl, searched (suc row) ps))

starts : (old mid : DeskView) (row : RowNo) (es : List Step) → StartsHold old mid (Some row) es → NoStep decides es
starts old mid row es (inl (makes, is)) = subst (NoStep decides) (sym is) tt
starts old mid row es (inr (inl (none, first, least, found))) =
    subst (NoStep decides) (sym found.2) (append (misses_steps found.0) (Start row.row 0 ∷ []) (misses found.0) (refl, tt))
starts old mid row es (inr (inr (none, full, (ms, rest, are, (n, may, next, (passed, many, each, steps)), is)))) =
    subst (NoStep decides) (sym is) (append (misses_steps ms) rest (misses ms)
    (subst (NoStep decides) (sym steps) (append (search_steps 0 passed) (SawRow row.row 0 n ∷ Start row.row row.generation ∷ []) (searched 0 passed) (refl, (refl, tt)))))

abbrev DecidesNot : Step → Type 0
DecidesNot st = decides st ≡ false

gives : (row n : ℕ) → NoStep decides (gives_back row n)
gives row zero = tt
gives row (suc n) = (refl, gives row n)

holds : (cat : CatalogueView) (o : OfferView) (together : Bool) (segments : List Segment) (row : RowNo) (p : Placing) (items : List Item) (old new : DeskView)
    → HoldsPlaces cat o together segments row p items old new → Spares old new
holds cat o together segments row p items old new (mid, started, placed) =
    spares_then old mid new (started.0, starts old mid row started.0 started.1, started.2)
    (places_only DecidesNot cat o together row [] segments p items mid new (record { look = λ place half shown. refl; take = λ place span. refl; note = λ word value. refl; give = λ item. refl }) started.2.legal placed)

gave : (row : RowNo) (items : List Item) (old new : DeskView) → GivesUp row items old new → Spares old new
gave row items old new did = (gives_back row.row (length items), gives row.row (length items), did)

-- a reply is that there is no memory, and nothing was decided, or it is another

abbrev is_500 : Reply → Bool
is_500 (problem NoMemory) = true
is_500 _ = false

spared : (old new : DeskView) (reply : Reply) → Spares old new → MakesFor old new reply
spared old new reply did = (did.0, did.2, λ e. did.1)

other : (old new : DeskView) (reply is : Reply) → Own old new → reply ≡ is → is_500 is ≡ false → MakesFor old new reply
other old new reply is own e differs =
    (own.0, own.1, λ none. absurd (let wrong : false ≡ true = sym differs ∙ ap is_500 (sym e ∙ none) in cc))

makes_then : (a b c : DeskView) (reply : Reply) → Spares a b → MakesFor b c reply → MakesFor a c reply
makes_then a b c reply p q = (p.0 ++ q.0, shape_then a b c p.0 q.0 p.2 q.1, λ none. append p.0 q.0 p.1 (q.2 none))

-- the commands

searches : (cat : CatalogueView) (wish : OfferWish) (now : ℕ) (old new : DeskView) (reply : Reply)
    → SearchesOffers cat wish now old new reply → MakesFor old new reply
searches cat wish now old new reply did =
    spared old new reply (spares_looks old new (searches_look cat wish now old new reply did))

lists : (cat : CatalogueView) (s : Segment) (old new : DeskView) (reply : Reply) → IsLegal old.layout old.seen
    → ListsPlaces cat s old new reply → MakesFor old new reply
lists cat s old new reply legal did =
    spared old new reply (spares_looks old new (lists_look cat s old new reply legal did))

fails : (cat : CatalogueView) (o : OfferView) (together : Bool) (old new : DeskView) (reply : Reply) → FailsToHold cat o together old new reply → MakesFor old new reply
fails cat o together old new reply (inl (none, eq)) = other old new reply (problem RowsFull) (none.0, none.2) eq refl
fails cat o together old new reply (inr (row, p, reason, items, mid, held, why, back, eq)) =
    spared old new reply (spares_then old mid new (holds cat o together o.segments row p items old mid held) (gave row items mid new back))

reserves : (cat : CatalogueView) (retailer now : ℕ) (o : OfferView) (together : Bool) (old new : DeskView) (reply : Reply) → Reserves cat retailer now o together old new reply → MakesFor old new reply
reserves cat retailer now o together old new reply (inl (row, items, mid, held, seals, eq)) =
    makes_then old mid new reply (holds cat o together o.segments row _ items old mid held) (other mid new reply _ (_, seals) eq refl)
reserves cat retailer now o together old new reply (inr (inl short)) = fails cat o together old new reply short
reserves cat retailer now o together old new reply (inr (inr ((row, items, mid, held, back), eq))) =
    spared old new reply (spares_then old mid new (holds cat o together o.segments row _ items old mid held) (gave row items mid new back))

module _ (Does : RowSeen → Replying) (does : (v : RowSeen) (old new : DeskView) (reply : Reply) → IsLegal old.layout old.seen → Does v old new reply → MakesFor old new reply) where
  on_booking : (rows : ℕ) (row : RowNo) (retailer : ℕ) (old new : DeskView) (reply : Reply) → OnBooking rows row retailer Does old new reply → MakesFor old new reply
  on_booking rows row retailer old new reply (inl (none, eq)) = other old new reply (problem UnknownBooking) (none.0, none.2) eq refl
  on_booking rows row retailer old new reply (inr (v, mid, sees, inl did)) =
      makes_then old mid new reply (sees.0, found rows row retailer v sees.0 sees.1, sees.2) (does v mid new reply sees.2.legal did)
  on_booking rows row retailer old new reply (inr (v, mid, sees, inr (same, eq))) =
      spared old new reply (spares_then old mid new (sees.0, found rows row retailer v sees.0 sees.1, sees.2) (spares_same mid new sees.2.legal same))

confirm_told : (row : RowNo) (now : ℕ) (v : RowSeen) (a : Confirmed) → is_500 (confirm_reply row now v a) ≡ false
confirm_told row now v confirmed.Done = refl
confirm_told row now v confirmed.Unknown = refl
confirm_told row now v (confirmed.TooLate limit) = refl
confirm_told row now v (confirmed.WrongState shown) = refl

fulfil_told : (row : RowNo) (v : RowSeen) (a : Fulfilment) → is_500 (fulfil_reply row v a) ≡ false
fulfil_told row v fulfilled.Done = refl
fulfil_told row v fulfilled.Unknown = refl
fulfil_told row v (fulfilled.WrongState shown) = refl

release_told : (row : RowNo) (now : ℕ) (v : RowSeen) (a : Released) → is_500 (release_reply row now v a) ≡ false
release_told row now v released.Done = refl
release_told row now v released.Unknown = refl
release_told row now v (released.WrongState shown) = refl

refund_told : (code : RefundCode) (now : ℕ) (v : RowSeen) (a : Refunded) → is_500 (refund_reply code now v a) ≡ false
refund_told code now v (refunded.Done amount) = refl
refund_told code now v refunded.Unknown = refl
refund_told code now v (refunded.WrongState shown) = refl
refund_told code now v (refunded.QuoteStale made at) = refl
refund_told code now v refunded.QuoteWrong = refl

quotes : (cat : CatalogueView) (rows : ℕ) (row : RowNo) (retailer now : ℕ) (old new : DeskView) (reply : Reply) → AnswersRefundQuote cat rows row retailer now old new reply → MakesFor old new reply
quotes cat rows row retailer now old new reply (quoted.Done code, (es, (here, (v, sees, phase, is)), shape), told) =
    spared old new reply (es, saw row retailer v es sees, shape)
quotes cat rows row retailer now old new reply (quoted.Unknown, did, told) = other old new reply _ (did.0, did.2) told refl
quotes cat rows row retailer now old new reply (quoted.WrongState shown, did, told) = other old new reply _ (did.0, did.2) told refl

quotes_exchange : (cat : CatalogueView) (rows : ℕ) (row : RowNo) (retailer : ℕ) (o : OfferView) (now : ℕ) (old new : DeskView) (reply : Reply)
    → AnswersExchangeQuote cat rows row retailer o now old new reply → MakesFor old new reply
quotes_exchange cat rows row retailer o now old new reply (quoted_exchange.Done code, (es, (here, (v, sees, phase, is)), shape), told) =
    spared old new reply (es, saw row retailer v es sees, shape)
quotes_exchange cat rows row retailer o now old new reply (quoted_exchange.Unknown, did, told) = other old new reply _ (did.0, did.2) told refl
quotes_exchange cat rows row retailer o now old new reply (quoted_exchange.WrongState shown, did, told) = other old new reply _ (did.0, did.2) told refl

lost_told : (shown : Phase) → is_500 (problem (lost_problem shown)) ≡ false
lost_told phase.Free = refl
lost_told phase.Making = refl
lost_told phase.Prebooked = refl
lost_told phase.Confirmed = refl
lost_told phase.Fulfilled = refl
lost_told (phase.Ending kind) = refl
lost_told (phase.Ended kind) = refl

decides_or_not : (ready : ReadyView) (row : RowNo) (items : List Item) (d : Detail) (old new : DeskView) (reply : Reply)
    → DecidesOrNot ready row items d old new reply → MakesFor old new reply
decides_or_not ready row items d old new reply (inl (noted, notes, inl (made, difference, did, seals, is))) =
    other old new reply _ (decides_own ready row items d old new reply (inl (noted, notes, inl (made, difference, did, seals, is)))) is refl
decides_or_not ready row items d old new reply (inl (noted, notes, inr (shown, hold, lost, did, back, is))) =
    other old new reply _ (decides_own ready row items d old new reply (inl (noted, notes, inr (shown, hold, lost, did, back, is)))) is (lost_told shown)
decides_or_not ready row items d old new reply (inr (back, is)) = spared old new reply (gave row items old new back)

carries : (cat : CatalogueView) (ready : ReadyView) (old new : DeskView) (reply : Reply) → CarriesOut cat ready old new reply → MakesFor old new reply
carries cat ready old new reply (inl short) = fails cat ready.code.offer false old new reply short
carries cat ready old new reply (inr (row, items, mid, held, did)) =
    makes_then old mid new reply (holds cat ready.code.offer false ready.code.offer.segments row _ items old mid held) (decides_or_not ready row items _ mid new reply did)

exchanges_it : (cat : CatalogueView) (rows retailer : ℕ) (x : ExchangeView) (now : ℕ) (old new : DeskView) (reply : Reply)
    → AnswersAcceptedExchange cat rows retailer x now old new reply → MakesFor old new reply
exchanges_it cat rows retailer x now old new reply (inl (readied.Fine ready, p, did, un, is)) = absurd un
exchanges_it cat rows retailer x now old new reply (inl (readied.Unknown, p, did, un, is)) = other old new reply (problem UnknownBooking) (did.0, did.2) (is ∙ ap problem un) refl
exchanges_it cat rows retailer x now old new reply (inl (readied.WrongState shown, p, did, un, is)) =
    other old new reply (problem (WrongState shown)) (did.0, did.2) (is ∙ ap problem un) refl
exchanges_it cat rows retailer x now old new reply (inl (readied.QuoteStale made at, p, did, un, is)) =
    other old new reply (problem (OfferTooOld made at)) (did.0, did.2) (is ∙ ap problem un) refl
exchanges_it cat rows retailer x now old new reply (inl (readied.QuoteWrong, p, did, un, is)) = other old new reply (problem QuoteWrong) (did.0, did.2) (is ∙ ap problem un) refl
exchanges_it cat rows retailer x now old new reply (inr (mid, (es, (same, (v, right, phase)), shape), goes)) =
    makes_then old mid new reply (es, saw x.row retailer v es right.sees, shape) (carries cat (ready_of retailer x now) mid new reply goes)

performs : (cat : CatalogueView) (retailer now : ℕ) (o : order.Ordered) (old new : DeskView) (reply : Reply) → IsLegal old.layout old.seen
    → Performs cat retailer now o old new reply → MakesFor old new reply
performs cat retailer now (order.offers wish) old new reply legal did = searches cat wish now old new reply did
performs cat retailer now (order.book code together) old new reply legal did = reserves cat retailer now (offer_view code) together old new reply did
performs cat retailer now (order.reserve r) old new reply legal did =
    reserves cat retailer now (reserved r.segment r.class r.count r.traits now) r.together old new reply did
performs cat retailer now (order.show row) old new reply legal did =
    on_booking (shows row) (λ v a b r l is. other a b r _ (own_same a b l is.0) is.1 refl) cat.rows row retailer old new reply did
performs cat retailer now (order.release row) old new reply legal did =
    on_booking (ReleasesFound cat.rows row retailer now) (λ v a b r l is. other a b r _ (is.1.0, is.1.2) is.2 (release_told row now v is.0)) cat.rows row retailer old new reply did
performs cat retailer now (order.confirm row) old new reply legal did =
    on_booking (ConfirmsFound cat.rows row retailer now) (λ v a b r l is. other a b r _ (is.1.0, is.1.2) is.2 (confirm_told row now v is.0)) cat.rows row retailer old new reply did
performs cat retailer now (order.fulfil row) old new reply legal did =
    on_booking (FulfilsFound cat.rows row retailer) (λ v a b r l is. other a b r _ (is.1.0, is.1.2) is.2 (fulfil_told row v is.0)) cat.rows row retailer old new reply did
performs cat retailer now (order.quote_refund row) old new reply legal did = quotes cat cat.rows row retailer now old new reply did
performs cat retailer now (order.accept_refund code) old new reply legal did =
    on_booking (RefundsFound cat cat.rows retailer code now) (λ v a b r l is. other a b r _ (is.1.0, is.1.2) is.2 (refund_told code now v is.0)) cat.rows code.row retailer old new reply did
performs cat retailer now (order.quote_exchange row code) old new reply legal did = quotes_exchange cat cat.rows row retailer (offer_view code) now old new reply did
performs cat retailer now (order.accept_exchange code) old new reply legal did = exchanges_it cat cat.rows retailer (exchange_view code) now old new reply did
performs cat retailer now (order.places segment) old new reply legal did = lists cat segment old new reply legal did
performs cat retailer now order.sweep old new reply legal did = other old new reply _ (did.1.0, did.1.2) did.2 refl

pub answers_make : (cat : CatalogueView) (retailer now : ℕ) (o : Result order.Ordered Problem) (old new : DeskView) (reply : Reply) → IsLegal old.layout old.seen
    → AnswersBy cat retailer now o old new reply → MakesFor old new reply
answers_make cat retailer now (Err p) old new reply legal did = spared old new reply ([], tt, did.0)
answers_make cat retailer now (Ok o) old new reply legal did = performs cat retailer now o old new reply legal did

asked_makes : (cat : CatalogueView) (now : ℕ) (asked : Result (RetailerNo × Command) Problem) (old new : DeskView) (reply : Reply) → IsLegal old.layout old.seen
    → AnswersAsked cat now asked old new reply → MakesFor old new reply
asked_makes cat now (Ok a) old new reply legal did = answers_make cat a.0.0 now (ordered cat now a.1) old new reply legal did.0
asked_makes cat now (Err p) old new reply legal did = spared old new reply ([], tt, did.0)

-- the steps of a request's reply
pub request_makes : (cat : CatalogueView) (first : Option RetailerNo) (request : RequestText) (now : ℕ) (old new : DeskView) (reply : Reply) → IsLegal old.layout old.seen
    → AnswersRequest cat first request now old new reply → MakesFor old new reply
request_makes cat first request now old new reply legal (asked, asks, did) = asked_makes cat now asked old new reply legal did

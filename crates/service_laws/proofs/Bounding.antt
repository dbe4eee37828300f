-- How many steps the parts of a command have.
use Rattle.std.proofs.Common.{◌≡◌, ℕ, suc, ◌+◌, ◌*◌, ◌≤◌, inl, inr, min, Bool, List, [], ◌∷◌, ◌++◌, length, Option, None, Some, refl, sym, ap, ◌∙◌, subst, arith, append-nil, length-append}
use Rattle.leg_masks.specs.Interval.{Interval, pieces}
use Rattle.leg_masks.specs.Interval.{PlacedSpan as Item}
use Rattle.leg_masks.proofs.HalfLegs.{pieces_some}
use Rattle.rail_ids.specs.declared.PlaceNo.{PlaceNo}
use Rattle.rail_ids.specs.declared.RowNo.{RowNo}
use Rattle.history_model.specs.declared.entry.Step.{Step}
use Rattle.history_model.specs.declared.entry.Step.TheVariants.{SawRow}
use Rattle.history_model.specs.declared.booking.End.{End}
use Rattle.history_model.specs.declared.phase.Phase.{Phase}
use Rattle.history_model.specs.declared.phase.Phase.TheVariants.{Free, Making, Prebooked, Confirmed, Fulfilled, Ending, Ended}
use Rattle.history_model.specs.declared.phase.EndKind.TheVariants as kind
use Rattle.history_model.specs.Phase.{is_sealed}
use Rattle.history_model.specs.Booking.{stands_as}
use Rattle.history_model.specs.History.{IsLegal, own, state_of}
use Rattle.history_model.specs.Laws.{IsSound}
use Rattle.history_model.proofs.ListLemmas.{All-found}
use Rattle.history_model.proofs.Seen.{legal-front}
use Rattle.claim_rule.specs.Endings.{item_looks, items_read}
use Rattle.claim_rule.specs.Rule.{DeskView}
use Rattle.claim_rule.specs.Desks.{AddsAtMost, AddsSteps}
use Rattle.claim_rule.proofs.Moves.{is_sound}
use Rattle.claim_rule.proofs.Shapes.{adds_length}
use Rattle.booking_rows.specs.Aims.{LosesTurn, end_of}
use Rattle.booking_rows.specs.declared.turns.Aim.TheVariants as aim
use Rattle.booking_rows.specs.Views.{AreRead, LooksNone, LooksRow, RowSeen, RowWords, end_words, saw_end, saw_row, saw_words, word_looks, words_read}
use Rattle.confirm_core.specs.RowEnds.{ends_as}
use Rattle.confirm_core.proofs.Finishing.{ends_length}
use Rattle.expiry_sweeper.specs.AllRows.{sweeps_steps}
use Rattle.confirm_core.proofs.ConfirmSteps.{confirms_length}
use Rattle.confirm_core.proofs.FulfilSteps.{fulfils_length}
use Rattle.refund_core.proofs.ReleaseSteps.{releases_length}
use Rattle.refund_core.specs.Quotes.{SeesNone, phase_named}
use Rattle.refund_core.specs.Refunding.{AcceptsRefund, QuotesRefund}
use Rattle.refund_core.specs.declared.quoting.Quoted.{Quoted}
use Rattle.refund_core.specs.declared.quoting.Quoted.TheVariants as quoted
use Rattle.refund_core.specs.declared.refunding.Refunded.{Refunded}
use Rattle.refund_core.specs.declared.refunding.Refunded.TheVariants as refunded
use Rattle.exchange_core.specs.Exchanges.{QuotesExchange, Readies}
use Rattle.exchange_core.specs.declared.quoting.QuotedExchange.{QuotedExchange}
use Rattle.exchange_core.specs.declared.quoting.QuotedExchange.TheVariants as exchange_quoted
use Rattle.exchange_core.specs.declared.readying.Readied.{Readied}
use Rattle.exchange_core.specs.declared.readying.Readied.TheVariants as readied
use Rattle.expiry_sweeper.proofs.Sweeping.{sweeps_length}
use Rattle.offer_codes.specs.declared.code.RefundCode.{RefundCode}
use Rattle.offer_codes.specs.Offers.{OfferView}
use Rattle.offer_codes.specs.Exchanges.{ExchangeView}
use Rattle.catalogue_contents.specs.Contents.{CatalogueView}
use Rattle.osdm_texts.specs.Answers.{Reply}
use Rattle.booking_service.specs.Deciding.{Replying, OnBooking, shows, ConfirmsFound, FulfilsFound, ReleasesFound}
use Rattle.booking_service.specs.Sweeping.{SweepsRows}
use Rattle.trade_service.specs.Refunds.{AnswersRefundQuote, RefundsFound}
use Rattle.trade_service.specs.Exchanges.{AnswersExchangeQuote}
use Rattle.availability.specs.Looks.{LooksAt, LooksPieces}
use Rattle.std.specs.List.{flat_map}
use Rattle.offer_codes.specs.declared.code.Offer.{Offer}
use Rattle.train_runs.specs.declared.segment.Segment.{Segment}
use Rattle.offer_engine.specs.Offers.{CountsSegments, OffersFor, raised, wanted_places}
use Rattle.offer_engine.specs.declared.wish.OfferWish.{OfferWish}
use Rattle.search_service.specs.Searching.{ListsPlaces, SearchesOffers, numbers_on}
use Rattle.trip_builder.specs.Trips.{trips_of}
use Rattle.service_laws.specs.Bounded.{wanted_in, wanted_on}
use Rattle.service_laws.proofs.Saying.{in_view}

-- numbers of entries

pub no_more : (desk : DeskView) (n : ℕ) → AddsAtMost n desk desk
no_more desk n = omega arith

pub at_most : (old new : DeskView) (m n : ℕ) → m ≤ n → AddsAtMost m old new → AddsAtMost n old new
at_most old new m n le few = omega (arith, le, few)

pub most_then : (a b c : DeskView) (m n : ℕ) → b.number ≡ a.number → AddsAtMost m a b → AddsAtMost n b c → AddsAtMost (m + n) a c
most_then a b c m n same few more =
    let here : length (own c.seen a.number) ≤ length (own b.seen a.number) + n = subst (λ (d : ℕ). length (own c.seen d) ≤ length (own b.seen d) + n) same more in
    omega (arith, few, here)

-- a look for a booking

items_looked : (row w : ℕ) (items : List Item) → length (item_looks row w items) ≡ length items
items_looked row w [] = refl
items_looked row w (x ∷ xs) = ap suc (items_looked row (suc w) xs)

end_few : (row : ℕ) (phase : Phase) (end : Option End) → length (saw_end row phase end) ≤ 3
end_few row (Ended k) (Some e) = omega arith
end_few row (Ended k) None = omega arith
end_few row Free end = omega arith
end_few row Making end = omega arith
end_few row Prebooked end = omega arith
end_few row Confirmed end = omega arith
end_few row Fulfilled end = omega arith
end_few row (Ending k) end = omega arith

saw_few : (row : RowNo) (v : RowSeen) (last : ℕ) → length v.items ≤ 48 → length (saw_row row v last) ≤ 57
saw_few row v last few =
    let final = SawRow row.row 0 last ∷ [] in
    let a = length-append (saw_words row.row v) final in
    let b = length-append (items_read row.row v.items) (saw_end row.row v.phase v.ended) in
    let c = items_looked row.row 8 v.items in
    let d = end_few row.row v.phase v.ended in
    omega (arith, few, a, b, c, d)

pub view_few : (row : RowNo) (v : RowSeen) (es fs : List Step) (old new : DeskView) → AddsSteps old new (es ++ fs) → LooksRow row (Some v) es → length es ≤ 57
view_few row v es fs old new did looks =
    let x = in_view row v es fs old new did looks in
    let g = new.layout in
    let s = state_of g x.before in
    let good = is_sound g x.before (legal-front g x.before x.rest (subst (IsLegal g) (sym x.whole) did.legal)) in
    let fits = All-found (IsSound g) (stands_as row.row row.generation) s x.booking x.at good.each in
    let seal = fits.sealed (ap is_sealed x.phase ∙ looks.0.sealed) in
    let few : length v.items ≤ 48 = subst (λ (n : ℕ). n ≤ 48) (sym (x.shows.count ∙ seal.count)) fits.count in
    subst (λ (l : List Step). length l ≤ 57) (sym looks.1.2) (saw_few row v looks.1.0 few)

words_looked : (row w : ℕ) (ns : List ℕ) → length (word_looks row w ns) ≡ length ns
words_looked row w [] = refl
words_looked row w (n ∷ ns) = ap suc (words_looked row (suc w) ns)

words_few : (row : ℕ) (ws : RowWords) → AreRead ws → length (words_read row ws) ≤ 55
words_few row ws read =
    let a = length-append (word_looks row 8 ws.items) (word_looks row 5 ws.end) in
    let b = words_looked row 8 ws.items in
    let c = words_looked row 5 ws.end in
    let d : length ws.items ≤ 48 = subst (λ (n : ℕ). n ≤ 48) (sym read.items) (least ws.count 48) in
    let e : length ws.end ≤ 3 = subst (λ (n : ℕ). n ≤ 3) (sym read.end) (three ws.phase) in
    omega (arith, a, b, c, d, e)
  where
    least : (n m : ℕ) → min n m ≤ m
    least n m = omega arith

    three : (phase : Phase) → end_words phase ≤ 3
    three (Ended k) = omega arith
    three Free = omega arith
    three Making = omega arith
    three Prebooked = omega arith
    three Confirmed = omega arith
    three Fulfilled = omega arith
    three (Ending k) = omega arith

none_few : (row : RowNo) (es : List Step) → LooksNone row es → length es ≤ 57
none_few row es (inl (n, unsealed, is)) = subst (λ (l : List Step). length l ≤ 57) (sym is) (omega arith)
none_few row es (inr (ws, last, read, free, is)) =
    let final = SawRow row.row 0 last ∷ [] in
    let a = words_few row.row ws read in
    let b = length-append (words_read row.row ws) final in
    let c : length es ≡ suc (length (words_read row.row ws ++ final)) = ap length is in
    omega (arith, a, b, c)

whole_few : (row : RowNo) (v : RowSeen) (es : List Step) (old new : DeskView) → AddsSteps old new es → LooksRow row (Some v) es → length es ≤ 57
whole_few row v es old new did looks = view_few row v es [] old new (subst (AddsSteps old new) (sym (append-nil es)) did) looks

sees_none_few : (rows : ℕ) (row : RowNo) (retailer : ℕ) (es : List Step) (old new : DeskView) → AddsSteps old new es → SeesNone rows row retailer es → length es ≤ 57
sees_none_few rows row retailer es old new did (inl (past, is)) = subst (λ (l : List Step). length l ≤ 57) (sym is) (omega arith)
sees_none_few rows row retailer es old new did (inr (here, inl none)) = none_few row es none
sees_none_few rows row retailer es old new did (inr (here, inr (w, other, looks))) = whole_few row w es old new did looks

pub on_booking : (rows : ℕ) (row : RowNo) (retailer : ℕ) (Does : RowSeen → Replying) (n : ℕ) (old new : DeskView) (reply : Reply) → ((v : RowSeen) (mid : DeskView) → Does v mid new reply → AddsAtMost n mid new) → OnBooking rows row retailer Does old new reply → AddsAtMost (57 + n) old new
on_booking rows row retailer Does n old new reply few (inl ((es, none, did), is)) = at_most old new 57 (57 + n) (omega arith) (adds_length old new es 57 did (sees_none_few rows row retailer es old new did none))
on_booking rows row retailer Does n old new reply few (inr (v, mid, (es, (here, sees), did), inl does)) = most_then old mid new 57 n did.same.2 (adds_length old mid es 57 did (whole_few row v es old mid did sees.1)) (few v mid does)
on_booking rows row retailer Does n old new reply few (inr (v, mid, (es, (here, sees), did), inr (same, is))) =
    subst (AddsAtMost (57 + n) old) (sym same) (at_most old mid 57 (57 + n) (omega arith) (adds_length old mid es 57 did (whole_few row v es old mid did sees.1)))

pub shows_few : (row : RowNo) (reply : Reply) (v : RowSeen) (mid new : DeskView) → shows row v mid new reply → AddsAtMost 0 mid new
shows_few row reply v mid new (same, is) = subst (AddsAtMost 0 mid) (sym same) (no_more mid 0)

pub confirms_few : (rows : ℕ) (row : RowNo) (retailer now : ℕ) (reply : Reply) (v : RowSeen) (mid new : DeskView) → ConfirmsFound rows row retailer now v mid new reply → AddsAtMost 6 mid new
confirms_few rows row retailer now reply v mid new (a, (es, so, did), is) = adds_length mid new es 6 did (confirms_length rows row retailer now a es so)

pub fulfils_few : (rows : ℕ) (row : RowNo) (retailer : ℕ) (reply : Reply) (v : RowSeen) (mid new : DeskView) → FulfilsFound rows row retailer v mid new reply → AddsAtMost 6 mid new
fulfils_few rows row retailer reply v mid new (a, (es, so, did), is) = adds_length mid new es 6 did (fulfils_length rows row retailer a es so)

pub releases_few : (rows : ℕ) (row : RowNo) (retailer now : ℕ) (reply : Reply) (v : RowSeen) (mid new : DeskView) → ReleasesFound rows row retailer now v mid new reply → AddsAtMost 105 mid new
releases_few rows row retailer now reply v mid new (a, (es, so, did), is) = adds_length mid new es 105 did (releases_length rows row retailer now a es so)

-- quotes

refund_quoted : (cat : CatalogueView) (rows : ℕ) (row : RowNo) (retailer now : ℕ) (a : Quoted) (es : List Step) (old new : DeskView) → AddsSteps old new es → QuotesRefund cat rows row retailer now a es → length es ≤ 57
refund_quoted cat rows row retailer now (quoted.Done code) es old new did (here, (v, sees, phase, is)) = whole_few row v es old new did sees.1
refund_quoted cat rows row retailer now quoted.Unknown es old new did none = sees_none_few rows row retailer es old new did none
refund_quoted cat rows row retailer now (quoted.WrongState shown) es old new did (here, a, b, (v, sees, is)) = whole_few row v es old new did sees.1

pub refund_quotes_few : (cat : CatalogueView) (rows : ℕ) (row : RowNo) (retailer now : ℕ) (old new : DeskView) (reply : Reply) → AnswersRefundQuote cat rows row retailer now old new reply → AddsAtMost 57 old new
refund_quotes_few cat rows row retailer now old new reply (a, (es, so, did), is) = adds_length old new es 57 did (refund_quoted cat rows row retailer now a es old new did so)

exchange_quotes : (cat : CatalogueView) (rows : ℕ) (row : RowNo) (retailer : ℕ) (offer : OfferView) (now : ℕ) (a : QuotedExchange) (es : List Step) (old new : DeskView) → AddsSteps old new es → QuotesExchange cat rows row retailer offer now a es → length es ≤ 57
exchange_quotes cat rows row retailer offer now (exchange_quoted.Done code) es old new did (here, (v, sees, phase, is)) = whole_few row v es old new did sees.1
exchange_quotes cat rows row retailer offer now exchange_quoted.Unknown es old new did none = sees_none_few rows row retailer es old new did none
exchange_quotes cat rows row retailer offer now (exchange_quoted.WrongState shown) es old new did (here, a, b, (v, sees, is)) = whole_few row v es old new did sees.1

pub exchange_quotes_few : (cat : CatalogueView) (rows : ℕ) (row : RowNo) (retailer : ℕ) (offer : OfferView) (now : ℕ) (old new : DeskView) (reply : Reply) → AnswersExchangeQuote cat rows row retailer offer now old new reply → AddsAtMost 57 old new
exchange_quotes_few cat rows row retailer offer now old new reply (a, (es, so, did), is) = adds_length old new es 57 did (exchange_quotes cat rows row retailer offer now a es old new did so)

pub readies_few : (cat : CatalogueView) (rows retailer : ℕ) (code : ExchangeView) (now : ℕ) (a : Readied) (es : List Step) (old new : DeskView) → AddsSteps old new es → Readies cat rows retailer code now a es → length es ≤ 57
readies_few cat rows retailer code now (readied.Fine ready) es old new did (is, (v, right, phase)) = whole_few code.row v es old new did right.sees.1
readies_few cat rows retailer code now readied.Unknown es old new did (fresh, none) = sees_none_few rows code.row retailer es old new did none
readies_few cat rows retailer code now (readied.WrongState shown) es old new did (other, (v, right, phase)) = whole_few code.row v es old new did right.sees.1
readies_few cat rows retailer code now (readied.QuoteStale made at) es old new did (stale, a, b, is) = subst (λ (l : List Step). length l ≤ 57) (sym is) (omega arith)
readies_few cat rows retailer code now readied.QuoteWrong es old new did (fresh, here, (v, sees, differs)) = whole_few code.row v es old new did sees.1

-- a refund

lost_few : (row : RowNo) (v : RowSeen) (wanted shown : Phase) (front back es : List Step) (old new : DeskView) → AddsSteps old new es → LooksRow row (Some v) front → LosesTurn row wanted shown back → es ≡ front ++ back → length es ≤ 159
lost_few row v wanted shown front back es old new did looks lost is =
    let a = view_few row v front back old new (subst (AddsSteps old new) is did) looks in
    let b : length back ≡ 1 = ap length lost.3 in
    let c : length es ≡ length front + length back = ap length is ∙ length-append front back in
    omega (arith, a, b, c)

accepts_few : (cat : CatalogueView) (rows retailer : ℕ) (code : RefundCode) (now : ℕ) (a : Refunded) (es : List Step) (old new : DeskView) → AddsSteps old new es → AcceptsRefund cat rows retailer code now a es → length es ≤ 159
accepts_few cat rows retailer code now (refunded.Done amount) es old new did (same, (v, front, items, right, phase, few, is)) =
    let ends = ends_as code.row.row (phase_named code.fulfilled) kind.Refund (end_of (aim.Refund now code.amount)) items in
    let a = view_few code.row v front ends old new (subst (AddsSteps old new) is did) right.sees.1 in
    let b = ends_length code.row.row (phase_named code.fulfilled) kind.Refund (end_of (aim.Refund now code.amount)) items few in
    let c : length es ≡ length front + length ends = ap length is ∙ length-append front ends in
    omega (arith, a, b, c)
accepts_few cat rows retailer code now refunded.Unknown es old new did (inl (fresh, none)) = let a = sees_none_few rows code.row retailer es old new did none in omega (arith, a)
accepts_few cat rows retailer code now refunded.Unknown es old new did (inr (v, front, right, (phase, back, lost, is))) = lost_few code.row v (phase_named code.fulfilled) Free front back es old new did right.sees.1 lost is
accepts_few cat rows retailer code now (refunded.WrongState shown) es old new did (v, front, right, inl (phase, other, is)) =
    let a = whole_few code.row v es old new did (subst (LooksRow code.row (Some v)) (sym is) right.sees.1) in omega (arith, a)
accepts_few cat rows retailer code now (refunded.WrongState shown) es old new did (v, front, right, inr (some, (phase, back, lost, is))) = lost_few code.row v (phase_named code.fulfilled) shown front back es old new did right.sees.1 lost is
accepts_few cat rows retailer code now (refunded.QuoteStale made at) es old new did (stale, a, b, is) = subst (λ (l : List Step). length l ≤ 159) (sym is) (omega arith)
accepts_few cat rows retailer code now refunded.QuoteWrong es old new did (fresh, here, (v, sees, differs)) = let a = whole_few code.row v es old new did sees.1 in omega (arith, a)

pub refunds_few : (cat : CatalogueView) (rows retailer : ℕ) (code : RefundCode) (now : ℕ) (reply : Reply) (v : RowSeen) (mid new : DeskView) → RefundsFound cat rows retailer code now v mid new reply → AddsAtMost 159 mid new
refunds_few cat rows retailer code now reply v mid new (a, (es, so, did), is) = adds_length mid new es 159 did (accepts_few cat rows retailer code now a es mid new did so)

-- a sweep

pub sweep_few : (rows now : ℕ) (old new : DeskView) (reply : Reply) → SweepsRows rows now old new reply → AddsAtMost (105 * rows) old new
sweep_few rows now old new reply (n, (es, so, did), is) =
    adds_length old new es (105 * rows) did
    (subst (λ (l : List Step). length l ≤ 105 * rows) (sym so.steps) (subst (λ (k : ℕ). length (sweeps_steps now 0 so.sweeps) ≤ 105 * k) so.every (sweeps_length now 0 so.sweeps so.each)))

-- searches

pub pieces_looked : (place : ℕ) (ps : List Interval) (free : Bool) (es : List Step) → LooksPieces place ps free es → length es ≡ length ps
pieces_looked place [] free es is = ap length is.1
pieces_looked place (p ∷ ps) free es (word, here, others, more, so, rest, all, is) = ap length is ∙ ap suc (pieces_looked place ps others more rest)

looks_few : (ps : List PlaceNo) (span : Interval) (states : List Bool) (es : List Step) → LooksAt ps span states es → length es ≤ 2 * length ps
looks_few [] span [] es is = subst (λ (l : List Step). length l ≤ 0) (sym is) (omega arith)
looks_few (p ∷ ps) span (free ∷ states) es (first, rest, did, more, is) =
    let a = pieces_looked p.0 (pieces span) free first did in
    let b = (pieces_some span).1 in
    let c = looks_few ps span states rest more in
    let d : length es ≡ length first + length rest = ap length is ∙ length-append first rest in
    omega (arith, a, b, c, d)
looks_few [] span (free ∷ states) es is = absurd is
looks_few (p ∷ ps) span [] es is = absurd is

segments_few : (cat : CatalogueView) (w : OfferWish) (ss : List Segment) (free : List ℕ) (es : List Step) → CountsSegments cat w ss free es → length es ≤ 2 * wanted_on cat w ss
segments_few cat w [] [] es is = subst (λ (l : List Step). length l ≤ 0) (sym is) (omega arith)
segments_few cat w (s ∷ ss) (n ∷ free) es (first, more, (states, did, count), rest, is) =
    let a = looks_few (wanted_places cat w s) s.span states first did in
    let b = segments_few cat w ss free more rest in
    let c : length es ≡ length first + length more = ap length is ∙ length-append first more in
    omega (arith, a, b, c)
segments_few cat w [] (n ∷ free) es is = absurd is
segments_few cat w (s ∷ ss) [] es is = absurd is

offers_few : (cat : CatalogueView) (w : OfferWish) (now : ℕ) (trips : List (List Segment)) (offers : List Offer) (es : List Step) → OffersFor cat w now trips offers es → length es ≤ 2 * wanted_in cat w trips
offers_few cat w now [] [] es is = subst (λ (l : List Step). length l ≤ 0) (sym is) (omega arith)
offers_few cat w now (t ∷ trips) (o ∷ offers) es (first, more, did, rest, is) =
    let a = segments_few cat w t o.free.items first did.2 in
    let b = offers_few cat w now trips offers more rest in
    let c : length es ≡ length first + length more = ap length is ∙ length-append first more in
    omega (arith, a, b, c)
offers_few cat w now [] (o ∷ offers) es is = absurd is
offers_few cat w now (t ∷ trips) [] es is = absurd is

wanted_append : (cat : CatalogueView) (w : OfferWish) (xs ys : List Segment) → wanted_on cat w (xs ++ ys) ≡ wanted_on cat w xs + wanted_on cat w ys
wanted_append cat w [] ys = let e : wanted_on cat w ys ≡ 0 + wanted_on cat w ys = omega arith in e
wanted_append cat w (x ∷ xs) ys = let a = wanted_append cat w xs ys in omega (arith, a)

wanted_flat : (cat : CatalogueView) (w : OfferWish) (trips : List (List Segment)) → wanted_on cat w (flat_map (λ t. t) trips) ≡ wanted_in cat w trips
wanted_flat cat w [] = refl
wanted_flat cat w (t ∷ trips) = let a = wanted_append cat w t (flat_map (λ x. x) trips) in let b = wanted_flat cat w trips in omega (arith, a, b)

pub searches_few : (cat : CatalogueView) (w : OfferWish) (now : ℕ) (old new : DeskView) (reply : Reply) → SearchesOffers cat w now old new reply → AddsAtMost (2 * wanted_in cat w (trips_of cat.runs (raised w.trip now))) old new
searches_few cat w now old new reply (inl (offers, (es, so, did), told)) =
    let trips = trips_of cat.runs (raised w.trip now) in
    adds_length old new es (2 * wanted_in cat w trips) did (offers_few cat w now trips offers es so)
searches_few cat w now old new reply (inr ((es, (front, rest, free, is, so), did), none)) =
    let trips = trips_of cat.runs (raised w.trip now) in
    let a = segments_few cat w front free es so in
    let b = wanted_append cat w front rest in
    let c : wanted_on cat w (front ++ rest) ≡ wanted_in cat w trips = ap (wanted_on cat w) (sym is) ∙ wanted_flat cat w trips in
    adds_length old new es (2 * wanted_in cat w trips) did (omega (arith, a, b, c))

pub lists_few : (cat : CatalogueView) (s : Segment) (old new : DeskView) (reply : Reply) → ListsPlaces cat s old new reply → AddsAtMost (2 * length (numbers_on cat s.run.0)) old new
lists_few cat s old new reply (inl (free, (es, so, did), told)) = adds_length old new es (2 * length (numbers_on cat s.run.0)) did (looks_few (numbers_on cat s.run.0) s.span free es so)
lists_few cat s old new reply (inr (same, none)) = subst (AddsAtMost (2 * length (numbers_on cat s.run.0)) old) (sym same) (no_more old (2 * length (numbers_on cat s.run.0)))

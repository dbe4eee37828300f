-- The laws of booking, of searching and of listing places.
use Rattle.std.proofs.Common.{◌≡◌, ◌≢◌, ℕ, Bool, true, false, eqb, List, [], ◌∷◌, ◌++◌, length, take, drop, Option, Some, None, Ok, refl, sym, ap, ◌∙◌, subst, inl, inr, append-nil, append_assoc}
use Rattle.std.specs.Prelude.{◌⊎◌, ◌&&◌, ◌==◌, not, nat_le, nat_lt}
use Rattle.std.specs.List.{list_all}
use Rattle.std.proofs.lemmas.Bool.{and_parts, or_parts, true≢false, eqb-false}
use Rattle.std.proofs.lemmas.List.{take-append-drop}
use Rattle.rail_ids.specs.declared.RowNo.{RowNo}
use Rattle.train_runs.specs.Runs.{RunsView}
use Rattle.trip_builder.specs.Segments.{first_of, last_of, first_stop, last_stop}
use Rattle.trip_builder.specs.Trips.{trips_of, uses_run, connects, follows, is_chain, are_connected}
use Rattle.train_runs.specs.declared.segment.Segment.{Segment}
use Rattle.offer_codes.specs.declared.code.OfferCode.{OfferCode}
use Rattle.offer_codes.specs.Offers.{OfferView, offer_view}
use Rattle.catalogue_contents.specs.Contents.{CatalogueView}
use Rattle.history_model.specs.Lists.{Across}
use Rattle.history_model.proofs.ListLemmas.{Pairwise-append}
use Rattle.claim_rule.specs.Rule.{DeskView, state_seen}
use Rattle.claim_rule.specs.Calls.{AddsStepsBy}
use Rattle.claim_rule.proofs.Moves.{is_sound}
use Rattle.booking_rows.specs.Starts.{StartsHold}
use Rattle.offer_prices.specs.Runs.{is_of_runs}
use Rattle.offer_engine.specs.Codes.{goes, is_offered}
use Rattle.offer_engine.specs.declared.wish.OfferWish.{OfferWish}
use Rattle.offer_engine.specs.Offers.{raised}
use Rattle.osdm_parts.specs.declared.problem.Problem.TheVariants.{NoMemory}
use Rattle.osdm_texts.specs.Answers.{Reply, offer_list, place_list, problem}
use Rattle.reservation_service.specs.declared.booking.Reservation.{Reservation}
use Rattle.reservation_service.specs.Reserving.{reserved}
use Rattle.search_service.specs.Searching.{numbers_on}
use Rattle.service_rules.specs.Ordered as order
use Rattle.service_rules.specs.Orders.{IsSoundOrder}
use Rattle.plain_host.specs.Plain.{choice_for}
use Rattle.plain_host.specs.PlainOf.{plain_in, plain_of}
use Rattle.plain_host.specs.Settled.{IsSettled}
use Rattle.plain_host.specs.Found.{ChoosesRow}
use Rattle.plain_host.specs.Plainly.{IsLone, AnswersPlainly}
use Rattle.plain_host.proofs.Staying.{StaysAlone, stays_by, still_lone}
use Rattle.plain_host.proofs.PlacesRows.{choice_at, has_begun, none_begun, plain_making}
use Rattle.plain_host.proofs.PlacesChosen.{Differ}
use Rattle.plain_host.proofs.PlacesFit.{listed_fit, offer_fits, reserved_fit}
use Rattle.plain_host.proofs.PlacesSeen.{offers_seen, begun_seen, places_seen}
use Rattle.plain_host.proofs.BookingMade.{reserves_plainly}

-- ---- runs that differ

unlike_runs : (before : List Segment) (s : Segment) → uses_run before s ≡ false → Across (λ (a b : Segment). a.run.0 ≢ b.run.0) before (s ∷ [])
unlike_runs [] s none = tt
unlike_runs (b ∷ before) s none =
    let both = or_parts (eqb b.run.0 s.run.0) (uses_run before s) none in
    ((eqb-false b.run.0 s.run.0 both.0, tt), unlike_runs before s both.1)

not_back : (x : Bool) → not x ≡ true → x ≡ false
not_back true e = absurd (true≢false (sym e))
not_back false e = refl

chain_differs : (r : RunsView) (before segments : List Segment) → Differ before → is_chain r before segments ≡ true → Differ (before ++ segments)
chain_differs r before [] differ chain = subst Differ (sym (append-nil before)) differ
chain_differs r before (s ∷ rest) differ chain =
    let parts = and_parts (follows r before s) (is_chain r (before ++ s ∷ []) rest) chain in
    let other = (and_parts (connects r (last_stop r (last_of before)) s) (not (uses_run before s)) parts.0).1 in
    let more : Differ (before ++ s ∷ []) =
    Pairwise-append (λ (a b : Segment). a.run.0 ≢ b.run.0) before (s ∷ []) differ (tt, tt) (unlike_runs before s (not_back (uses_run before s) other)) in
    subst Differ (append_assoc before (s ∷ []) rest) (chain_differs r (before ++ s ∷ []) rest more parts.1)

first_differs : (segments : List Segment) → Differ (take 1 segments)
first_differs [] = tt
first_differs (s ∷ rest) = (tt, tt)

-- an offer of the catalogue goes by runs that differ
pub offered_differ : (cat : CatalogueView) (o : OfferView) → is_offered cat o ≡ true → Differ o.segments
offered_differ cat o offered =
    let runs = and_parts (nat_lt 0 (length o.segments)) (list_all (is_of_runs cat.runs) o.segments && goes cat.runs o.made o.segments) offered in
    let going = (and_parts (list_all (is_of_runs cat.runs) o.segments) (goes cat.runs o.made o.segments) runs.1).1 in
    let connected = connected_part cat.runs o.made o.segments going in
    subst Differ (take-append-drop 1 o.segments) (chain_differs cat.runs (take 1 o.segments) (drop 1 o.segments) (first_differs o.segments) connected)
  where
    last_of_three : (a b c : Bool) → (a && (b && c)) ≡ true → c ≡ true
    last_of_three a b c e = (and_parts b c (and_parts a (b && c) e).1).1

    connected_part : (r : RunsView) (made : ℕ) (segments : List Segment) → goes r made segments ≡ true → are_connected r segments ≡ true
    connected_part r made segments e =
        last_of_three (nat_le made (first_stop r (first_of segments)).depart)
        (not ((first_stop r (first_of segments)).station.0 == (last_stop r (last_of segments)).station.0)) (are_connected r segments) e

-- ---- booking

-- the row of a new booking
pub row_started : (cat : CatalogueView) (old new : DeskView) (row : Option RowNo) → IsLone cat old → AddsStepsBy (StartsHold old new row) old new
    → ChoosesRow cat.rows (plain_of old) row (plain_of new)
row_started cat old new (Some row) lone did =
    let begun = has_begun old new row lone.alone lone.settled (is_sound old.layout old.seen lone.legal) did in
    let c = choice_at lone.settled.standing row in (
      c,
      subst (λ (n : ℕ). choice_for n (plain_of old) ≡ Some c) lone.rows begun.chosen,
      refl,
      plain_making lone.settled.standing row [] (state_seen new) lone.settled.each begun.making,
    )
row_started cat old new None lone did =
    let none = none_begun old new lone.alone lone.settled (is_sound old.layout old.seen lone.legal) did in
    (subst (λ (n : ℕ). choice_for n (plain_of old) ≡ None) lone.rows none.0, ap plain_in none.1)

pub book_plain : (cat : CatalogueView) (retailer now : ℕ) (code : OfferCode) (together : Bool) → IsSoundOrder cat now (order.book code together)
    → AnswersPlainly cat retailer now (Ok (order.book code together))
book_plain cat retailer now code together sound = λ old new reply lone did.
    let o = offer_view code in
    reserves_plainly cat retailer now o together old new reply lone (offer_fits cat o sound.0) (offered_differ cat o sound.1) did

pub reserve_plain : (cat : CatalogueView) (retailer now : ℕ) (r : Reservation) → IsSoundOrder cat now (order.reserve r) → AnswersPlainly cat retailer now (Ok (order.reserve r))
reserve_plain cat retailer now r sound = λ old new reply lone did.
    let o = reserved r.segment r.class r.count r.traits now in
    reserves_plainly cat retailer now o r.together old new reply lone (reserved_fit cat old o r.segment lone sound.0, tt) (tt, tt) did

-- ---- searching

stays_as : (cat : CatalogueView) (old new : DeskView) → IsLone cat old → StaysAlone old new → state_seen new ≡ state_seen old → IsLone cat new
stays_as cat old new lone stays same = still_lone cat old new lone stays (subst IsSettled (sym same) lone.settled)

pub offers_plain : (cat : CatalogueView) (retailer now : ℕ) (w : OfferWish) → AnswersPlainly cat retailer now (Ok (order.offers w))
offers_plain cat retailer now w old new reply lone (inl (offers, (es, did, shape), told)) =
    let seen = offers_seen cat w now offers old new lone (es, did, shape) in (
      answered told (ap offer_list seen.0) (ap plain_in seen.1),
      stays_as cat old new lone (stays_by old new es lone.alone shape) seen.1,
    )
  where
    answered : {told is : Reply} → (reply ≡ told) ⊎ (reply ≡ problem NoMemory) → told ≡ is → plain_of new ≡ plain_of old
        → ((reply ≡ is) × (plain_of new ≡ plain_of old)) ⊎ ((reply ≡ problem NoMemory) × (plain_of new ≡ plain_of old))
    answered (inl here) is same = inl (here ∙ is, same)
    answered (inr none) is same = inr (none, same)
offers_plain cat retailer now w old new reply lone (inr ((es, did, shape), none)) =
    let same = begun_seen cat w (trips_of cat.runs (raised w.trip now)) old new lone (es, did, shape) in
    (inr (none, ap plain_in same), stays_as cat old new lone (stays_by old new es lone.alone shape) same)

pub places_plain : (cat : CatalogueView) (retailer now : ℕ) (segment : Segment) → IsSoundOrder cat now (order.places segment) → AnswersPlainly cat retailer now (Ok (order.places segment))
places_plain cat retailer now segment within old new reply lone (inl (free, (es, did, shape), told)) =
    let seen = places_seen cat (numbers_on cat segment.run.0) segment.span free old new lone (listed_fit cat old segment lone within) (es, did, shape) in (
      answered told (ap (place_list segment.run.0) seen.0) (ap plain_in seen.1),
      stays_as cat old new lone (stays_by old new es lone.alone shape) seen.1,
    )
  where
    answered : {told is : Reply} → (reply ≡ told) ⊎ (reply ≡ problem NoMemory) → told ≡ is → plain_of new ≡ plain_of old
        → ((reply ≡ is) × (plain_of new ≡ plain_of old)) ⊎ ((reply ≡ problem NoMemory) × (plain_of new ≡ plain_of old))
    answered (inl here) is same = inl (here ∙ is, same)
    answered (inr none) is same = inr (none, same)
places_plain cat retailer now segment within old new reply lone (inr (same, none)) =
    (inr (none, ap plain_of same), subst (IsLone cat) (sym same) lone)

-- What a lone desk's looks show of places is what the plain list says.
use Rattle.std.proofs.Common.{◌≡◌, ℕ, ◌+◌, ◌≤◌, Bool, Decides, cond, List, [], ◌∷◌, ◌++◌, map, refl, sym, ap, ◌∙◌, subst, inl, inr}
use Rattle.std.specs.Prelude.{◌⊎◌, ◌↔◌, IsTrue, count_by, fold}
use Rattle.std.specs.List.{AllByRecursion}
use Rattle.leg_masks.specs.Interval.{Interval, pieces}
use Rattle.rail_ids.specs.declared.PlaceNo.{PlaceNo}
use Rattle.train_runs.specs.declared.segment.Segment.{Segment}
use Rattle.offer_codes.specs.declared.code.Offer.{Offer}
use Rattle.offer_codes.specs.declared.code.OfferCode.{OfferCode}
use Rattle.catalogue_contents.specs.Contents.{CatalogueView}
use Rattle.trip_builder.specs.Trips.{trips_of}
use Rattle.history_model.specs.declared.entry.Step.{Step}
use Rattle.history_model.specs.Booking.{Booking, Layout, State}
use Rattle.history_model.specs.History.{IsLegalFrom}
use Rattle.history_model.specs.Phase.{is_sealed}
use Rattle.claim_rule.specs.Rule.{DeskView, state_seen}
use Rattle.claim_rule.specs.Calls.{AddsStepsBy}
use Rattle.claim_rule.proofs.Moves.{is_sound}
use Rattle.availability.specs.Looks.{LooksAt, CountsFree}
use Rattle.offer_engine.specs.declared.wish.OfferWish.{OfferWish}
use Rattle.offer_prices.specs.Prices.{offer_price}
use Rattle.offer_engine.specs.Offers.{raised, code_for, wanted_places, CountsSegments, OffersFor, MakesOffers, BeginsOffers}
use Rattle.lone_desk.specs.Lone.{entries_of, after_steps}
use Rattle.lone_desk.specs.Decided.{IsFreeAt, HasClearWords}
use Rattle.lone_desk.proofs.Clear.{open_is_clear}
use Rattle.lone_desk.proofs.Following.{shape_follows}
use Rattle.plain_host.specs.Plain.{is_free}
use Rattle.plain_host.specs.Outcomes.{code_of, offered}
use Rattle.plain_host.specs.PlainOf.{plain_of}
use Rattle.plain_host.specs.Settled.{IsEmptyRow, IsSettled}
use Rattle.plain_host.specs.Plainly.{IsLone}
use Rattle.plain_host.proofs.PlacesFree.{AreElsewhere, IsQuiet, quiet_each, quiet_with, open_is_free}
use Rattle.plain_host.proofs.PlacesHeld.{FitsAt}
use Rattle.plain_host.proofs.PlacesLooks.{both_leave, pieces_leave, two_parts, same_answer, pieces_show}
use Rattle.plain_host.proofs.PlacesFit.{AllFit, trips_fit}

-- ---- a lone desk between two commands

settled_quiet : (s : State) (place : ℕ) → IsSettled s → AllByRecursion (IsQuiet place) s
settled_quiet s place settled = by settled.is
  where
    by : (s ≡ settled.standing) ⊎ ((b : Booking) × IsEmptyRow b × (s ≡ settled.standing ++ b ∷ [])) → AllByRecursion (IsQuiet place) s
    by (inl is) = subst (AllByRecursion (IsQuiet place)) (sym is) (quiet_each place settled.standing settled.each)
    by (inr (b, empty, is)) =
        subst (AllByRecursion (IsQuiet place)) (sym is)
        (quiet_with place settled.standing b settled.each (ap is_sealed empty.making) (subst (AreElsewhere place) (sym empty.none) tt))

-- of each place the list says whether it is free
pub list_is_free : (cat : CatalogueView) (desk : DeskView) (span : Interval) (place : ℕ) → IsLone cat desk
    → Decides (is_free (plain_of desk).bookings span place) (IsFreeAt (state_seen desk) span place)
list_is_free cat desk span place lone =
    open_is_free desk.layout (state_seen desk) place span (is_sound desk.layout desk.seen lone.legal) (settled_quiet (state_seen desk) place lone.settled)

-- which is whether its words are clear on the pieces
pub words_are_free : (cat : CatalogueView) (desk : DeskView) (span : Interval) (place : ℕ) → IsLone cat desk → span.to ≤ 126
    → IsTrue (is_free (plain_of desk).bookings span place) ↔ HasClearWords (state_seen desk) span place
words_are_free cat desk span place lone fits =
    let list = list_is_free cat desk span place lone in
    let words = open_is_clear (state_seen desk) place span fits in
    (λ free. words.1 (list.0 free), λ clear. list.1 (words.0 clear))

-- ---- looks leave the state as it is

looks_leave : (s : State) (desk : ℕ) (places : List PlaceNo) (span : Interval) (states : List Bool) (es : List Step) → LooksAt places span states es → after_steps s desk es ≡ s
looks_leave s desk [] span [] es is = ap (after_steps s desk) is
looks_leave s desk (p ∷ ps) span (f ∷ fs) es (first, more, here, rest, is) =
    both_leave s desk first more es is (pieces_leave s desk p.0 (pieces span) f first here) (looks_leave s desk ps span fs more rest)
looks_leave s desk [] span (f ∷ fs) es never = absurd never
looks_leave s desk (p ∷ ps) span [] es never = absurd never

segments_leave : (s : State) (desk : ℕ) (cat : CatalogueView) (w : OfferWish) (segments : List Segment) (counts : List ℕ) (es : List Step) → CountsSegments cat w segments counts es
    → after_steps s desk es ≡ s
segments_leave s desk cat w [] [] es is = ap (after_steps s desk) is
segments_leave s desk cat w (x ∷ xs) (n ∷ ns) es (first, more, (states, looks, many), rest, is) =
    both_leave s desk first more es is (looks_leave s desk (wanted_places cat w x) x.span states first looks) (segments_leave s desk cat w xs ns more rest)
segments_leave s desk cat w [] (n ∷ ns) es never = absurd never
segments_leave s desk cat w (x ∷ xs) [] es never = absurd never

offers_leave : (s : State) (desk : ℕ) (cat : CatalogueView) (w : OfferWish) (now : ℕ) (trips : List (List Segment)) (offers : List Offer) (es : List Step) → OffersFor cat w now trips offers es
    → after_steps s desk es ≡ s
offers_leave s desk cat w now [] [] es is = ap (after_steps s desk) is
offers_leave s desk cat w now (t ∷ ts) (o ∷ os) es (first, more, (code_is, price_is, counts), rest, is) =
    both_leave s desk first more es is (segments_leave s desk cat w t o.free.items first counts) (offers_leave s desk cat w now ts os more rest)
offers_leave s desk cat w now [] (o ∷ os) es never = absurd never
offers_leave s desk cat w now (t ∷ ts) [] es never = absurd never

-- ---- what they show

-- of each place whether the test says that it is free
abbrev Knows : (Interval → ℕ → Bool) → State → Type 0
Knows free s = (span : Interval) (place : ℕ) → Decides (free span place) (IsFreeAt s span place)

looks_free : (free : Interval → ℕ → Bool) (g : Layout) (s : State) (desk : ℕ) (places : List PlaceNo) (span : Interval) (states : List Bool) (es : List Step)
    → Knows free s → FitsAt span places → IsLegalFrom g s (entries_of desk es) → LooksAt places span states es → states ≡ map (λ (p : PlaceNo). free span p.0) places
looks_free free g s desk [] span [] es knows fits legal is = refl
looks_free free g s desk (p ∷ ps) span (f ∷ fs) es knows (inl none) legal did = absurd (let no : p ∷ ps ≡ [] = none in cc)
looks_free free g s desk (p ∷ ps) span (f ∷ fs) es knows (inr fits) legal (first, more, here, rest, is) =
    let both = two_parts g s desk first more es is (pieces_leave s desk p.0 (pieces span) f first here) legal in
    let shown = pieces_show g s desk p.0 (pieces span) f first both.0 here in
    let words = open_is_clear s p.0 span fits in
    let one : f ≡ free span p.0 =
    same_answer f (free span p.0) (IsFreeAt s span p.0) (knows span p.0) (λ e. words.0 (shown.0 e), λ is_open. shown.1 (words.1 is_open)) in
    ap (λ (b : Bool). b ∷ fs) one ∙ ap (λ (l : List Bool). free span p.0 ∷ l) (looks_free free g s desk ps span fs more knows (inr fits) both.1 rest)
looks_free free g s desk [] span (f ∷ fs) es knows fits legal never = absurd never
looks_free free g s desk (p ∷ ps) span [] es knows fits legal never = absurd never

counted_on : (free : ℕ → Bool) (n : ℕ) (ps : List PlaceNo)
    → fold (λ (k : ℕ) (b : Bool). k + cond b 1 0) n (map (λ (p : PlaceNo). free p.0) ps) ≡ fold (λ (k : ℕ) (p : PlaceNo). k + cond (free p.0) 1 0) n ps
counted_on free n [] = refl
counted_on free n (p ∷ ps) = counted_on free (n + cond (free p.0) 1 0) ps

counts_free : (free : Interval → ℕ → Bool) (g : Layout) (s : State) (desk : ℕ) (places : List PlaceNo) (span : Interval) (n : ℕ) (es : List Step)
    → Knows free s → FitsAt span places → IsLegalFrom g s (entries_of desk es) → CountsFree places span n es → n ≡ count_by (λ (p : PlaceNo). free span p.0) places
counts_free free g s desk places span n es knows fits legal (states, looks, is) =
    is ∙ (ap (count_by (λ (b : Bool). b)) (looks_free free g s desk places span states es knows fits legal looks) ∙ counted_on (free span) 0 places)

-- ---- offers

abbrev free_by : (Interval → ℕ → Bool) → CatalogueView → OfferWish → Segment → ℕ
free_by free cat w s = count_by (λ (p : PlaceNo). free s.span p.0) (wanted_places cat w s)

segments_free : (free : Interval → ℕ → Bool) (g : Layout) (s : State) (desk : ℕ) (cat : CatalogueView) (w : OfferWish) (segments : List Segment) (counts : List ℕ) (es : List Step)
    → Knows free s → AllFit cat w segments → IsLegalFrom g s (entries_of desk es) → CountsSegments cat w segments counts es → counts ≡ map (free_by free cat w) segments
segments_free free g s desk cat w [] [] es knows fit legal is = refl
segments_free free g s desk cat w (x ∷ xs) (n ∷ ns) es knows fit legal (first, more, (states, looks, many), rest, is) =
    let both = two_parts g s desk first more es is (looks_leave s desk (wanted_places cat w x) x.span states first looks) legal in
    ap (λ (k : ℕ). k ∷ ns) (counts_free free g s desk (wanted_places cat w x) x.span n first knows fit.0 both.0 (states, looks, many))
    ∙ ap (λ (l : List ℕ). free_by free cat w x ∷ l) (segments_free free g s desk cat w xs ns more knows fit.1 both.1 rest)
segments_free free g s desk cat w [] (n ∷ ns) es knows fit legal never = absurd never
segments_free free g s desk cat w (x ∷ xs) [] es knows fit legal never = absurd never

abbrev offer_by : (Interval → ℕ → Bool) → CatalogueView → OfferWish → ℕ → List Segment → Offer
offer_by free cat w now trip =
    let o = code_for w now trip in
    record { code = code_of o; price = offer_price cat o; free = record { items = map (free_by free cat w) trip } }

same_offer : (o : Offer) (code : OfferCode) (price : ℕ) (counts : List ℕ) → o.code ≡ code → o.price ≡ price → o.free.items ≡ counts
    → o ≡ record { code = code; price = price; free = record { items = counts } }
same_offer o code price counts code_is price_is free_is =
    ap (λ (c : OfferCode). record { code = c; price = o.price; free = o.free }) code_is
    ∙ (ap (λ (n : ℕ). record { code = code; price = n; free = o.free }) price_is ∙ ap (λ (l : List ℕ). record { code = code; price = price; free = record { items = l } }) free_is)

offers_free : (free : Interval → ℕ → Bool) (g : Layout) (s : State) (desk : ℕ) (cat : CatalogueView) (w : OfferWish) (now : ℕ) (trips : List (List Segment)) (offers : List Offer) (es : List Step)
    → Knows free s → AllByRecursion (AllFit cat w) trips → IsLegalFrom g s (entries_of desk es) → OffersFor cat w now trips offers es → offers ≡ map (offer_by free cat w now) trips
offers_free free g s desk cat w now [] [] es knows fit legal is = refl
offers_free free g s desk cat w now (t ∷ ts) (o ∷ os) es knows fit legal (first, more, (code_is, price_is, counts), rest, is) =
    let both = two_parts g s desk first more es is (segments_leave s desk cat w t o.free.items first counts) legal in
    let one : o ≡ offer_by free cat w now t =
    same_offer o (code_of (code_for w now t)) (offer_price cat (code_for w now t)) (map (free_by free cat w) t) (ap code_of code_is) price_is
    (segments_free free g s desk cat w t o.free.items first knows fit.0 both.0 counts) in
    ap (λ (x : Offer). x ∷ os) one ∙ ap (λ (l : List Offer). offer_by free cat w now t ∷ l) (offers_free free g s desk cat w now ts os more knows fit.1 both.1 rest)
offers_free free g s desk cat w now [] (o ∷ os) es knows fit legal never = absurd never
offers_free free g s desk cat w now (t ∷ ts) [] es knows fit legal never = absurd never

-- ---- a lone desk's calls

knows : (cat : CatalogueView) (desk : DeskView) → IsLone cat desk → Knows (is_free (plain_of desk).bookings) (state_seen desk)
knows cat desk lone span place = list_is_free cat desk span place lone

pub offers_seen : (cat : CatalogueView) (w : OfferWish) (now : ℕ) (offers : List Offer) (old new : DeskView) → IsLone cat old
    → AddsStepsBy (MakesOffers cat w now offers) old new → (offers ≡ offered cat (plain_of old) w now) × (state_seen new ≡ state_seen old)
offers_seen cat w now offers old new lone (es, did, shape) =
    let f = shape_follows old new es lone.alone shape in
    let trips = trips_of cat.runs (raised w.trip now) in (
      offers_free (is_free (plain_of old).bookings) old.layout (state_seen old) old.number cat w now trips offers es (knows cat old lone) (trips_fit cat old w now lone) f.legal did,
      f.state ∙ offers_leave (state_seen old) old.number cat w now trips offers es did,
    )

pub begun_seen : (cat : CatalogueView) (w : OfferWish) (trips : List (List Segment)) (old new : DeskView) → IsLone cat old
    → AddsStepsBy (BeginsOffers cat w trips) old new → state_seen new ≡ state_seen old
begun_seen cat w trips old new lone (es, (front, rest, counts, are, did), shape) =
    (shape_follows old new es lone.alone shape).state ∙ segments_leave (state_seen old) old.number cat w front counts es did

pub places_seen : (cat : CatalogueView) (places : List PlaceNo) (span : Interval) (states : List Bool) (old new : DeskView) → IsLone cat old → FitsAt span places
    → AddsStepsBy (LooksAt places span states) old new
    → (states ≡ map (λ (p : PlaceNo). is_free (plain_of old).bookings span p.0) places) × (state_seen new ≡ state_seen old)
places_seen cat places span states old new lone fits (es, did, shape) =
    let f = shape_follows old new es lone.alone shape in (
      looks_free (is_free (plain_of old).bookings) old.layout (state_seen old) old.number places span states es (knows cat old lone) fits f.legal did,
      f.state ∙ looks_leave (state_seen old) old.number places span states es did,
    )

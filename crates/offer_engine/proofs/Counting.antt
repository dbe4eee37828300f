-- The looks of segments and trips, one after the other.
use Rattle.std.proofs.Common.{◌∙◌, ℕ, ◌+◌, ◌<◌, List, [], ◌∷◌, ◌++◌, length, take, drop, get_or, refl, sym, ap, subst, append_assoc, append-nil, take-append-drop}
use Rattle.std.specs.Prelude.{Result, Ok, Err, OnErr}
use Rattle.std.specs.List.{flat_map}
use Rattle.std.proofs.lemmas.List.{take_more}
use Rattle.std.proofs.lemmas.Grind.{flat_map-append}
use Rattle.train_runs.specs.declared.segment.Segment.{Segment}
use Rattle.offer_codes.specs.declared.code.Offer.{Offer}
use Rattle.history_model.specs.declared.entry.Step.{Step}
use Rattle.history_model.specs.History.{IsLegal}
use Rattle.claim_rule.specs.Rule.{DeskView}
use Rattle.claim_rule.specs.Calls.{AddsStepsBy}
use Rattle.claim_rule.proofs.Shapes.{shape_then, shape_none}
use Rattle.catalogue_contents.specs.Contents.{CatalogueView}
use Rattle.availability.specs.Looks.{CountsFree}
use Rattle.offer_engine.specs.declared.wish.OfferWish.{OfferWish}
use Rattle.offer_engine.specs.Offers.{wanted_places, CountsSegments, IsOfferFor, OffersFor, BeginsOffers}

counts_append : (cat : CatalogueView) (w : OfferWish) (a b : List Segment) (fa fb : List ℕ) (ea eb : List Step) → CountsSegments cat w a fa ea → CountsSegments cat w b fb eb → CountsSegments cat w (a ++ b) (fa ++ fb) (ea ++ eb)
counts_append cat w [] b [] fb ea eb x y = subst (CountsSegments cat w b fb) (sym (ap (λ (l : List Step). l ++ eb) x)) y
counts_append cat w (s ∷ a) b (n ∷ fa) fb ea eb x y = (x.0, x.1 ++ eb, x.2, counts_append cat w a b fa fb x.1 eb x.3 y, ap (λ (l : List Step). l ++ eb) x.4 ∙ append_assoc x.0 x.1 eb)
counts_append cat w [] b (n ∷ fa) fb ea eb x y = absurd x
counts_append cat w (s ∷ a) b [] fb ea eb x y = absurd x

counts_one : (cat : CatalogueView) (w : OfferWish) (s : Segment) (n : ℕ) (es : List Step) → CountsFree (wanted_places cat w s) s.span n es → CountsSegments cat w (s ∷ []) (n ∷ []) es
counts_one cat w s n es x = (es, [], x, refl, sym (append-nil es))

pub counted_none : (cat : CatalogueView) (w : OfferWish) (desk : DeskView) → IsLegal desk.layout desk.seen → AddsStepsBy (CountsSegments cat w [] []) desk desk
counted_none cat w desk legal = ([], refl, shape_none desk legal)

pub counted_next : (cat : CatalogueView) (w : OfferWish) (old mid new : DeskView) (segments : List Segment) (i : ℕ) (d : Segment) (free : List ℕ) (n : ℕ) → i < length segments
    → AddsStepsBy (CountsSegments cat w (take i segments) free) old mid → AddsStepsBy (CountsFree (wanted_places cat w (get_or segments i d)) (get_or segments i d).span n) mid new
    → AddsStepsBy (CountsSegments cat w (take (i + 1) segments) (free ++ n ∷ [])) old new
counted_next cat w old mid new segments i d free n h so did = (
  so.0 ++ did.0,
  subst (λ (l : List Segment). CountsSegments cat w l (free ++ n ∷ []) (so.0 ++ did.0)) (sym (take_more segments i d h))
      (counts_append cat w (take i segments) (get_or segments i d ∷ []) free (n ∷ []) so.0 did.0 so.1 (counts_one cat w (get_or segments i d) n did.0 did.1)),
  shape_then old mid new so.0 did.0 so.2 did.2,
)

-- the segments of trips, one trip after the other
abbrev all_of : List (List Segment) → List Segment
all_of trips = flat_map (λ t. t) trips

offers_append : (cat : CatalogueView) (w : OfferWish) (now : ℕ) (a : List (List Segment)) (t : List Segment) (oa : List Offer) (o : Offer) (ea eb : List Step) → OffersFor cat w now a oa ea → IsOfferFor cat w now t o eb
    → OffersFor cat w now (a ++ t ∷ []) (oa ++ o ∷ []) (ea ++ eb)
offers_append cat w now [] t [] o ea eb x y = (eb, [], y, refl, ap (λ (l : List Step). l ++ eb) x ∙ sym (append-nil eb))
offers_append cat w now (u ∷ a) t (p ∷ oa) o ea eb x y = (x.0, x.1 ++ eb, x.2, offers_append cat w now a t oa o x.1 eb x.3 y, ap (λ (l : List Step). l ++ eb) x.4 ∙ append_assoc x.0 x.1 eb)
offers_append cat w now [] t (p ∷ oa) o ea eb x y = absurd x
offers_append cat w now (u ∷ a) t [] o ea eb x y = absurd x

-- the looks of whole offers are those of their segments
offers_counts : (cat : CatalogueView) (w : OfferWish) (now : ℕ) (a : List (List Segment)) (oa : List Offer) (ea : List Step) → OffersFor cat w now a oa ea → (free : List ℕ) × CountsSegments cat w (all_of a) free ea
offers_counts cat w now [] [] ea x = ([], x)
offers_counts cat w now (u ∷ a) (p ∷ oa) ea x =
    let more = offers_counts cat w now a oa x.1 x.3 in
    (p.free.items ++ more.0, subst (CountsSegments cat w (all_of (u ∷ a)) (p.free.items ++ more.0)) (sym x.4) (counts_append cat w u (all_of a) p.free.items more.0 x.0 x.1 x.2.2 more.1))
offers_counts cat w now [] (p ∷ oa) ea x = absurd x
offers_counts cat w now (u ∷ a) [] ea x = absurd x

pub offers_none : (cat : CatalogueView) (w : OfferWish) (now : ℕ) (desk : DeskView) → IsLegal desk.layout desk.seen → AddsStepsBy (OffersFor cat w now [] []) desk desk
offers_none cat w now desk legal = ([], refl, shape_none desk legal)

pub offers_next : (cat : CatalogueView) (w : OfferWish) (now : ℕ) (old mid new : DeskView) (trips : List (List Segment)) (i : ℕ) (d : List Segment) (made : List Offer) (o : Offer) → i < length trips
    → AddsStepsBy (OffersFor cat w now (take i trips) made) old mid → AddsStepsBy (IsOfferFor cat w now (get_or trips i d) o) mid new → AddsStepsBy (OffersFor cat w now (take (i + 1) trips) (made ++ o ∷ [])) old new
offers_next cat w now old mid new trips i d made o h so did = (
  so.0 ++ did.0,
  subst (λ (l : List (List Segment)). OffersFor cat w now l (made ++ o ∷ []) (so.0 ++ did.0)) (sym (take_more trips i d h)) (offers_append cat w now (take i trips) (get_or trips i d) made o so.0 did.0 so.1 did.1),
  shape_then old mid new so.0 did.0 so.2 did.2,
)

pub begun_none : (cat : CatalogueView) (w : OfferWish) (desk : DeskView) (trips : List (List Segment)) → IsLegal desk.layout desk.seen → AddsStepsBy (BeginsOffers cat w trips) desk desk
begun_none cat w desk trips legal = ([], ([], all_of trips, [], refl, refl), shape_none desk legal)

pub begun_whole : (cat : CatalogueView) (w : OfferWish) (now : ℕ) (old mid : DeskView) (trips : List (List Segment)) (i : ℕ) (made : List Offer) → AddsStepsBy (OffersFor cat w now (take i trips) made) old mid → AddsStepsBy (BeginsOffers cat w trips) old mid
begun_whole cat w now old mid trips i made so =
    let counts = offers_counts cat w now (take i trips) made so.0 so.1 in
    (so.0, (all_of (take i trips), all_of (drop i trips), counts.0, ap all_of (sym (take-append-drop i trips)) ∙ flat_map-append (λ t. t) (take i trips) (drop i trips), counts.1), so.2)

pub on_err : {T E P : Type 0} (r : Result T E) → P → OnErr r P
on_err (Ok x) p = tt
on_err (Err e) p = p

-- The replies to searches.
use Rattle.std.proofs.Common.{◌≡◌, ◌∙◌, inl, inr, ℕ, Bool, List, Result, Ok, Err, IfOk, IfErr, refl, ap, subst}
use Rattle.train_runs.specs.declared.segment.Segment.{Segment}
use Rattle.offer_codes.specs.declared.code.Offer.{Offer}
use Rattle.rail_ids.specs.declared.PlaceNo.{PlaceNo}
use Rattle.catalogue_contents.specs.Contents.{CatalogueView}
use Rattle.offer_engine.specs.declared.wish.OfferWish.{OfferWish}
use Rattle.offer_engine.specs.Offers.{MakesOffers, BeginsMaking}
use Rattle.availability.specs.Looks.{LooksAt}
use Rattle.claim_rule.specs.Rule.{DeskView}
use Rattle.claim_rule.specs.Calls.{AddsStepsBy}
use Rattle.osdm_parts.specs.declared.problem.Problem.{Problem}
use Rattle.osdm_parts.specs.declared.problem.Problem.TheVariants.{NoMemory}
use Rattle.osdm_texts.specs.declared.written.Written.{Written}
use Rattle.osdm_texts.specs.Answers.{Reply, offer_list, place_list, problem, Told, refused, reply_told, told_of, Tells}
use Rattle.osdm_texts.proofs.Telling.{of_problem}
use Rattle.search_service.specs.Searching.{ToldOr, SearchesOffers, ListsPlaces, numbers_on}

abbrev pub Searched : CatalogueView → OfferWish → ℕ → DeskView → DeskView → Told → Type 0
Searched cat w now old new written = (reply : Reply) × SearchesOffers cat w now old new reply × (written ≡ reply_told cat reply)

-- a text tells the reply, or there was no memory for it
pub told_or : (cat : CatalogueView) (reply : Reply) (r : Result Written Problem) → IfOk r (Tells cat reply) → IfErr r (λ p. p ≡ NoMemory)
    → (said : Reply) × ToldOr reply said × (told_of r ≡ reply_told cat said)
told_or cat reply (Ok w) is none = (reply, inl refl, is)
told_or cat reply (Err p) is none = (problem NoMemory, inr refl, ap refused none ∙ of_problem cat NoMemory)

pub searched : (cat : CatalogueView) (w : OfferWish) (now : ℕ) (offers : List Offer) (old new : DeskView) (r : Result Written Problem)
    → AddsStepsBy (MakesOffers cat w now offers) old new → IfOk r (Tells cat (offer_list offers)) → IfErr r (λ p. p ≡ NoMemory) → Searched cat w now old new (told_of r)
searched cat w now offers old new r did is none = let t = told_or cat (offer_list offers) r is none in (t.0, inl (offers, did, t.1), t.2)

pub search_begun : (cat : CatalogueView) (w : OfferWish) (now : ℕ) (old new : DeskView)
    → AddsStepsBy (BeginsMaking cat w now) old new → Searched cat w now old new (refused NoMemory)
search_begun cat w now old new did = (problem NoMemory, inr (did, refl), of_problem cat NoMemory)

abbrev pub Listed : CatalogueView → Segment → DeskView → DeskView → Told → Type 0
Listed cat s old new written = (reply : Reply) × ListsPlaces cat s old new reply × (written ≡ reply_told cat reply)

looks_on : (cat : CatalogueView) (s : Segment) (numbers : List PlaceNo) (free : List Bool) (old new : DeskView) → numbers ≡ numbers_on cat s.run.0 → AddsStepsBy (LooksAt numbers s.span free) old new
    → AddsStepsBy (LooksAt (numbers_on cat s.run.0) s.span free) old new
looks_on cat s numbers free old new same did = subst (λ (l : List PlaceNo). AddsStepsBy (LooksAt l s.span free) old new) same did

pub listed : (cat : CatalogueView) (s : Segment) (numbers : List PlaceNo) (free : List Bool) (old new : DeskView) (r : Result Written Problem) → numbers ≡ numbers_on cat s.run.0
    → AddsStepsBy (LooksAt numbers s.span free) old new → IfOk r (Tells cat (place_list s.run.0 free)) → IfErr r (λ p. p ≡ NoMemory) → Listed cat s old new (told_of r)
listed cat s numbers free old new r same did is none =
    let t = told_or cat (place_list s.run.0 free) r is none in (t.0, inl (free, looks_on cat s numbers free old new same did, t.1), t.2)

pub unlisted : (cat : CatalogueView) (s : Segment) (old new : DeskView) → new ≡ old → Listed cat s old new (refused NoMemory)
unlisted cat s old new same = (problem NoMemory, inr (same, refl), of_problem cat NoMemory)

-- Searching for offers and for free places, and what is answered.
use Rattle.std.specs.Prelude.{◌≡◌, ◌⊎◌, ℕ, ◌==◌, Bool, List}
use Rattle.rail_ids.specs.declared.PlaceNo.{PlaceNo}
use Rattle.place_map.specs.Candidates.{numbers_of}
use Rattle.train_runs.specs.declared.segment.Segment.{Segment}
use Rattle.offer_codes.specs.declared.code.Offer.{Offer}
use Rattle.catalogue_contents.specs.Contents.{CatalogueView}
use Rattle.offer_engine.specs.declared.wish.OfferWish.{OfferWish}
use Rattle.offer_engine.specs.Offers.{MakesOffers, BeginsMaking}
use Rattle.availability.specs.Looks.{LooksAt}
use Rattle.claim_rule.specs.Rule.{DeskView}
use Rattle.claim_rule.specs.Calls.{AddsStepsBy}
use Rattle.osdm_parts.specs.declared.problem.Problem.TheVariants.{NoMemory}
use Rattle.osdm_texts.specs.Answers.{Reply, offer_list, place_list, problem}

-- told, or without memory for the answer
abbrev pub ToldOr : Reply → Reply → Type 0
ToldOr told reply = (reply ≡ told) ⊎ (reply ≡ problem NoMemory)

-- the offers of the wish from now on, or, without memory for them, the looks of the first
abbrev pub SearchesOffers : CatalogueView → OfferWish → ℕ → DeskView → DeskView → Reply → Type 0
SearchesOffers cat wish now old new reply =
    ((offers : List Offer) × AddsStepsBy (MakesOffers cat wish now offers) old new × ToldOr (offer_list offers) reply)
    ⊎ (AddsStepsBy (BeginsMaking cat wish now) old new × (reply ≡ problem NoMemory))

-- the numbers of a run's places, in order
abbrev pub numbers_on : CatalogueView → ℕ → List PlaceNo
numbers_on cat run = numbers_of (λ p. p.run.0 == run) 0 cat.places

-- of each place of the segment's run whether it is free on the segment's span, or, without memory for them, no look
abbrev pub ListsPlaces : CatalogueView → Segment → DeskView → DeskView → Reply → Type 0
ListsPlaces cat s old new reply =
    ((free : List Bool) × AddsStepsBy (LooksAt (numbers_on cat s.run.0) s.span free) old new
    × ToldOr (place_list s.run.0 free) reply)
    ⊎ ((new ≡ old) × (reply ≡ problem NoMemory))

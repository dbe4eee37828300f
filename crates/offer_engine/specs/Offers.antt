-- The offers of a wish, and the looks that they are made of.
use Rattle.std.specs.Prelude.{◌≡◌, ℕ, max, List, [], ◌∷◌, ◌++◌}
use Rattle.std.specs.List.{flat_map}
use Rattle.rail_ids.specs.declared.PlaceNo.{PlaceNo}
use Rattle.place_map.specs.Candidates.{candidates_of}
use Rattle.train_runs.specs.declared.segment.Segment.{Segment}
use Rattle.offer_codes.specs.declared.code.Offer.{Offer}
use Rattle.offer_codes.specs.Offers.{OfferView, offer_view}
use Rattle.catalogue_contents.specs.Contents.{CatalogueView}
use Rattle.offer_prices.specs.Prices.{offer_price}
use Rattle.train_runs.specs.declared.wish.TripWish.{TripWish}
use Rattle.history_model.specs.declared.entry.Step.{Step}
use Rattle.availability.specs.Looks.{CountsFree}
use Rattle.offer_engine.specs.declared.wish.OfferWish.{OfferWish}
use Rattle.trip_builder.specs.Trips.{trips_of}

-- the wish from this moment on
abbrev pub raised : TripWish → ℕ → TripWish
raised w now = record w { earliest = max w.earliest now }

abbrev pub code_for : OfferWish → ℕ → List Segment → OfferView
code_for w now segments =
    record {
      made = now;
      adults = w.adults;
      children = w.children;
      class = w.class;
      wanted = w.wanted;
      segments = segments;
    }

-- the places of the segment's run that the wish may have
abbrev pub wanted_places : CatalogueView → OfferWish → Segment → List PlaceNo
wanted_places cat w s = candidates_of s.run.0 w.class w.wanted cat.places

-- how many of the segment's wanted places are free on it, by a look at each piece of each in order
abbrev pub CountsSegment : CatalogueView → OfferWish → Segment → ℕ → List Step → Type 0
CountsSegment cat w s n es = CountsFree (wanted_places cat w s) s.span n es

-- the same of each of the segments
abbrev pub CountsSegments : CatalogueView → OfferWish → List Segment → List ℕ → List Step → Type 0
CountsSegments cat w [] [] es = es ≡ []
CountsSegments cat w (s ∷ rest) (n ∷ free) es =
    (first : List Step) × (more : List Step) × CountsSegment cat w s n first × CountsSegments cat w rest free more
    × (es ≡ first ++ more)
CountsSegments cat w [] (n ∷ free) es = ⊥
CountsSegments cat w (s ∷ rest) [] es = ⊥

-- and of the first of them
abbrev pub BeginsCounts : CatalogueView → OfferWish → List Segment → List Step → Type 0
BeginsCounts cat w segments es =
    (front : List Segment) × (rest : List Segment) × (free : List ℕ) × (segments ≡ front ++ rest)
    × CountsSegments cat w front free es

-- the offer of a trip, with its looks
abbrev pub IsOfferFor : CatalogueView → OfferWish → ℕ → List Segment → Offer → List Step → Type 0
IsOfferFor cat w now trip o es =
    (offer_view o.code ≡ code_for w now trip) × (o.price ≡ offer_price cat (code_for w now trip))
    × CountsSegments cat w trip o.free.items es

-- an offer for each of the trips, in order
abbrev pub OffersFor : CatalogueView → OfferWish → ℕ → List (List Segment) → List Offer → List Step → Type 0
OffersFor cat w now [] [] es = es ≡ []
OffersFor cat w now (t ∷ trips) (o ∷ offers) es =
    (first : List Step) × (more : List Step) × IsOfferFor cat w now t o first × OffersFor cat w now trips offers more
    × (es ≡ first ++ more)
OffersFor cat w now [] (o ∷ offers) es = ⊥
OffersFor cat w now (t ∷ trips) [] es = ⊥

-- the looks of the first segments of the trips, one trip after the other
abbrev pub BeginsOffers : CatalogueView → OfferWish → List (List Segment) → List Step → Type 0
BeginsOffers cat w trips es = BeginsCounts cat w (flat_map (λ t. t) trips) es

-- an offer for each trip of the wish from this moment on
abbrev pub MakesOffers : CatalogueView → OfferWish → ℕ → List Offer → List Step → Type 0
MakesOffers cat w now offers es = OffersFor cat w now (trips_of cat.runs (raised w.trip now)) offers es

-- the looks of the first segments of these trips
abbrev pub BeginsMaking : CatalogueView → OfferWish → ℕ → List Step → Type 0
BeginsMaking cat w now es = BeginsOffers cat w (trips_of cat.runs (raised w.trip now)) es

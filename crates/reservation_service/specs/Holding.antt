-- Places for each segment of an offer, on a hold.
use Rattle.std.specs.Prelude.{◌≡◌, ◌≢◌, ◌⊎◌, ℕ, Bool, true, false, ◌+◌, ◌*◌, List, [], ◌∷◌, ◌++◌, length, map, Option, Some, None}
use Rattle.std.specs.List.{AllByRecursion, flat_map}
use Rattle.leg_masks.specs.Interval.{items_at, pieces}
use Rattle.leg_masks.specs.Interval.{PlacedSpan as Item}
use Rattle.rail_ids.specs.declared.RowNo.{RowNo}
use Rattle.place_map.specs.Candidates.{candidates_of}
use Rattle.train_runs.specs.declared.segment.Segment.{Segment}
use Rattle.offer_codes.specs.Offers.{OfferView}
use Rattle.catalogue_contents.specs.Contents.{CatalogueView}
use Rattle.history_model.specs.Lists.{Pairwise}
use Rattle.claim_rule.specs.Rule.{DeskView}
use Rattle.claim_rule.specs.Desks.{AddsSteps}
use Rattle.claim_rule.specs.Calls.{AddsStepsBy}
use Rattle.booking_rows.specs.Starts.{StartsHold}
use Rattle.hold_core.specs.declared.adds.Added.{Added}
use Rattle.hold_core.specs.declared.adds.Added.TheVariants as added
use Rattle.hold_core.specs.Tries.{place_number}
use Rattle.hold_core.specs.Places.{Adds, gives_back}
use Rattle.party_places.specs.declared.party.PartyAdded.{PartyAdded}
use Rattle.party_places.specs.declared.party.PartyAdded.TheVariants as party
use Rattle.party_places.specs.Parties.{Party, SeatsParty}
use Rattle.party_places.specs.Causes.{SpoilsAll}
use Rattle.osdm_parts.specs.declared.problem.Problem.{Problem}
use Rattle.osdm_parts.specs.declared.problem.Problem.TheVariants as problem
use Rattle.reservation_service.specs.declared.holding.Placing.{Placing}
use Rattle.reservation_service.specs.declared.holding.Placing.TheVariants.{Whole, Short, Contended, NoMemory}

-- one place for each passenger
abbrev pub count_of : OfferView → ℕ
count_of o = o.adults + o.children

-- how many items the passengers take at a segment: for each an item for each piece of the span
abbrev pub items_wanted : OfferView → Segment → ℕ
items_wanted o s = count_of o * length (pieces s.span)

-- the places that a segment of the offer may have
abbrev pub candidates_in : CatalogueView → OfferView → Segment → List ℕ
candidates_in cat o s = map place_number (candidates_of s.run.0 o.class o.wanted cat.places)

-- what an answer means for a segment, where places were added one by one, and for a party
abbrev pub placing_of : Added → Placing
placing_of added.All = Whole
placing_of (added.NoPlace won) = Short
placing_of (added.Contended place) = Contended

abbrev pub placing_of_party : PartyAdded → Placing
placing_of_party (party.Together first) = Whole
placing_of_party party.Apart = Whole
placing_of_party (party.NoPlace won) = Short
placing_of_party (party.Contended place) = Contended

-- what is asked for a party at a segment, on a hold of the row that has that many items
abbrev pub party_at : CatalogueView → OfferView → RowNo → ℕ → Segment → Party
party_at cat o row items s = record {
  places = cat.places;
  row = row.row;
  items = items;
  span = s.span;
  count = count_of o;
  candidates = candidates_in cat o s;
}

-- Places were added for this segment to a hold of the row that had these items. That is done as for a party where it
-- was asked for, which sits apart only where each stretch of the candidates was spoilt; else one by one
abbrev pub AddsSegment : CatalogueView → OfferView → Bool → RowNo → List Item → Segment → Placing → List Item → DeskView
    → DeskView → Type 0
AddsSegment cat o false row items s placing won old new =
    (answer : Added) × (placing ≡ placing_of answer)
    × AddsStepsBy (Adds row.row (length items) s.span (count_of o) (candidates_in cat o s) answer won) old new
AddsSegment cat o true row items s placing won old new =
    (answer : PartyAdded) × (placing ≡ placing_of_party answer)
    × AddsStepsBy (SeatsParty (party_at cat o row (length items) s) answer won) old new
    × AddsStepsBy (SpoilsAll (party_at cat o row (length items) s) answer) old new

-- From a hold of the row with `items` to one with `all`: places are added for each segment in order. That ends early at
-- a segment that doesn't get all its places, of which those that were won stay on the hold; or at one for which there
-- is no memory, and at which nothing is done. Memory is taken only for passengers who want traits and are to sit
-- together.
abbrev pub PlacesAll : CatalogueView → OfferView → Bool → RowNo → List Item → List Segment → Placing → List Item
    → DeskView → DeskView → Type 0
PlacesAll cat o together row items [] placing all old new = (placing ≡ Whole) × (all ≡ items) × (new ≡ old)
PlacesAll cat o together row items (s ∷ rest) placing all old new =
    ((mine : Placing) × (won : List Item) × (mid : DeskView) × AddsSegment cat o together row items s mine won old mid
    × (((mine ≡ Whole) × PlacesAll cat o together row (items ++ won) rest placing all mid new)
    ⊎ ((mine ≢ Whole) × (placing ≡ mine) × (all ≡ items ++ won) × (new ≡ mid))))
    ⊎ ((placing ≡ NoMemory) × (all ≡ items) × (new ≡ old) × (together ≡ true) × (o.wanted ≢ 0))

-- a hold was started on the row, and places added for these segments
abbrev pub HoldsPlaces : CatalogueView → OfferView → Bool → List Segment → RowNo → Placing → List Item → DeskView
    → DeskView → Type 0
HoldsPlaces cat o together segments row placing items old new =
    (mid : DeskView) × AddsStepsBy (StartsHold old mid (Some row)) old mid
    × PlacesAll cat o together row [] segments placing items mid new

abbrev pub FindsNoRow : DeskView → DeskView → Type 0
FindsNoRow old new = AddsStepsBy (StartsHold old new None) old new

-- what was held is given back
abbrev pub GivesUp : RowNo → List Item → DeskView → DeskView → Type 0
GivesUp row items old new = AddsSteps old new (gives_back row.row (length items))

-- what is wrong with a placing that is not whole
abbrev pub problem_of : Placing → Option Problem
problem_of Whole = None
problem_of Short = Some problem.NoPlace
problem_of Contended = Some problem.Contended
problem_of NoMemory = Some problem.NoMemory

abbrev pub In : ℕ → List ℕ → Type 0
In p [] = ⊥
In p (q ∷ rest) = (p ≡ q) ⊎ In p rest

-- the items of that many passengers at a segment: each has a place of the candidates, all of these are different, and
-- at each in turn there are exactly the pieces of the segment's span
pub record AreOf (s : Segment) (count : ℕ) (candidates : List ℕ) (items : List Item) : Type 0 where
  pub places : List ℕ
  pub many : length places ≡ count
  pub among : AllByRecursion (λ p. In p candidates) places
  pub different : Pairwise (λ p q. p ≢ q) places
  pub are : items ≡ flat_map (items_at s.span) places

-- for each segment in order the items of all passengers, and nothing else
abbrev pub HasAllPlaces : CatalogueView → OfferView → List Segment → List Item → Type 0
HasAllPlaces cat o [] items = items ≡ []
HasAllPlaces cat o (s ∷ rest) items =
    (mine : List Item) × (more : List Item) × AreOf s (count_of o) (candidates_in cat o s) mine
    × HasAllPlaces cat o rest more × (items ≡ mine ++ more)

-- Booking the places of an offer, and what is answered.
use Rattle.std.specs.Prelude.{◌≡◌, ◌⊎◌, ℕ, ◌+◌, min, Bool, List, [], ◌∷◌, ◌++◌, length, Some}
use Rattle.leg_masks.specs.Interval.{PlacedSpan as Item}
use Rattle.rail_ids.specs.declared.RowNo.{RowNo}
use Rattle.rail_time.specs.Moments.{last_second}
use Rattle.place_map.specs.declared.coach.Class.{Class}
use Rattle.train_runs.specs.declared.segment.Segment.{Segment}
use Rattle.offer_codes.specs.Offers.{OfferView}
use Rattle.catalogue_contents.specs.Contents.{CatalogueView}
use Rattle.offer_prices.specs.Prices.{offer_price}
use Rattle.history_model.specs.declared.entry.Step.TheVariants.{Seal}
use Rattle.history_model.specs.declared.phase.Phase.TheVariants as phase
use Rattle.claim_rule.specs.Rule.{DeskView}
use Rattle.claim_rule.specs.Desks.{AddsSteps}
use Rattle.claim_rule.specs.Out.{MakesEmpty, SealsItems}
use Rattle.booking_rows.specs.declared.notes.Detail.{Detail}
use Rattle.booking_rows.specs.Notes.{detail_notes}
use Rattle.osdm_parts.specs.declared.problem.Problem.{Problem}
use Rattle.osdm_parts.specs.declared.problem.Problem.TheVariants.{RowsFull, NoMemory}
use Rattle.osdm_texts.specs.Answers.{Reply, created, exchanged, problem, Told, reply_told}
use Rattle.osdm_texts.specs.Seen.{made_view}
use Rattle.reservation_service.specs.declared.holding.Placing.{Placing}
use Rattle.reservation_service.specs.declared.holding.Placing.TheVariants.{Whole}
use Rattle.reservation_service.specs.Holding.{PlacesAll, HoldsPlaces, FindsNoRow, GivesUp, problem_of, HasAllPlaces}

-- what a reservation asks for: one segment, for that many adults
abbrev pub reserved : Segment → Class → ℕ → ℕ → ℕ → OfferView
reserved s class count wanted now =
    record { made = now; adults = count; children = 0; class = class; wanted = wanted; segments = s ∷ [] }

-- the detail of a booking made at this moment: it can be confirmed for the catalogue's time
abbrev pub detail_of : CatalogueView → OfferView → ℕ → ℕ → Detail
detail_of cat o retailer now =
    record {
      retailer = record { 0 = retailer };
      limit = min (now + cat.terms.confirm_seconds) last_second;
      total = offer_price cat o;
    }

-- all places are held, noted and sealed
abbrev pub Prebooks : CatalogueView → ℕ → ℕ → OfferView → Bool → DeskView → DeskView → Reply → Type 0
Prebooks cat retailer now o together old new reply =
    (row : RowNo) × (items : List Item) × (mid : DeskView)
    × HoldsPlaces cat o together o.segments row Whole items old mid
    × AddsSteps mid new (detail_notes row.row (detail_of cat o retailer now) (length items)
    ++ Seal row.row phase.Prebooked
    ∷ [])
    × (reply ≡ created row (made_view phase.Prebooked (detail_of cat o retailer now) items))

-- No row was free or could be started again; or there were too few places for a segment, or one was contended, or no
-- memory to go on, and what was held is given back
abbrev pub FailsToHold : CatalogueView → OfferView → Bool → DeskView → DeskView → Reply → Type 0
FailsToHold cat o together old new reply =
    (FindsNoRow old new × (reply ≡ problem RowsFull))
    ⊎ ((row : RowNo) × (placing : Placing) × (reason : Problem) × (items : List Item) × (mid : DeskView)
    × HoldsPlaces cat o together o.segments row placing items old mid × (problem_of placing ≡ Some reason)
    × GivesUp row items mid new
    × (reply ≡ problem reason))

-- all places were held, and are given back, since there was no memory for the answer
abbrev pub Falters : CatalogueView → OfferView → Bool → DeskView → DeskView → Type 0
Falters cat o together old new =
    (row : RowNo) × (items : List Item) × (mid : DeskView)
    × HoldsPlaces cat o together o.segments row Whole items old mid × GivesUp row items mid new

-- all places were added to a hold of the row, and then the detail noted; and this is told of the booking that it will
-- be
abbrev pub MakesReady : CatalogueView → ℕ → ℕ → OfferView → Bool → RowNo → List Item → DeskView → DeskView → Told
    → Type 0
MakesReady cat retailer now o together row items old new said =
    (mid : DeskView) × PlacesAll cat o together row [] o.segments Whole items old mid
    × AddsSteps mid new (detail_notes row.row (detail_of cat o retailer now) (length items))
    × (said ≡ reply_told cat (created row (made_view phase.Prebooked (detail_of cat o retailer now) items)))

-- places were added to a hold of the row, but not all; or all were, and there was no memory for the answer
abbrev pub FallsShort : CatalogueView → OfferView → Bool → RowNo → List Item → Problem → DeskView → DeskView → Type 0
FallsShort cat o together row items why old new =
    (placing : Placing) × PlacesAll cat o together row [] o.segments placing items old new
    × ((problem_of placing ≡ Some why) ⊎ ((placing ≡ Whole) × (why ≡ NoMemory)))

-- a hold with all its places is sealed with this detail; or given back, since there was no memory for the answer
abbrev pub SealsHold : RowNo → List Item → Detail → DeskView → DeskView → Reply → Type 0
SealsHold row items d old new reply =
    (AddsSteps old new (detail_notes row.row d (length items) ++ Seal row.row phase.Prebooked ∷ [])
    × SealsItems old new row phase.Prebooked items
    × (reply ≡ created row (made_view phase.Prebooked d items)))
    ⊎ (GivesUp row items old new × (reply ≡ problem NoMemory))

-- what booking the places of an offer does, and is answered
abbrev pub Reserves : CatalogueView → ℕ → ℕ → OfferView → Bool → DeskView → DeskView → Reply → Type 0
Reserves cat retailer now o together old new reply =
    Prebooks cat retailer now o together old new reply
    ⊎ (FailsToHold cat o together old new reply ⊎ (Falters cat o together old new × (reply ≡ problem NoMemory)))

-- the booking that the seal left has all its places, and nothing else; after any other answer the desk's row in
-- the making, where it has one, has no item
abbrev pub HasAllOrNone : CatalogueView → OfferView → DeskView → DeskView → Reply → Type 0
HasAllOrNone cat o old new (created row v) =
    SealsItems old new row phase.Prebooked v.items × HasAllPlaces cat o o.segments v.items
HasAllOrNone cat o old new (exchanged row v difference replaced) =
    SealsItems old new row phase.Confirmed v.items × HasAllPlaces cat o o.segments v.items
HasAllOrNone cat o old new reply = MakesEmpty new

-- such a reply, which has all places or none, and what is told of it
abbrev pub AnswersReserving : CatalogueView → ℕ → ℕ → OfferView → Bool → DeskView → DeskView → Told → Type 0
AnswersReserving cat retailer now o together old new said =
    (reply : Reply) × Reserves cat retailer now o together old new reply × HasAllOrNone cat o old new reply
    × (said ≡ reply_told cat reply)

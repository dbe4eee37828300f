-- How many items the passengers have at the places won, and what a whole segment has.
use Rattle.std.proofs.Common.{◌≡◌, ◌∙◌, Bool, true, false, ⊎_elim, inl, inr, ℕ, ◌*◌, ◌≤◌, List, [], ◌∷◌, length, refl, sym, ap, subst, arith, length-append}
use Rattle.std.proofs.Math.Nat.{zero-mul, suc-mul}
use Rattle.std.proofs.lemmas.List.{length-map}
use Rattle.std.specs.List.{flat_map}
use Rattle.rail_ids.specs.declared.RowNo.{RowNo}
use Rattle.leg_masks.specs.Interval.{Interval, IsPiece, is_piece, pieces, items_at, PlacedSpan as Item}
use Rattle.leg_masks.proofs.HalfLegs.{pieces-whole, pieces-border, cases_piece}
use Rattle.history_model.proofs.ListLemmas.{All-map}
use Rattle.claim_rule.specs.Rule.{DeskView}
use Rattle.hold_core.specs.declared.adds.Added.{Added}
use Rattle.hold_core.specs.declared.adds.Added.TheVariants as added
use Rattle.hold_core.specs.Places.{Adds}
use Rattle.party_places.specs.declared.party.PartyAdded.{PartyAdded}
use Rattle.party_places.specs.declared.party.PartyAdded.TheVariants as party
use Rattle.party_places.specs.Causes.{IsIn}
use Rattle.party_places.proofs.Seated.{HasSeats, IsWhole, adds_seats, party_seats}
use Rattle.train_runs.specs.declared.segment.Segment.{Segment}
use Rattle.offer_codes.specs.Offers.{OfferView}
use Rattle.catalogue_contents.specs.Contents.{CatalogueView}
use Rattle.reservation_service.specs.declared.holding.Placing.{Placing}
use Rattle.reservation_service.specs.declared.holding.Placing.TheVariants.{Whole, Short, Contended}
use Rattle.reservation_service.specs.Holding.{count_of, items_wanted, candidates_in, placing_of, placing_of_party, party_at, AddsSegment, In, AreOf}
use Rattle.reservation_service.proofs.Candidates.{candidates_apart}

-- one to eight places have one item each, or two
pub few_items : (span : Interval) (count : ℕ) → 1 ≤ count → count ≤ 8 → (1 ≤ count * length (pieces span)) × (count * length (pieces span) ≤ 16)
few_items span count some few = ⊎_elim
    (λ (p : IsPiece span). rw (pieces-whole span p) (omega (arith, some), omega (arith, few)))
    (λ (b : is_piece span ≡ false). rw (pieces-border span b) (omega (arith, some), omega (arith, few)))
    (cases_piece span)

items_many : (span : Interval) (ps : List ℕ) → length (flat_map (items_at span) ps) ≡ length ps * length (pieces span)
items_many span [] = sym (zero-mul (length (pieces span)))
items_many span (p ∷ ps) =
    let here : length (items_at span p) ≡ length (pieces span) = length-map (pieces span) (λ (q : Interval). record { place = p; span = q }) in
    let all = length-append (items_at span p) (flat_map (items_at span) ps) in
    let rest = items_many span ps in
    let more = suc-mul (length ps) (length (pieces span)) in
    omega (arith, here, all, rest, more)

whole_added : (a : Added) → placing_of a ≡ Whole → a ≡ added.All
whole_added added.All e = refl
whole_added (added.NoPlace won) e = absurd (let f : Short ≡ Whole = e in cc)
whole_added (added.Contended place) e = absurd (let f : Contended ≡ Whole = e in cc)

whole_party : (a : PartyAdded) → placing_of_party a ≡ Whole → IsWhole a
whole_party (party.Together first) e = tt
whole_party party.Apart e = tt
whole_party (party.NoPlace won) e = absurd (let f : Short ≡ Whole = e in cc)
whole_party (party.Contended place) e = absurd (let f : Contended ≡ Whole = e in cc)

-- the places of a segment that has them all
pub whole_seats : (cat : CatalogueView) (o : OfferView) (together : Bool) (row : RowNo) (items won : List Item) (s : Segment) (mine : Placing) (old new : DeskView)
    → AddsSegment cat o together row items s mine won old new → mine ≡ Whole → HasSeats s.span (count_of o) (candidates_in cat o s) won
whole_seats cat o false row items won s mine old new (answer, is, did) e =
    let all = whole_added answer (sym is ∙ e) in
    adds_seats row.row (length items) s.span (count_of o) (candidates_in cat o s) won did.0 (candidates_apart cat o s)
    (subst (λ (a : Added). Adds row.row (length items) s.span (count_of o) (candidates_in cat o s) a won did.0) all did.1)
whole_seats cat o true row items won s mine old new (answer, is, did, spoils) e =
    party_seats (party_at cat o row (length items) s) answer won did.0 (candidates_apart cat o s) (whole_party answer (sym is ∙ e)) did.1

-- how many items it has
pub won_all : (cat : CatalogueView) (o : OfferView) (together : Bool) (row : RowNo) (items won : List Item) (s : Segment) (mine : Placing) (old new : DeskView)
    → AddsSegment cat o together row items s mine won old new → mine ≡ Whole → length won ≡ items_wanted o s
won_all cat o together row items won s mine old new did e =
    let has = whole_seats cat o together row items won s mine old new did e in
    ap length has.are ∙ (items_many s.span has.places ∙ ap (λ (n : ℕ). n * length (pieces s.span)) has.many)

-- and which
pub all_of : (cat : CatalogueView) (o : OfferView) (together : Bool) (row : RowNo) (items won : List Item) (s : Segment) (mine : Placing) (old new : DeskView)
    → AddsSegment cat o together row items s mine won old new → mine ≡ Whole → AreOf s (count_of o) (candidates_in cat o s) won
all_of cat o together row items won s mine old new did e =
    let has = whole_seats cat o together row items won s mine old new did e in
    record { places = has.places; many = has.many; among = All-map is_in has.places has.among; different = has.different; are = has.are }
  where
    in_them : (p : ℕ) (ps : List ℕ) → IsIn p ps → In p ps
    in_them p (q ∷ ps) (inl is) = inl is
    in_them p (q ∷ ps) (inr at) = inr (in_them p ps at)
    in_them p [] at = absurd at

    is_in : (p : ℕ) → IsIn p (candidates_in cat o s) → In p (candidates_in cat o s)
    is_in p at = in_them p (candidates_in cat o s) at

-- Placings of segments, one after the other, and what a whole one has.
use Rattle.std.proofs.Common.{◌≡◌, ◌≢◌, ◌∙◌, Bool, true, false, ◌&&◌, inl, inr, ℕ, ◌+◌, ◌*◌, ◌<◌, ◌≤◌, List, [], ◌∷◌, ◌++◌, length, map, take, drop, get_or, refl, sym, ap, subst, arith, append_assoc, append-nil, length-append, take-append-drop, length-take}
use Rattle.rail_ids.specs.declared.RowNo.{RowNo}
use Rattle.rail_ids.specs.declared.PlaceNo.{PlaceNo}
use Rattle.std.specs.Prelude.{nat_le}
use Rattle.std.proofs.lemmas.Bool.{leb-true}
use Rattle.std.proofs.lemmas.List.{take_more}
use Rattle.leg_masks.specs.Interval.{PlacedSpan as Item}
use Rattle.history_model.specs.Booking.{most_items}
use Rattle.train_runs.specs.declared.segment.Segment.{Segment}
use Rattle.offer_codes.specs.Offers.{OfferView, is_party}
use Rattle.catalogue_contents.specs.Contents.{CatalogueView}
use Rattle.place_map.specs.declared.coach.Place.{Place}
use Rattle.place_map.specs.Candidates.{candidates_of}
use Rattle.claim_rule.specs.Rule.{DeskView}
use Rattle.claim_rule.specs.Calls.{AddsStepsBy}
use Rattle.claim_rule.specs.Holds.{HoldView}
use Rattle.hold_core.specs.declared.adds.Added.{Added}
use Rattle.hold_core.specs.declared.adds.Added.TheVariants as added
use Rattle.hold_core.specs.Tries.{place_number, with_items}
use Rattle.hold_core.specs.Places.{Adds, AddsPlaces}
use Rattle.party_places.specs.declared.party.PartyAdded.{PartyAdded}
use Rattle.party_places.specs.Parties.{Party, asked, SeatsParty}
use Rattle.party_places.specs.Causes.{SpoilsAll}
use Rattle.reservation_service.specs.declared.holding.Placing.{Placing}
use Rattle.reservation_service.specs.declared.holding.Placing.TheVariants.{Whole, Short, Contended, NoMemory}
use Rattle.reservation_service.specs.Holding.{count_of, items_wanted, placing_of, placing_of_party, party_at, AddsSegment, PlacesAll, HasAllPlaces}
use Rattle.reservation_service.proofs.Won.{few_items, won_all, all_of}

memory_not : (p : Placing) → p ≡ NoMemory → p ≡ Whole → ⊥
memory_not p none e = let no : Whole ≡ NoMemory = sym e ∙ none in cc

-- one segment

pub one_segment : (cat : CatalogueView) (o : OfferView) (together : Bool) (row : RowNo) (items won : List Item) (s : Segment) (mine : Placing) (all : List Item) (old new : DeskView) → AddsSegment cat o together row items s mine won old new → all ≡ items ++ won
    → PlacesAll cat o together row items (s ∷ []) mine all old new
one_segment cat o together row items won s Whole all old new did is = inl (Whole, won, new, did, inl (refl, (refl, is, refl)))
one_segment cat o together row items won s Short all old new did is = inl (Short, won, new, did, inr ((λ e. let no : Short ≡ Whole = e in cc), refl, is, refl))
one_segment cat o together row items won s Contended all old new did is = inl (Contended, won, new, did, inr ((λ e. let no : Contended ≡ Whole = e in cc), refl, is, refl))
one_segment cat o together row items won s NoMemory all old new did is = inl (NoMemory, won, new, did, inr ((λ e. let no : NoMemory ≡ Whole = e in cc), refl, is, refl))

-- one whose places were added one by one, as the candidates that were read
pub singly_placed : (cat : CatalogueView) (o : OfferView) (hold held : HoldView) (s : Segment) (candidates : List PlaceNo) (answer : Added) (mine : Placing) (old new : DeskView)
    → candidates ≡ candidates_of s.run.0 o.class o.wanted cat.places → AddsPlaces old hold s.span (count_of o) (map place_number candidates) answer new held → mine ≡ placing_of answer
    → PlacesAll cat o false hold.row hold.items (s ∷ []) mine held.items old new
singly_placed cat o hold held s candidates answer mine old new are (won, did, has) is =
    one_segment cat o false hold.row hold.items won s mine held.items old new
    (answer, is, subst (λ (cs : List PlaceNo). AddsStepsBy (Adds hold.row.row (length hold.items) s.span (count_of o) (map place_number cs) answer won) old new) are did)
    (ap (λ (h : HoldView). h.items) has)

-- and one of a party
pub party_placed : (cat : CatalogueView) (o : OfferView) (hold held : HoldView) (s : Segment) (places : List Place) (candidates : List PlaceNo) (answer : PartyAdded) (mine : Placing) (won : List Item) (old new : DeskView)
    → places ≡ cat.places → candidates ≡ candidates_of s.run.0 o.class o.wanted cat.places
    → AddsStepsBy (SeatsParty (asked places hold s.span (count_of o) candidates) answer won) old new
    → AddsStepsBy (SpoilsAll (asked places hold s.span (count_of o) candidates) answer) old new → held ≡ with_items hold won → mine ≡ placing_of_party answer
    → PlacesAll cat o true hold.row hold.items (s ∷ []) mine held.items old new
party_placed cat o hold held s places candidates answer mine won old new there are did causes has is =
    let same : asked places hold s.span (count_of o) candidates ≡ party_at cat o hold.row (length hold.items) s =
    (λ i. record { places = there i; row = hold.row.row; items = length hold.items; span = s.span; count = count_of o; candidates = map place_number (are i) }) in
    one_segment cat o true hold.row hold.items won s mine held.items old new
    (answer, is, subst (λ (g : Party). AddsStepsBy (SeatsParty g answer won) old new) same did, subst (λ (g : Party). AddsStepsBy (SpoilsAll g answer) old new) same causes)
    (ap (λ (h : HoldView). h.items) has)

-- segments after each other

pub places_append : (cat : CatalogueView) (o : OfferView) (together : Bool) (row : RowNo) (items some : List Item) (a b : List Segment) (p : Placing) (all : List Item) (old mid new : DeskView) → PlacesAll cat o together row items a Whole some old mid → PlacesAll cat o together row some b p all mid new
    → PlacesAll cat o together row items (a ++ b) p all old new
places_append cat o together row items some [] b p all old mid new first second =
    subst (λ (d : DeskView). PlacesAll cat o together row items b p all d new) first.2 (subst (λ (l : List Item). PlacesAll cat o together row l b p all mid new) first.1 second)
places_append cat o together row items some (s ∷ a) b p all old mid new (inl (mine, won, here, did, inl go)) second =
    inl (mine, won, here, did, inl (go.0, places_append cat o together row (items ++ won) some a b p all here mid new go.1 second))
places_append cat o together row items some (s ∷ a) b p all old mid new (inl (mine, won, here, did, inr stop)) second = absurd (stop.0 (sym stop.1))
places_append cat o together row items some (s ∷ a) b p all old mid new (inr none) second = absurd (memory_not Whole none.0 refl)

pub places_stopped : (cat : CatalogueView) (o : OfferView) (together : Bool) (row : RowNo) (items : List Item) (a b : List Segment) (p : Placing) (all : List Item) (old new : DeskView) → PlacesAll cat o together row items a p all old new → (p ≡ Whole → ⊥)
    → PlacesAll cat o together row items (a ++ b) p all old new
places_stopped cat o together row items [] b p all old new is ne = absurd (ne is.0)
places_stopped cat o together row items (s ∷ a) b p all old new (inl (mine, won, here, did, inl go)) ne =
    inl (mine, won, here, did, inl (go.0, places_stopped cat o together row (items ++ won) a b p all here new go.1 ne))
places_stopped cat o together row items (s ∷ a) b p all old new (inl (mine, won, here, did, inr stop)) ne = inl (mine, won, here, did, inr stop)
places_stopped cat o together row items (s ∷ a) b p all old new (inr none) ne = inr none

-- the first segments, and one more
pub placed_next : (cat : CatalogueView) (o : OfferView) (together : Bool) (row : RowNo) (some : List Item) (segments : List Segment) (i : ℕ) (d : Segment) (p : Placing) (all : List Item) (old mid new : DeskView) → i < length segments
    → PlacesAll cat o together row [] (take i segments) Whole some old mid → PlacesAll cat o together row some (get_or segments i d ∷ []) p all mid new → PlacesAll cat o together row [] (take (i + 1) segments) p all old new
placed_next cat o together row some segments i d p all old mid new h so did =
    subst (λ (l : List Segment). PlacesAll cat o together row [] l p all old new) (sym (take_more segments i d h))
    (places_append cat o together row [] some (take i segments) (get_or segments i d ∷ []) p all old mid new so did)

-- the same, by the segment and the row that were read
pub next_by : (cat : CatalogueView) (o : OfferView) (together : Bool) (row at : RowNo) (some : List Item) (xs segments : List Segment) (i : ℕ) (s : Segment) (p : Placing) (all : List Item) (old mid new : DeskView) → xs ≡ segments → i < length xs → s ≡ get_or xs i s → at ≡ row
    → PlacesAll cat o together row [] (take i segments) Whole some old mid → PlacesAll cat o together at some (s ∷ []) p all mid new → PlacesAll cat o together row [] (take (i + 1) segments) p all old new
next_by cat o together row at some xs segments i s p all old mid new same h is here so did =
    placed_next cat o together row some segments i s p all old mid new (subst (λ (l : List Segment). i < length l) same h) so
    (subst (λ (l : List Segment). PlacesAll cat o together row some (get_or l i s ∷ []) p all mid new) same (subst (λ (t : Segment). PlacesAll cat o together row some (t ∷ []) p all mid new) is (subst (λ (r : RowNo). PlacesAll cat o together r some (s ∷ []) p all mid new) here did)))

pub stop_by : (cat : CatalogueView) (o : OfferView) (together : Bool) (row at : RowNo) (some : List Item) (xs segments : List Segment) (i : ℕ) (s : Segment) (p : Placing) (all : List Item) (old mid new : DeskView) → xs ≡ segments → i < length xs → s ≡ get_or xs i s → at ≡ row
    → PlacesAll cat o together row [] (take i segments) Whole some old mid → PlacesAll cat o together at some (s ∷ []) p all mid new → (p ≡ Whole → ⊥) → PlacesAll cat o together row [] segments p all old new
stop_by cat o together row at some xs segments i s p all old mid new same h is here so did ne =
    subst (λ (l : List Segment). PlacesAll cat o together row [] l p all old new) (take-append-drop (i + 1) segments)
    (places_stopped cat o together row [] (take (i + 1) segments) (drop (i + 1) segments) p all old new (next_by cat o together row at some xs segments i s p all old mid new same h is here so did) ne)

-- how many passengers there are

pub both : (a b : Bool) → (a && b) ≡ true → (a ≡ true) × (b ≡ true)
both true b e = (refl, e)
both false b e = absurd (let no : false ≡ true = e in cc)

pub some_of : (adults children : ℕ) → is_party adults children ≡ true → 1 ≤ adults + children
some_of adults children is = leb-true 1 (adults + children) (both (nat_le 1 (adults + children)) (nat_le (adults + children) 8) is).0

pub few_of : (adults children : ℕ) → is_party adults children ≡ true → adults + children ≤ 8
few_of adults children is = leb-true (adults + children) 8 (both (nat_le 1 (adults + children)) (nat_le (adults + children) 8) is).1

-- how many items a whole placing has

pub places_many : (cat : CatalogueView) (o : OfferView) (together : Bool) (row : RowNo) (items : List Item) (segments : List Segment) (p : Placing) (all : List Item) (old new : DeskView) → PlacesAll cat o together row items segments p all old new → p ≡ Whole → 1 ≤ count_of o → count_of o ≤ 8
    → (length items + length segments ≤ length all) × (length all ≤ length items + 16 * length segments)
places_many cat o together row items [] p all old new is e some few = let l = ap length is.1 in (omega arith, omega arith)
places_many cat o together row items (s ∷ rest) p all old new (inl (mine, won, mid, did, inl go)) e some few =
    let l = won_all cat o together row items won s mine old mid did go.0 in
    let k = length-append items won in
    let w = few_items s.span (count_of o) some few in
    let least = w.0 in
    let most = w.1 in
    let more = places_many cat o together row (items ++ won) rest p all mid new go.1 e some few in
    let low = more.0 in
    let high = more.1 in
    (omega arith, omega arith)
places_many cat o together row items (s ∷ rest) p all old new (inl (mine, won, mid, did, inr stop)) e some few = absurd (stop.0 (sym stop.1 ∙ e))
places_many cat o together row items (s ∷ rest) p all old new (inr none) e some few = absurd (memory_not p none.0 e)

-- there is room for one segment more
pub room_left : (cat : CatalogueView) (o : OfferView) (together : Bool) (row : RowNo) (segments : List Segment) (i : ℕ) (some : List Item) (old new : DeskView) (s : Segment) → PlacesAll cat o together row [] (take i segments) Whole some old new → i < length segments → length segments ≤ 3 → 1 ≤ count_of o → count_of o ≤ 8
    → length some + items_wanted o s ≤ most_items
room_left cat o together row segments i some old new s is inside most one few =
    let m = (places_many cat o together row [] (take i segments) Whole some old new is refl one few).1 in
    let n = length-take i segments in
    let w = (few_items s.span (count_of o) one few).1 in
    omega arith

-- a whole placing has all places of each segment, and nothing else
pub whole_places : (cat : CatalogueView) (o : OfferView) (together : Bool) (row : RowNo) (items : List Item) (segments : List Segment) (p : Placing) (all : List Item) (old new : DeskView) → PlacesAll cat o together row items segments p all old new → p ≡ Whole
    → (more : List Item) × HasAllPlaces cat o segments more × (all ≡ items ++ more)
whole_places cat o together row items [] p all old new is e = ([], refl, is.1 ∙ sym (append-nil items))
whole_places cat o together row items (s ∷ rest) p all old new (inl (mine, won, mid, did, inl go)) e =
    let later = whole_places cat o together row (items ++ won) rest p all mid new go.1 e in
    (won ++ later.0, (won, later.0, all_of cat o together row items won s mine old mid did go.0, later.1, refl), later.2 ∙ append_assoc items won later.0)
whole_places cat o together row items (s ∷ rest) p all old new (inl (mine, won, mid, did, inr stop)) e = absurd (stop.0 (sym stop.1 ∙ e))
whole_places cat o together row items (s ∷ rest) p all old new (inr none) e = absurd (memory_not p none.0 e)

-- passengers who don't sit together never want for memory

singly_known : (a : Added) → placing_of a ≢ NoMemory
singly_known added.All e = let no : Whole ≡ NoMemory = e in cc
singly_known (added.NoPlace won) e = let no : Short ≡ NoMemory = e in cc
singly_known (added.Contended place) e = let no : Contended ≡ NoMemory = e in cc

pub apart_has_memory : (cat : CatalogueView) (o : OfferView) (row : RowNo) (items : List Item) (segments : List Segment) (p : Placing) (all : List Item) (old new : DeskView) → PlacesAll cat o false row items segments p all old new → p ≢ NoMemory
apart_has_memory cat o row items [] p all old new is e = memory_not p e is.0
apart_has_memory cat o row items (s ∷ rest) p all old new (inl (mine, won, mid, did, inl go)) e = apart_has_memory cat o row (items ++ won) rest p all mid new go.1 e
apart_has_memory cat o row items (s ∷ rest) p all old new (inl (mine, won, mid, did, inr stop)) e = singly_known did.0 (sym did.1 ∙ (sym stop.1 ∙ e))
apart_has_memory cat o row items (s ∷ rest) p all old new (inr none) e = let no : false ≡ true = none.3 in cc

-- The places of an offer's segments that a lone desk wins are those that the plain host chooses.
use Rattle.std.proofs.Common.{◌≡◌, ◌≢◌, ℕ, Bool, true, false, cond, eq-eqb, ne_eqb, List, [], ◌∷◌, ◌++◌, length, map, take, Option, Some, None, refl, sym, ap, ◌∙◌, subst, ⊎_elim, inl, inr, arith, append-nil, append_assoc}
use Rattle.std.specs.Prelude.{option_map}
use Rattle.std.specs.List.{AllByRecursion, filter, flat_map}
use Rattle.std.specs.Option.{option_map_or}
use Rattle.std.proofs.lemmas.List.{length-take, length-take-le}
use Rattle.rail_ids.specs.declared.RowNo.{RowNo}
use Rattle.leg_masks.specs.Interval.{Interval, items_at, pieces, PlacedSpan as Item}
use Rattle.place_map.specs.declared.coach.Place.{Place}
use Rattle.place_map.specs.Candidates.{candidates_of, IsOfRun}
use Rattle.place_map.proofs.Numbers.{candidates_of_run}
use Rattle.train_runs.specs.declared.segment.Segment.{Segment}
use Rattle.offer_codes.specs.Offers.{OfferView}
use Rattle.catalogue_contents.specs.Contents.{CatalogueView}
use Rattle.history_model.specs.Booking.{State}
use Rattle.history_model.specs.History.{IsLegal}
use Rattle.history_model.specs.Lists.{Pairwise}
use Rattle.history_model.proofs.ListLemmas.{All-append, All-map, All-of_map}
use Rattle.claim_rule.specs.Rule.{DeskView, state_seen}
use Rattle.claim_rule.specs.Holds.{held}
use Rattle.claim_rule.proofs.Moves.{is_sound}
use Rattle.hold_core.specs.declared.adds.Added.{Added}
use Rattle.hold_core.specs.declared.adds.Added.TheVariants as added
use Rattle.hold_core.specs.Tries.{place_number}
use Rattle.party_places.specs.declared.party.PartyAdded.{PartyAdded}
use Rattle.party_places.specs.declared.party.PartyAdded.TheVariants as party
use Rattle.lone_desk.specs.Lone.{IsAlone}
use Rattle.reservation_service.specs.declared.holding.Placing.{Placing}
use Rattle.reservation_service.specs.declared.holding.Placing.TheVariants.{Whole, Short, Contended, NoMemory}
use Rattle.reservation_service.specs.Holding.{count_of, candidates_in, placing_of, placing_of_party, party_at, AddsSegment, PlacesAll}
use Rattle.reservation_service.proofs.Candidates.{candidates_apart}
use Rattle.search_service.proofs.Every.{every_filter, every_flat, every_take}
use Rattle.plain_host.specs.Plain.{Standing, is_free, first_free, seats, with_places, chosen}
use Rattle.plain_host.specs.Settled.{IsStanding}
use Rattle.plain_host.specs.Found.{FindsFree, SeatsFree}
use Rattle.plain_host.proofs.PlacesFree.{AreElsewhere}
use Rattle.plain_host.proofs.PlacesRows.{IsMaking, beside}
use Rattle.plain_host.proofs.PlacesHeld.{FitsAt, has_added}
use Rattle.plain_host.proofs.PlacesStretches.{stretch_found}
use Rattle.plain_host.proofs.PlacesParty.{has_seated}

-- ---- candidates

-- the place is one of the run
abbrev pub IsAt : CatalogueView → ℕ → ℕ → Type 0
IsAt cat run place = IsOfRun run cat.places (record { 0 = place })

pub candidates_at : (cat : CatalogueView) (o : OfferView) (s : Segment) → AllByRecursion (IsAt cat s.run.0) (candidates_in cat o s)
candidates_at cat o s =
    All-of_map (IsAt cat s.run.0) place_number (candidates_of s.run.0 o.class o.wanted cat.places) (candidates_of_run s.run.0 o.class o.wanted cat.places)

-- no place is of two runs
one_run : (cat : CatalogueView) (a b place : ℕ) → IsAt cat a place → IsAt cat b place → a ≡ b
one_run cat a b place (p, at_p, is_p) (q, at_q, is_q) =
    let same : Some p ≡ Some q = sym at_p ∙ at_q in
    let one : p ≡ q = cc in
    sym is_p ∙ (ap (λ (x : Place). x.run.0) one ∙ is_q)

-- none of the items is at a place of a segment's run
abbrev pub AreOff : CatalogueView → List Item → Segment → Type 0
AreOff cat items s = AllByRecursion (λ (i : Item). ¬ IsAt cat s.run.0 i.place) items

off_candidate : (cat : CatalogueView) (s : Segment) (items : List Item) (p : ℕ) → AreOff cat items s → IsAt cat s.run.0 p → AreElsewhere p (map held items)
off_candidate cat s [] p off at = tt
off_candidate cat s (i ∷ is) p off at = ((λ e. off.0 (subst (IsAt cat s.run.0) (sym e) at)), off_candidate cat s is p off.1 at)

-- ---- what is won is of the run

all_at : (P : ℕ → Type 0) (place : ℕ) (ps : List Interval) → P place → AllByRecursion (λ (i : Item). P i.place) (map (λ (piece : Interval). record { place = place; span = piece }) ps)
all_at P place [] holds = tt
all_at P place (p ∷ ps) holds = (holds, all_at P place ps holds)

off_other : (cat : CatalogueView) (a : ℕ) (s : Segment) (span : Interval) (ps : List ℕ) → a ≢ s.run.0 → AllByRecursion (IsAt cat a) ps → AreOff cat (flat_map (items_at span) ps) s
off_other cat a s span ps other all =
    every_flat (IsAt cat a) (λ (i : Item). ¬ IsAt cat s.run.0 i.place) (items_at span)
    (λ p here. all_at (λ q. ¬ IsAt cat s.run.0 q) p (pieces span) (λ at. other (one_run cat a s.run.0 p here at))) ps all

off_more : (cat : CatalogueView) (a : ℕ) (span : Interval) (items : List Item) (ps : List ℕ) (segments : List Segment) → AllByRecursion (IsAt cat a) ps
    → AllByRecursion (λ (t : Segment). a ≢ t.run.0) segments → AllByRecursion (AreOff cat items) segments → AllByRecursion (AreOff cat (items ++ flat_map (items_at span) ps)) segments
off_more cat a span items ps [] at other off = tt
off_more cat a span items ps (s ∷ rest) at other off = (
  All-append (λ (i : Item). ¬ IsAt cat s.run.0 i.place) items (flat_map (items_at span) ps) off.0 (off_other cat a s span ps other.0 at),
  off_more cat a span items ps rest at other.1 off.1,
)

-- ---- one segment

-- how the plain host's seats of a segment go with its placing
abbrev SeatsAs : CatalogueView → OfferView → Segment → List ℕ → Placing → List Item → Type 0
SeatsAs cat o s places Whole won = (won ≡ flat_map (items_at s.span) places) × (length places ≡ count_of o) × AllByRecursion (IsAt cat s.run.0) places
SeatsAs cat o s places Short won = length places ≢ count_of o
SeatsAs cat o s places Contended won = ⊥
SeatsAs cat o s places NoMemory won = ⊥

record HasSeats (cat : CatalogueView) (o : OfferView) (together : Bool) (standing : State) (row : RowNo) (items : List Item) (s : Segment) (placing : Placing) (won : List Item) (old new : DeskView) : Type 0 where
  alone : IsAlone new
  layout : new.layout ≡ old.layout
  legal : IsLegal new.layout new.seen
  making : IsMaking standing row (map held (items ++ won)) (state_seen new)
  seats_are : SeatsAs cat o s (seats cat (beside standing row) o together s) placing won

first_seats : (cat : CatalogueView) (o : OfferView) (s : Segment) (free : ℕ → Bool) (answer : Added) (won : List Item) → FindsFree free s.span (count_of o) (candidates_in cat o s) answer won
    → SeatsAs cat o s (take (count_of o) (filter free (candidates_in cat o s))) (placing_of answer) won
first_seats cat o s free added.All won found =
    let candidates = candidates_in cat o s in (
      found.0,
      length-take-le (count_of o) (filter free candidates) found.1,
      every_take (IsAt cat s.run.0) (count_of o) (filter free candidates) (every_filter (IsAt cat s.run.0) free candidates (candidates_at cat o s)),
    )
first_seats cat o s free (added.NoPlace n) won found = λ e. omega (arith, found, e, length-take (count_of o) (filter free (candidates_in cat o s)))
first_seats cat o s free (added.Contended p) won found = absurd found

-- side by side, where there is such a stretch
party_seats : (cat : CatalogueView) (bookings : List Standing) (o : OfferView) (row : RowNo) (items : ℕ) (s : Segment) (answer : PartyAdded) (won : List Item)
    → SeatsFree (party_at cat o row items s) (is_free bookings s.span) answer won → SeatsAs cat o s (seats cat bookings o true s) (placing_of_party answer) won
party_seats cat bookings o row items s (party.Together first) won (others, found, is) =
    let stretch : List ℕ = first.0 ∷ others in
    let places : seats cat bookings o true s ≡ stretch = ap (λ (it : Option (List ℕ)). option_map_or (λ (x : List ℕ). x) it (first_free cat bookings o s)) found in
    let has = stretch_found cat.places (count_of o) (is_free bookings s.span) (IsAt cat s.run.0) (candidates_in cat o s) stretch (candidates_at cat o s) found in
    subst (λ (ps : List ℕ). SeatsAs cat o s ps Whole won) (sym places) (is, has.0, has.1)
party_seats cat bookings o row items s party.Apart won (none, found) =
    subst (λ (it : Option (List ℕ)). SeatsAs cat o s (option_map_or (λ (x : List ℕ). x) it (first_free cat bookings o s)) Whole won) (sym none)
    (first_seats cat o s (is_free bookings s.span) added.All won found)
party_seats cat bookings o row items s (party.NoPlace n) won (none, found) =
    subst (λ (it : Option (List ℕ)). SeatsAs cat o s (option_map_or (λ (x : List ℕ). x) it (first_free cat bookings o s)) Short won) (sym none)
    (first_seats cat o s (is_free bookings s.span) (added.NoPlace n) won found)
party_seats cat bookings o row items s (party.Contended p) won found = absurd found

has_seats : (cat : CatalogueView) (o : OfferView) (together : Bool) (standing : State) (row : RowNo) (items : List Item) (s : Segment) (placing : Placing) (won : List Item) (old new : DeskView)
    → AllByRecursion IsStanding standing → FitsAt s.span (candidates_in cat o s) → AreOff cat items s → IsAlone old → IsLegal old.layout old.seen
    → IsMaking standing row (map held items) (state_seen old) → AddsSegment cat o together row items s placing won old new
    → HasSeats cat o together standing row items s placing won old new
has_seats cat o false standing row items s placing won old new each fits off alone legal m (answer, is, adds) =
    let candidates = candidates_in cat o s in
    let here = All-map (λ p at. off_candidate cat s items p off at) candidates (candidates_at cat o s) in
    let has = has_added standing row items s.span (count_of o) candidates answer won old new fits (candidates_apart cat o s) here each alone
    (is_sound old.layout old.seen legal) m adds in
    record {
      alone = has.alone;
      layout = adds.2.same.1;
      legal = adds.2.legal;
      making = has.making;
      seats_are = subst (λ (p : Placing). SeatsAs cat o s (seats cat (beside standing row) o false s) p won) (sym is)
          (first_seats cat o s (is_free (beside standing row) s.span) answer won has.found);
    }
has_seats cat o true standing row items s placing won old new each fits off alone legal m (answer, is, sits, spoils) =
    let candidates = candidates_in cat o s in
    let here = All-map (λ p at. off_candidate cat s items p off at) candidates (candidates_at cat o s) in
    let has = has_seated standing row items (party_at cat o row (length items) s) answer won old new refl fits (candidates_apart cat o s) here each alone
    (is_sound old.layout old.seen legal) m sits in
    record {
      alone = has.alone;
      layout = sits.2.same.1;
      legal = sits.2.legal;
      making = has.making;
      seats_are = subst (λ (p : Placing). SeatsAs cat o s (seats cat (beside standing row) o true s) p won) (sym is)
          (party_seats cat (beside standing row) o row (length items) s answer won has.found);
    }

-- ---- segment by segment

-- how the plain host's choice goes with the placing
abbrev pub GoesWith : Placing → List Item → List Item → Option (List Item) → Type 0
GoesWith Whole items all choice = (more : List Item) × (all ≡ items ++ more) × (choice ≡ Some more)
GoesWith Short items all choice = choice ≡ None
GoesWith Contended items all choice = ⊥
GoesWith NoMemory items all choice = Unit {0}

pub record HasPlaced (cat : CatalogueView) (o : OfferView) (together : Bool) (standing : State) (row : RowNo) (items : List Item) (segments : List Segment) (placing : Placing) (all : List Item) (old new : DeskView) : Type 0 where
  pub alone : IsAlone new
  pub layout : new.layout ≡ old.layout
  pub legal : IsLegal new.layout new.seen
  pub making : IsMaking standing row (map held all) (state_seen new)
  pub goes : GoesWith placing items all (chosen cat (beside standing row) o together segments)

-- runs that differ, and spans that fit
abbrev pub Differ : List Segment → Type 0
Differ segments = Pairwise (λ (s t : Segment). s.run.0 ≢ t.run.0) segments

abbrev pub Fit : CatalogueView → OfferView → List Segment → Type 0
Fit cat o segments = AllByRecursion (λ (s : Segment). FitsAt s.span (candidates_in cat o s)) segments

chosen_on : (count : ℕ) (span : Interval) (free : List ℕ) (more : List Item) (rest : Option (List Item)) → length free ≡ count → rest ≡ Some more
    → with_places count span free rest ≡ Some (flat_map (items_at span) free ++ more)
chosen_on count span free more rest enough is =
    ap (λ (t : Bool). cond t (option_map (λ (l : List Item). flat_map (items_at span) free ++ l) rest) None) (eq-eqb (length free) count enough)
    ∙ ap (option_map (λ (l : List Item). flat_map (items_at span) free ++ l)) is

chosen_none : (count : ℕ) (span : Interval) (free : List ℕ) (rest : Option (List Item)) → length free ≡ count → rest ≡ None → with_places count span free rest ≡ None
chosen_none count span free rest enough is =
    ap (λ (t : Bool). cond t (option_map (λ (l : List Item). flat_map (items_at span) free ++ l) rest) None) (eq-eqb (length free) count enough)
    ∙ ap (option_map (λ (l : List Item). flat_map (items_at span) free ++ l)) is

chosen_few : (count : ℕ) (span : Interval) (free : List ℕ) (rest : Option (List Item)) → length free ≢ count → with_places count span free rest ≡ None
chosen_few count span free rest few =
    ap (λ (t : Bool). cond t (option_map (λ (l : List Item). flat_map (items_at span) free ++ l) rest) None) (ne_eqb (length free) count few)

-- the choice of all segments, where the first has its places
goes_on : (count : ℕ) (span : Interval) (free : List ℕ) (placing : Placing) (items won all : List Item) (rest : Option (List Item)) → length free ≡ count
    → won ≡ flat_map (items_at span) free → GoesWith placing (items ++ won) all rest → GoesWith placing items all (with_places count span free rest)
goes_on count span free Whole items won all rest enough is (more, all_are, choice) = (
  won ++ more,
  all_are ∙ append_assoc items won more,
  chosen_on count span free more rest enough choice ∙ ap (λ (l : List Item). Some (l ++ more)) (sym is),
)
goes_on count span free Short items won all rest enough is none = chosen_none count span free rest enough none
goes_on count span free Contended items won all rest enough is never = never
goes_on count span free NoMemory items won all rest enough is any = tt

-- a placing that isn't whole
goes_short : (cat : CatalogueView) (o : OfferView) (s : Segment) (places : List ℕ) (placing : Placing) (won items all : List Item) (rest : Option (List Item))
    → SeatsAs cat o s places placing won → placing ≢ Whole → GoesWith placing items all (with_places (count_of o) s.span places rest)
goes_short cat o s places Whole won items all rest found stops = absurd (stops refl)
goes_short cat o s places Short won items all rest found stops = chosen_few (count_of o) s.span places rest found
goes_short cat o s places Contended won items all rest found stops = found
goes_short cat o s places NoMemory won items all rest found stops = absurd found

pub places_chosen : (cat : CatalogueView) (o : OfferView) (together : Bool) (standing : State) (row : RowNo) (items : List Item) (segments : List Segment) (placing : Placing) (all : List Item) (old new : DeskView)
    → AllByRecursion IsStanding standing → Fit cat o segments → Differ segments → AllByRecursion (AreOff cat items) segments
    → IsAlone old → IsLegal old.layout old.seen → IsMaking standing row (map held items) (state_seen old)
    → PlacesAll cat o together row items segments placing all old new → HasPlaced cat o together standing row items segments placing all old new
places_chosen cat o together standing row items [] placing all old new each fit differ off alone legal m (whole, same, still) =
    subst (λ (d : DeskView). HasPlaced cat o together standing row items [] placing all old d) (sym still)
    (record {
      alone = alone;
      layout = refl;
      legal = legal;
      making = subst (λ (is : List Item). IsMaking standing row (map held is) (state_seen old)) (sym same) m;
      goes = subst (λ (p : Placing). GoesWith p items all (Some [])) (sym whole) ([], same ∙ sym (append-nil items), refl);
    })
places_chosen cat o together standing row items (s ∷ rest) placing all old new each fit differ off alone legal m (inr (memory, same, still, both, traits)) =
    subst (λ (d : DeskView). HasPlaced cat o together standing row items (s ∷ rest) placing all old d) (sym still)
    (record {
      alone = alone;
      layout = refl;
      legal = legal;
      making = subst (λ (is : List Item). IsMaking standing row (map held is) (state_seen old)) (sym same) m;
      goes = subst (λ (p : Placing). GoesWith p items all (chosen cat (beside standing row) o together (s ∷ rest))) (sym memory) tt;
    })
places_chosen cat o together standing row items (s ∷ rest) placing all old new each fit differ off alone legal m (inl (mine, won, mid, adds, went)) =
    let bookings = beside standing row in
    let places = seats cat bookings o together s in
    let has = has_seats cat o together standing row items s mine won old mid each fit.0 off.0 alone legal m adds in
    ⊎_elim
    (λ (on : (mine ≡ Whole) × PlacesAll cat o together row (items ++ won) rest placing all mid new).
    let found : SeatsAs cat o s places Whole won = subst (λ (p : Placing). SeatsAs cat o s places p won) on.0 has.seats_are in
    let off_won : AllByRecursion (AreOff cat (items ++ won)) rest =
    subst (λ (is : List Item). AllByRecursion (AreOff cat (items ++ is)) rest) (sym found.0) (off_more cat s.run.0 s.span items places rest found.2 differ.0 off.1) in
    let later = places_chosen cat o together standing row (items ++ won) rest placing all mid new each fit.1 differ.1 off_won has.alone has.legal has.making on.1 in
    record {
      alone = later.alone;
      layout = later.layout ∙ has.layout;
      legal = later.legal;
      making = later.making;
      goes = goes_on (count_of o) s.span places placing items won all (chosen cat bookings o together rest) found.1 found.0 later.goes;
    })
    (λ (short : (mine ≢ Whole) × (placing ≡ mine) × (all ≡ items ++ won) × (new ≡ mid)).
    subst (λ (d : DeskView). HasPlaced cat o together standing row items (s ∷ rest) placing all old d) (sym short.3)
    (record {
      alone = has.alone;
      layout = has.layout;
      legal = has.legal;
      making = subst (λ (is : List Item). IsMaking standing row (map held is) (state_seen mid)) (sym short.2) has.making;
      goes = subst (λ (p : Placing). GoesWith p items all (with_places (count_of o) s.span places (chosen cat bookings o together rest))) (sym short.1)
          (goes_short cat o s places mine won items all (chosen cat bookings o together rest) has.seats_are short.0);
    }))
    went

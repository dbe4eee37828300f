-- The spans of a lone desk's searches and bookings have no leg past the greatest, where there are places at all.
use Rattle.std.proofs.Common.{◌≡◌, ℕ, suc, ◌+◌, ◌<◌, ◌≤◌, Bool, true, false, List, [], ◌∷◌, length, map, Option, Some, None, refl, sym, ap, ◌∙◌, subst, inl, inr, arith}
use Rattle.std.specs.Prelude.{◌&&◌, ◌==◌, All, nat_le, nat_lt, slice_get, option_map, if◌then◌else◌}
use Rattle.std.specs.List.{AllByRecursion, list_all}
use Rattle.std.specs.Option.{option_map_or}
use Rattle.std.proofs.lemmas.Bool.{and_parts, eqb-true, leb-true}
use Rattle.std.proofs.lemmas.Option.{slice_get-map, slice_get_within, get_or_from_slice_get}
use Rattle.rail_ids.specs.declared.PlaceNo.{PlaceNo}
use Rattle.place_map.specs.declared.coach.Place.{Place}
use Rattle.place_map.specs.Candidates.{IsOfRun, candidates_of, numbers_of}
use Rattle.place_map.proofs.Numbers.{candidates_of_run}
use Rattle.train_runs.specs.declared.run.Stop.{Stop}
use Rattle.train_runs.specs.Runs.{RunsView, stops_of}
use Rattle.train_runs.specs.Stops.{RunView, legs_of}
use Rattle.train_runs.specs.declared.wish.TripWish.{TripWish}
use Rattle.trip_builder.specs.Order.{sorted_in}
use Rattle.trip_builder.specs.Segments.{IsKnown, all_segments}
use Rattle.trip_builder.specs.Trips.{all_lists, is_trip, most_trips, trips_of}
use Rattle.trip_builder.proofs.AllLists.{have_lists}
use Rattle.trip_builder.proofs.FirstSixteen.{all_among, all_put}
use Rattle.train_runs.specs.declared.segment.Segment.{Segment}
use Rattle.offer_codes.specs.Offers.{OfferView, is_segment, is_offer, is_party}
use Rattle.catalogue_contents.specs.Contents.{CatalogueView, place_legs, legs_in}
use Rattle.history_model.proofs.ListLemmas.{All-map}
use Rattle.claim_rule.specs.Rule.{DeskView}
use Rattle.hold_core.specs.Tries.{place_number}
use Rattle.offer_engine.specs.declared.wish.OfferWish.{OfferWish}
use Rattle.offer_engine.specs.Offers.{raised, wanted_places}
use Rattle.osdm_json.specs.Readable.{IsWithinRun}
use Rattle.reservation_service.specs.Holding.{candidates_in}
use Rattle.search_service.specs.Searching.{numbers_on}
use Rattle.search_service.proofs.Every.{every_filter, every_fold, every_take}
use Rattle.plain_host.specs.Plainly.{IsLone}
use Rattle.plain_host.proofs.PlacesHeld.{FitsAt}
use Rattle.plain_host.proofs.PlacesChosen.{Fit}

-- a place of a run of the catalogue has the run's legs, which are not too many
run_fits : (cat : CatalogueView) (desk : DeskView) (s : Segment) (place : PlaceNo) → IsLone cat desk → (within : IsWithinRun cat s) → IsOfRun s.run.0 cat.places place → s.span.to ≤ 126
run_fits cat desk s place lone within (p, at, is) =
    let has : slice_get (legs_in cat) place.0 ≡ Some (legs_of within.run) =
    slice_get-map (place_legs cat.runs) cat.places place.0
    ∙ (ap (option_map (place_legs cat.runs)) at
    ∙ (ap (λ (n : ℕ). Some (option_map_or legs_of (slice_get cat.runs.runs n) 0)) is ∙ ap (λ (o : Option RunView). Some (option_map_or legs_of o 0)) within.found)) in
    let most : All (λ n. n ≤ 126) (legs_in cat) = subst (All (λ n. n ≤ 126)) lone.legs lone.fit.legs in
    le_trans s.span.to (legs_of within.run) 126 within.legs
    (subst (λ (n : ℕ). n ≤ 126) (get_or_from_slice_get (legs_in cat) place.0 (legs_of within.run) 0 has) (most place.0 0 (slice_get_within (legs_in cat) place.0 (legs_of within.run) has)))
  where
    le_trans : (a b c : ℕ) → a ≤ b → b ≤ c → a ≤ c
    le_trans a b c l m = omega (arith, l, m)

numbers_fit : (cat : CatalogueView) (desk : DeskView) (s : Segment) (numbers : List PlaceNo) → IsLone cat desk → IsWithinRun cat s → AllByRecursion (IsOfRun s.run.0 cat.places) numbers
    → FitsAt s.span numbers
numbers_fit cat desk s [] lone within of_run = inl refl
numbers_fit cat desk s (p ∷ ps) lone within of_run = inr (run_fits cat desk s p lone within of_run.0)

-- ---- the places of a run

numbers_of_run : (run k : ℕ) (all places : List Place) → ((i : ℕ) → slice_get places i ≡ slice_get all (k + i)) → AllByRecursion (IsOfRun run all) (numbers_of (λ p. p.run.0 == run) k places)
numbers_of_run run k all [] at = tt
numbers_of_run run k all (p ∷ places) at =
    one (p.run.0 == run) refl (numbers_of_run run (k + 1) all places (λ i. at (suc i) ∙ ap (slice_get all) (omega arith)))
  where
    one : (b : Bool) → (p.run.0 == run) ≡ b → AllByRecursion (IsOfRun run all) (numbers_of (λ q. q.run.0 == run) (k + 1) places)
        → AllByRecursion (IsOfRun run all) (if b then (record { 0 = k }) ∷ numbers_of (λ q. q.run.0 == run) (k + 1) places else numbers_of (λ q. q.run.0 == run) (k + 1) places)
    one true e rest = ((p, ap (slice_get all) (omega arith) ∙ sym (at 0), eqb-true p.run.0 run e), rest)
    one false e rest = rest

pub listed_fit : (cat : CatalogueView) (desk : DeskView) (s : Segment) → IsLone cat desk → IsWithinRun cat s → FitsAt s.span (numbers_on cat s.run.0)
listed_fit cat desk s lone within = numbers_fit cat desk s (numbers_on cat s.run.0) lone within (numbers_of_run s.run.0 0 cat.places cat.places (λ i. ap (slice_get cat.places) (omega arith)))

-- ---- bookings

pub reserved_fit : (cat : CatalogueView) (desk : DeskView) (o : OfferView) (s : Segment) → IsLone cat desk → IsWithinRun cat s → FitsAt s.span (candidates_in cat o s)
reserved_fit cat desk o s lone within = mapped (numbers_fit cat desk s candidates lone within (candidates_of_run s.run.0 o.class o.wanted cat.places))
  where
    candidates : List PlaceNo
    candidates = candidates_of s.run.0 o.class o.wanted cat.places

    mapped : FitsAt s.span candidates → FitsAt s.span (map place_number candidates)
    mapped (inl none) = inl (ap (map place_number) none)
    mapped (inr fits) = inr fits

segments_fit : (cat : CatalogueView) (o : OfferView) (segments : List Segment) → list_all is_segment segments ≡ true → Fit cat o segments
segments_fit cat o [] all = tt
segments_fit cat o (s ∷ rest) all =
    let parts = and_parts (is_segment s) (list_all is_segment rest) all in
    let legs = and_parts (nat_le s.run.0 4095) (nat_lt s.span.from s.span.to && nat_le s.span.to 126) parts.0 in
    (inr (leb-true s.span.to 126 (and_parts (nat_lt s.span.from s.span.to) (nat_le s.span.to 126) legs.1).1), segments_fit cat o rest parts.1)

pub offer_fits : (cat : CatalogueView) (o : OfferView) → is_offer o ≡ true → Fit cat o o.segments
offer_fits cat o is =
    segments_fit cat o o.segments
    (last_of_six (nat_le o.made 4_102_444_799) (is_party o.adults o.children) (nat_le o.wanted 31) (nat_le 1 (length o.segments)) (nat_le (length o.segments) 3)
    (list_all is_segment o.segments) is)
  where
    last_of_six : (a b c d e f : Bool) → (a && (b && (c && (d && (e && f))))) ≡ true → f ≡ true
    last_of_six a b c d e f is =
        (and_parts e f (and_parts d (e && f) (and_parts c (d && (e && f)) (and_parts b (c && (d && (e && f))) (and_parts a (b && (c && (d && (e && f)))) is).1).1).1).1).1

-- ---- searches

-- each segment of the trips has legs of its run
trips_known : (r : RunsView) (w : TripWish) → AllByRecursion (AllByRecursion (IsKnown r)) (trips_of r w)
unfolding trips_of
trips_known r w =
    let lists = all_lists (all_segments r) in
    let Known = AllByRecursion (IsKnown r) in
    every_take Known most_trips _
    (every_fold Known (sorted_in r) (all_put r Known) _ [] tt (every_filter Known (is_trip r w) lists (all_among r lists Known (λ t is. (have_lists r t is).1.1))))

known_within : (cat : CatalogueView) (s : Segment) → IsKnown cat.runs s → IsWithinRun cat s
known_within cat s known = by (slice_get cat.runs.runs s.run.0) refl
  where
    by : (o : Option RunView) → slice_get cat.runs.runs s.run.0 ≡ o → IsWithinRun cat s
    by None e =
        let none : length (stops_of cat.runs s.run.0) ≡ 0 = ap (λ (o : Option RunView). length (option_map_or (λ (it : RunView). it.stops) o [])) e in
        absurd (omega (arith, none, known.ends))
    by (Some run) e =
        let stops : stops_of cat.runs s.run.0 ≡ run.stops = ap (λ (o : Option RunView). option_map_or (λ (it : RunView). it.stops) o []) e in
        let ends : s.span.to < length run.stops = subst (λ (l : List Stop). s.span.to < length l) stops known.ends in
        record { run = run; found = e; some = known.rises; legs = omega (arith, ends) }

abbrev pub AllFit : CatalogueView → OfferWish → List Segment → Type 0
AllFit cat w segments = AllByRecursion (λ (s : Segment). FitsAt s.span (wanted_places cat w s)) segments

trip_fits : (cat : CatalogueView) (desk : DeskView) (w : OfferWish) (trip : List Segment) → IsLone cat desk → AllByRecursion (IsKnown cat.runs) trip → AllFit cat w trip
trip_fits cat desk w [] lone known = tt
trip_fits cat desk w (s ∷ rest) lone known = (
  numbers_fit cat desk s (wanted_places cat w s) lone (known_within cat s known.0) (candidates_of_run s.run.0 w.class w.wanted cat.places),
  trip_fits cat desk w rest lone known.1,
)

pub trips_fit : (cat : CatalogueView) (desk : DeskView) (w : OfferWish) (now : ℕ) → IsLone cat desk → AllByRecursion (AllFit cat w) (trips_of cat.runs (raised w.trip now))
trips_fit cat desk w now lone = All-map (λ trip known. trip_fits cat desk w trip lone known) (trips_of cat.runs (raised w.trip now)) (trips_known cat.runs (raised w.trip now))

-- The codes of all offers are in their ranges.
use Rattle.std.proofs.Common.{◌≡◌, ◌∙◌, ℕ, zero, suc, ◌+◌, ◌<◌, ◌≤◌, Bool, true, false, List, [], ◌∷◌, ◌++◌, length, refl, sym, ap, arith, nat_lt, nat_le, if◌then◌else◌, length-append}
use Rattle.std.specs.List.{AllByRecursion}
use Rattle.std.specs.Prelude.{All}
use Rattle.std.proofs.lemmas.Bool.Decides.{nat_tests}
use Rattle.std.proofs.lemmas.List.Elements.{All-from_recursion, recursion_from_All}
use Rattle.rail_time.specs.Moments.{last_second}
use Rattle.leg_masks.specs.Interval.{most_legs}
use Rattle.train_runs.specs.Stops.{RunView, most_stops}
use Rattle.train_runs.specs.Runs.{RunsView, most_runs}
use Rattle.train_runs.specs.declared.segment.Segment.{Segment}
use Rattle.offer_codes.specs.declared.code.Offer.{Offer}
use Rattle.offer_codes.specs.Offers.{is_segment, is_party, is_offer}
use Rattle.catalogue_contents.specs.Contents.{CatalogueView}
use Rattle.train_runs.specs.declared.wish.TripWish.{TripWish}
use Rattle.trip_builder.specs.Segments.{segment, segments_to, segments_from, segments_of, all_segments}
use Rattle.trip_builder.specs.Order.{stands_before, sorted_in}
use Rattle.trip_builder.specs.Trips.{is_trip, longer, all_lists, trips_of, most_trips}
use Rattle.history_model.specs.declared.entry.Step.{Step}
use Rattle.offer_engine.specs.declared.wish.OfferWish.{OfferWish}
use Rattle.offer_engine.specs.Offers.{code_for, CountsSegments, OffersFor}
use Rattle.osdm_parts.specs.Offers.{IsWritable}
use Rattle.search_service.proofs.Every.{every_append, every_flat, every_filter, every_take, every_fold, every_passes}

-- the segment is in the ranges of codes
abbrev HasRanges : Segment → Type 0
HasRanges s = is_segment s ≡ true

-- one to three such segments
abbrev pub IsSpelled : List Segment → Type 0
IsSpelled trip = (1 ≤ length trip) × (length trip ≤ 3) × AllByRecursion HasRanges trip

abbrev pub HasFewStops : RunView → Type 0
HasFewStops it = length it.stops ≤ most_stops

segment_ranges : (run from to : ℕ) → run ≤ 4095 → from < to → to ≤ most_legs → HasRanges (segment run from to)
segment_ranges run from to a b c =
    let x : nat_le run 4095 ≡ true = grind (arith, nat_tests) in
    let y : nat_lt from to ≡ true = grind (arith, nat_tests) in
    let z : nat_le to most_legs ≡ true = grind (arith, nat_tests) in
    rw (x, y, z) refl

to_ranges : (run from to n : ℕ) → run ≤ 4095 → from < to → to + n ≤ most_stops → AllByRecursion HasRanges (segments_to run from to n)
to_ranges run from to zero a b c = tt
to_ranges run from to (suc n) a b c = (segment_ranges run from to a b (omega arith), to_ranges run from (to + 1) n a (omega arith) (omega arith))

from_ranges : (run from n : ℕ) → run ≤ 4095 → from + n ≤ most_stops → AllByRecursion HasRanges (segments_from run from n)
from_ranges run from zero a c = tt
from_ranges run from (suc n) a c =
    every_append HasRanges (segments_to run from (from + 1) n) (segments_from run (from + 1) n) (to_ranges run from (from + 1) n a (omega arith) (omega arith)) (from_ranges run (from + 1) n a (omega arith))

of_ranges : (run : ℕ) (runs : List RunView) → run + length runs ≤ 4096 → AllByRecursion HasFewStops runs → AllByRecursion HasRanges (segments_of run runs)
of_ranges run [] h each = tt
of_ranges run (it ∷ rest) h each =
    every_append HasRanges (segments_from run 0 (length it.stops)) (segments_of (run + 1) rest) (from_ranges run 0 (length it.stops) (omega arith) (omega (arith, each.0))) (of_ranges (run + 1) rest (omega arith) each.1)

longer_spelled : (segments : List Segment) → AllByRecursion HasRanges segments → (n : ℕ) (before : List Segment) → 1 ≤ length before → length before + n ≤ 3 → AllByRecursion HasRanges before
    → AllByRecursion IsSpelled (longer segments n before)
longer_spelled segments all zero before some few each = ((some, omega arith, each), tt)
longer_spelled segments all (suc n) before some few each = (
  (some, omega arith, each),
  every_flat HasRanges IsSpelled (λ s. longer segments n (before ++ s ∷ []))
      (λ s h. let long : length (before ++ s ∷ []) ≡ length before + 1 = length-append before (s ∷ []) in
      longer_spelled segments all n (before ++ s ∷ []) (omega arith) (omega arith) (every_append HasRanges before (s ∷ []) each (h, tt))) segments all,
)

lists_spelled : (segments : List Segment) → AllByRecursion HasRanges segments → AllByRecursion IsSpelled (all_lists segments)
lists_spelled segments all = every_flat HasRanges IsSpelled (λ s. longer segments 2 (s ∷ [])) (λ s h. longer_spelled segments all 2 (s ∷ []) (omega arith) (omega arith) (h, tt)) segments all

sorted_spelled : (r : RunsView) (trips : List (List Segment)) (trip : List Segment) → AllByRecursion IsSpelled trips → IsSpelled trip → AllByRecursion IsSpelled (sorted_in r trips trip)
sorted_spelled r [] trip all is = (is, tt)
sorted_spelled r (first ∷ rest) trip all is = by_test (stands_before r trip first) (sorted_spelled r rest trip all.1 is)
  where
    by_test : (b : Bool) → AllByRecursion IsSpelled (sorted_in r rest trip) → AllByRecursion IsSpelled (if b then trip ∷ first ∷ rest else first ∷ sorted_in r rest trip)
    by_test true more = (is, all)
    by_test false more = (all.0, more)

-- the trips of a wish have spellings, where there are few runs with few stops
pub trips_spelled : (r : RunsView) (w : TripWish) → length r.runs ≤ most_runs → All HasFewStops r.runs → AllByRecursion IsSpelled (trips_of r w)
unfolding trips_of
trips_spelled r w few stops =
    let segments = all_segments r in
    let lists = lists_spelled segments (of_ranges 0 r.runs (omega arith) (recursion_from_All HasFewStops r.runs stops)) in
    every_take IsSpelled most_trips _ (every_fold IsSpelled (sorted_in r) (sorted_spelled r) _ [] tt (every_filter IsSpelled (is_trip r w) (all_lists segments) lists))

-- one count for each segment
one_each : (cat : CatalogueView) (w : OfferWish) (segments : List Segment) (free : List ℕ) (es : List Step) → CountsSegments cat w segments free es → length free ≡ length segments
one_each cat w [] [] es is = refl
one_each cat w (s ∷ rest) (n ∷ free) es is = ap suc (one_each cat w rest free is.1 is.3)
one_each cat w [] (n ∷ free) es is = absurd is
one_each cat w (s ∷ rest) [] es is = absurd is

code_ranges : (w : OfferWish) (now : ℕ) (trip : List Segment) → now ≤ last_second → is_party w.adults w.children ≡ true → w.wanted ≤ 31 → IsSpelled trip → is_offer (code_for w now trip) ≡ true
code_ranges w now trip years party traits is =
    let a : nat_le now 4_102_444_799 ≡ true = grind (arith, nat_tests) in
    let b : nat_le w.wanted 31 ≡ true = grind (arith, nat_tests) in
    let c : nat_le 1 (length trip) ≡ true = grind (arith, nat_tests, is.0) in
    let d : nat_le (length trip) 3 ≡ true = grind (arith, nat_tests, is.1) in
    rw (a, party, b, c, d) (every_passes is_segment trip is.2)

each_writable : (cat : CatalogueView) (w : OfferWish) (now : ℕ) (trips : List (List Segment)) (offers : List Offer) (es : List Step) → now ≤ last_second → is_party w.adults w.children ≡ true → w.wanted ≤ 31
    → AllByRecursion IsSpelled trips → OffersFor cat w now trips offers es → AllByRecursion IsWritable offers
each_writable cat w now [] [] es years party traits all is = tt
each_writable cat w now (t ∷ trips) (o ∷ offers) es years party traits all is = (
  record {
    ranges = ap is_offer is.2.0 ∙ code_ranges w now t years party traits all.0;
    counts = one_each cat w t o.free.items is.0 is.2.2 ∙ sym (ap (λ v. length v.segments) is.2.0);
  },
  each_writable cat w now trips offers is.1 years party traits all.1 is.3,
)
each_writable cat w now [] (o ∷ offers) es years party traits all is = absurd is
each_writable cat w now (t ∷ trips) [] es years party traits all is = absurd is

pub offers_writable : (cat : CatalogueView) (w : OfferWish) (now : ℕ) (trips : List (List Segment)) (offers : List Offer) (es : List Step) → now ≤ last_second → is_party w.adults w.children ≡ true → w.wanted ≤ 31
    → AllByRecursion IsSpelled trips → OffersFor cat w now trips offers es → All IsWritable offers
offers_writable cat w now trips offers es years party traits all is = All-from_recursion IsWritable offers (each_writable cat w now trips offers es years party traits all is)

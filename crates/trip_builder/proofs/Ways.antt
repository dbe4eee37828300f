-- A trip goes on from each of its beginnings, and arrives later than each of them.
use Rattle.std.proofs.Common.{◌≡◌, ◌∙◌, ℕ, suc, ◌+◌, ◌-◌, ◌<◌, ◌≤◌, Bool, true, false, not, ◌==◌, ◌&&◌, List, [], ◌∷◌, ◌++◌, length, length-append, append_assoc, append-nil, refl, sym, ap, arith, nat_le, get_or, true≢false}
use Rattle.std.specs.List.{AllByRecursion}
use Rattle.std.proofs.Math.Bool.{and-true}
use Rattle.std.proofs.Math.Seq.{get_or-append_seam}
use Rattle.std.proofs.lemmas.Bool.Decides.{nat_tests}
use Rattle.train_runs.specs.declared.segment.Segment.{Segment}
use Rattle.train_runs.specs.Runs.{RunsView, stops_of}
use Rattle.train_runs.specs.declared.departure.Departure.{Departure}
use Rattle.train_runs.specs.declared.wish.TripWish.{TripWish}
use Rattle.trip_builder.specs.Segments.{IsKnown, segment, first_stop, last_stop, last_of, no_segment}
use Rattle.trip_builder.specs.Order.{last_arrival}
use Rattle.trip_builder.specs.Trips.{begins, connects, uses_run, follows, is_chain, arrives, sets_out, is_trip, change_at, longest_wait}
use Rattle.trip_builder.specs.Best.{IsTrip}
use Rattle.trip_builder.specs.Search.{is_way, IsWay, goes_on, has_run, MayTake, Rise}

pub both_true : (a b : Bool) → (a && b) ≡ true → (a ≡ true) × (b ≡ true)
both_true true b e = (refl, e)
both_true false b e = absurd (true≢false (sym e))

and_in_turn : (a b c : Bool) → (a && (b && c)) ≡ ((a && b) && c)
and_in_turn true b c = refl
and_in_turn false b c = refl

pub last_is : (t : List Segment) (x : Segment) → last_of (t ++ x ∷ []) ≡ x
last_is t x =
    let count : length (t ++ x ∷ []) ≡ length t + 1 = length-append t (x ∷ []) in
    let at : length (t ++ x ∷ []) - 1 ≡ length t = omega arith in
    ap (λ n. get_or (t ++ x ∷ []) n no_segment) at ∙ get_or-append_seam t x [] no_segment

chain_parts : (r : RunsView) (before xs ys : List Segment) → is_chain r before (xs ++ ys) ≡ (is_chain r before xs && is_chain r (before ++ xs) ys)
chain_parts r before [] ys = ap (λ (l : List Segment). is_chain r l ys) (sym (append-nil before))
chain_parts r before (x ∷ xs) ys =
    ap (λ b. follows r before x && b) (chain_parts r (before ++ x ∷ []) xs ys ∙ ap (λ (l : List Segment). is_chain r (before ++ x ∷ []) xs && is_chain r l ys) (append_assoc before (x ∷ []) xs))
    ∙ and_in_turn (follows r before x) (is_chain r (before ++ x ∷ []) xs) (is_chain r (before ++ x ∷ xs) ys)

-- ---- a way that goes on

pub way_goes_on : (r : RunsView) (w : TripWish) (way : List Segment) (s : Segment) → is_way r w way ≡ true → goes_on r w way s ≡ true → is_way r w (way ++ s ∷ []) ≡ true
way_goes_on r w [] s so next = let parts = both_true (begins r w s) (not false) next in ap (λ b. b && true) parts.0
way_goes_on r w (b ∷ bs) s so next =
    let parts = both_true (begins r w b) (is_chain r (b ∷ []) bs) so in
    let chain : is_chain r (b ∷ []) (bs ++ s ∷ []) ≡ true =
    chain_parts r (b ∷ []) bs (s ∷ []) ∙ (ap (λ c. c && (follows r (b ∷ bs) s && true)) parts.1 ∙ (and-true (follows r (b ∷ bs) s) ∙ next)) in
    ap (λ c. c && is_chain r (b ∷ []) (bs ++ s ∷ [])) parts.0 ∙ chain

pub known_append : (r : RunsView) (xs ys : List Segment) → AllByRecursion (IsKnown r) xs → AllByRecursion (IsKnown r) ys → AllByRecursion (IsKnown r) (xs ++ ys)
known_append r [] ys a b = b
known_append r (x ∷ xs) ys a b = (a.0, known_append r xs ys a.1 b)

pub known_after : (r : RunsView) (xs ys : List Segment) → AllByRecursion (IsKnown r) (xs ++ ys) → AllByRecursion (IsKnown r) ys
known_after r [] ys all = all
known_after r (x ∷ xs) ys all = known_after r xs ys all.1

pub taken_goes_on : (r : RunsView) (w : TripWish) (way : List Segment) (d : Departure) (to : ℕ) → MayTake r w way d → goes_on r w way (segment d.run.0 d.stop to) ≡ true
taken_goes_on r w way d to may = ap (λ b. b && not (has_run way d.run.0)) may.leaves ∙ ap not may.fresh

pub way_taken : (r : RunsView) (w : TripWish) (way : List Segment) (d : Departure) (to : ℕ) → IsWay r w way → MayTake r w way d → d.stop < to → to < length (stops_of r d.run.0)
    → IsWay r w (way ++ segment d.run.0 d.stop to ∷ [])
way_taken r w way d to is may low high = record {
  known = known_append r way (segment d.run.0 d.stop to ∷ []) is.known (record { rises = low; ends = high }, tt);
  so_far = way_goes_on r w way (segment d.run.0 d.stop to) is.so_far (taken_goes_on r w way d to may);
}

pub each_known : (r : RunsView) (way : List Segment) → ((k : ℕ) → k < length way → (none : Segment) → IsKnown r (get_or way k none)) → AllByRecursion (IsKnown r) way
each_known r [] each = tt
each_known r (s ∷ rest) each = (each 0 (omega arith) s, each_known r rest (λ k h none. each (suc k) (omega (arith, h)) none))

-- ---- a trip and its beginnings

trip_sets_out : (r : RunsView) (w : TripWish) (t : List Segment) → is_trip r w t ≡ true → (sets_out r w t ≡ true) × (arrives r w t ≡ true)
trip_sets_out r w t e = both_true (sets_out r w t) (arrives r w t) e

pub next_goes_on : (r : RunsView) (w : TripWish) (way : List Segment) (s : Segment) (rest : List Segment) → sets_out r w (way ++ s ∷ rest) ≡ true
    → (goes_on r w way s ≡ true) × (is_chain r (way ++ s ∷ []) rest ≡ true)
next_goes_on r w [] s rest e = let parts = both_true (begins r w s) (is_chain r (s ∷ []) rest) e in (ap (λ b. b && true) parts.0, parts.1)
next_goes_on r w (b ∷ bs) s rest e =
    let parts = both_true (begins r w b) (is_chain r (b ∷ []) (bs ++ s ∷ rest)) e in
    let chain = both_true (is_chain r (b ∷ []) bs) (is_chain r (b ∷ bs) (s ∷ rest)) (sym (chain_parts r (b ∷ []) bs (s ∷ rest)) ∙ parts.1) in
    both_true (follows r (b ∷ bs) s) (is_chain r ((b ∷ bs) ++ s ∷ []) rest) chain.1

pub departs_after : (a change limit depart : ℕ) (same : Bool) → (same && (nat_le (a + change) depart && nat_le depart limit)) ≡ true → a ≤ depart
departs_after a change limit depart same e = by_tests same (nat_le (a + change) depart) refl e
  where
    by_tests : (s b : Bool) → nat_le (a + change) depart ≡ b → (s && (b && nat_le depart limit)) ≡ true → a ≤ depart
    by_tests false b t e = absurd (true≢false (sym e))
    by_tests true false t e = absurd (true≢false (sym e))
    by_tests true true t e = grind (arith, nat_tests)

-- what follows arrives later
pub chain_later : (r : RunsView) → Rise r → (before rest : List Segment) → is_chain r before rest ≡ true → AllByRecursion (IsKnown r) rest
    → last_arrival r before + length rest ≤ last_arrival r (before ++ rest)
chain_later r rise before [] e known = let same : last_arrival r before ≡ last_arrival r (before ++ []) = ap (last_arrival r) (sym (append-nil before)) in omega (arith, same)
chain_later r rise before (x ∷ rest) e known =
    let parts = both_true (follows r before x) (is_chain r (before ++ x ∷ []) rest) e in
    let more = chain_later r rise (before ++ x ∷ []) rest parts.1 known.1 in
    let off = last_stop r (last_of before) in
    let next = both_true (connects r off x) (not (uses_run before x)) parts.0 in
    let after = departs_after off.arrive (change_at r off.station) (off.arrive + longest_wait) (first_stop r x).depart ((first_stop r x).station.0 == off.station.0) next.0 in
    let up = (rise x known.0).1 in
    let here : last_arrival r (before ++ x ∷ []) ≡ (last_stop r x).arrive = ap (λ (s : Segment). (last_stop r s).arrive) (last_is before x) in
    let whole : last_arrival r ((before ++ x ∷ []) ++ rest) ≡ last_arrival r (before ++ x ∷ rest) = ap (last_arrival r) (append_assoc before (x ∷ []) rest) in
    omega (arith, more, after, up, here, whole)

-- what a trip that begins so tells of its next segment
pub record IsNext (r : RunsView) (w : TripWish) (way : List Segment) (s : Segment) (rest : List Segment) : Type 0 where
  pub known : IsKnown r s
  pub next : goes_on r w way s ≡ true
  pub arrival : Rise r → (last_stop r s).arrive + length rest ≤ last_arrival r (way ++ s ∷ rest)
  pub departure : Rise r → (first_stop r s).depart < last_arrival r (way ++ s ∷ rest)

pub trip_goes_on : (r : RunsView) (w : TripWish) (way : List Segment) (s : Segment) (rest : List Segment) → IsTrip r w (way ++ s ∷ rest) → IsNext r w way s rest
trip_goes_on r w way s rest trip =
    let out = (trip_sets_out r w (way ++ s ∷ rest) trip.trip).0 in
    let parts = next_goes_on r w way s rest out in
    let known = known_after r way (s ∷ rest) trip.known in
    let arrival : Rise r → (last_stop r s).arrive + length rest ≤ last_arrival r (way ++ s ∷ rest) = (λ rise.
    (let more = chain_later r rise (way ++ s ∷ []) rest parts.1 known.1 in
    let here : last_arrival r (way ++ s ∷ []) ≡ (last_stop r s).arrive = ap (λ (x : Segment). (last_stop r x).arrive) (last_is way s) in
    let whole : last_arrival r ((way ++ s ∷ []) ++ rest) ≡ last_arrival r (way ++ s ∷ rest) = ap (last_arrival r) (append_assoc way (s ∷ []) rest) in
    omega (arith, more, here, whole))) in
    record {
      known = known.0;
      next = parts.0;
      arrival = arrival;
      departure = λ rise. (let at = arrival rise in let up = (rise s known.0).1 in omega (arith, at, up));
    }

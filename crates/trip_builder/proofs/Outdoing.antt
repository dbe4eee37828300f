-- What comes behind the sixteenth by its whole key: as it begins, it can't come among the best.
use Rattle.std.proofs.Common.{◌≡◌, ◌∙◌, ℕ, ◌+◌, ◌<◌, ◌≤◌, ◌==◌, ◌⊎◌, inl, inr, Bool, true, false, List, [], ◌∷◌, ◌++◌, length, length-append, append_assoc, refl, sym, ap, subst, arith, nat_lt, true≢false, if◌then◌else◌}
use Rattle.std.proofs.lemmas.Bool.Decides.{nat_tests}
use Rattle.train_runs.specs.declared.segment.Segment.{Segment}
use Rattle.train_runs.specs.declared.run.Stop.{Stop}
use Rattle.train_runs.specs.declared.departure.Departure.{Departure}
use Rattle.train_runs.specs.Runs.{RunsView}
use Rattle.rail_ids.specs.declared.StationNo.{StationNo}
use Rattle.train_runs.specs.declared.wish.TripWish.{TripWish}
use Rattle.trip_builder.specs.Segments.{segment, first_stop, last_stop}
use Rattle.trip_builder.specs.Order.{last_arrival, first_departure, is_same, is_lower, are_lower, exceeds, stands_before}
use Rattle.trip_builder.specs.Trips.{most_trips}
use Rattle.trip_builder.specs.Best.{AreInOrder, IsDecided}
use Rattle.trip_builder.specs.Search.{leaves_after, IsWindowOf, AreDecided, AreDecidedFrom}
use Rattle.trip_builder.specs.Bounds.{BoundsRide, BoundsLeaving, arrival_of}
use Rattle.trip_builder.specs.Keeping.{sixteenth, BeginsBehind, IsOutdone}
use Rattle.trip_builder.proofs.StrictOrder.{three_ways, segments_strict, same_segment, is_lower-irreflexive, agree, differ}
use Rattle.trip_builder.proofs.Ways.{both_true, trip_goes_on}
use Rattle.trip_builder.proofs.Deciding.{earlier_first, behind_decided}
use Rattle.trip_builder.proofs.Placing.{before_side, all_before}
use Rattle.trip_builder.proofs.Bounding.{fresh_end, end_is, trip_leads}

-- ---- by the segments

exceeds_lower : (begun rest trip : List Segment) → exceeds begun trip ≡ true → are_lower trip (begun ++ rest) ≡ true
exceeds_lower [] rest trip e = absurd (true≢false (sym e))
exceeds_lower (s ∷ begun) rest [] e = absurd (true≢false (sym e))
exceeds_lower (s ∷ begun) rest (t ∷ trip) e = by_test (is_same t s) refl (exceeds_lower begun rest trip)
  where
    by_test : (b : Bool) → is_same t s ≡ b → (exceeds begun trip ≡ true → are_lower trip (begun ++ rest) ≡ true) → are_lower (t ∷ trip) (s ∷ begun ++ rest) ≡ true
    by_test true f more = agree t s trip (begun ++ rest) f ∙ more (sym (ap (λ (b : Bool). if b then exceeds begun trip else is_lower t s) f) ∙ e)
    by_test false f more = differ t s trip (begun ++ rest) f ∙ (sym (ap (λ (b : Bool). if b then exceeds begun trip else is_lower t s) f) ∙ e)

stops_on : (run from to : ℕ) → from + 1 < to → is_lower (segment run from (from + 1)) (segment run from to) ≡ true
stops_on run from to up =
    let same_run : (run == run) ≡ true = grind (arith, nat_tests) in
    let same_stop : (from == from) ≡ true = grind (arith, nat_tests) in
    let less : nat_lt (from + 1) to ≡ true = grind (arith, nat_tests) in
    rw (same_run, same_stop) less

lower_still : (t : Segment) (run from to : ℕ) → from + 1 ≤ to → is_lower t (segment run from (from + 1)) ≡ true → is_lower t (segment run from to) ≡ true
lower_still t run from to up low = by_place (three_ways (from + 1) to)
  where
    by_place : (from + 1 ≡ to) ⊎ ((from + 1 < to) ⊎ (to < from + 1)) → is_lower t (segment run from to) ≡ true
    by_place (inl e) = subst (λ k. is_lower t (segment run from k) ≡ true) e low
    by_place (inr (inl less)) = segments_strict.goes_on t (segment run from (from + 1)) (segment run from to) low (stops_on run from to less)
    by_place (inr (inr more)) = absurd (omega (arith, more, up))

-- so does what gets off later
exceeds_later : (way trip : List Segment) (run from to : ℕ) → from + 1 ≤ to → exceeds (way ++ segment run from (from + 1) ∷ []) trip ≡ true → exceeds (way ++ segment run from to ∷ []) trip ≡ true
exceeds_later [] [] run from to up e = absurd (true≢false (sym e))
exceeds_later (x ∷ way) [] run from to up e = absurd (true≢false (sym e))
exceeds_later [] (t ∷ trip) run from to up e = by_test (is_same t (segment run from (from + 1))) refl
  where
    apart : is_lower t (segment run from to) ≡ true → (b : Bool) → is_same t (segment run from to) ≡ b → exceeds (segment run from to ∷ []) (t ∷ trip) ≡ true
    apart low true f = absurd (is_lower-irreflexive t (segment run from to) (same_segment t (segment run from to) f) low)
    apart low false f = ap (λ (b : Bool). if b then false else is_lower t (segment run from to)) f ∙ low

    by_test : (b : Bool) → is_same t (segment run from (from + 1)) ≡ b → exceeds (segment run from to ∷ []) (t ∷ trip) ≡ true
    by_test true f = absurd (true≢false (sym e ∙ ap (λ (b : Bool). if b then false else is_lower t (segment run from (from + 1))) f))
    by_test false f =
        let low = sym (ap (λ (b : Bool). if b then false else is_lower t (segment run from (from + 1))) f) ∙ e in
        apart (lower_still t run from to up low) (is_same t (segment run from to)) refl
exceeds_later (x ∷ way) (t ∷ trip) run from to up e = by_test (is_same t x) refl (exceeds_later way trip run from to up)
  where
    by_test : (b : Bool) → is_same t x ≡ b → (exceeds (way ++ segment run from (from + 1) ∷ []) trip ≡ true → exceeds (way ++ segment run from to ∷ []) trip ≡ true)
        → exceeds (x ∷ way ++ segment run from to ∷ []) (t ∷ trip) ≡ true
    by_test true f more =
        ap (λ (b : Bool). if b then exceeds (way ++ segment run from to ∷ []) trip else is_lower t x) f
        ∙ more (sym (ap (λ (b : Bool). if b then exceeds (way ++ segment run from (from + 1) ∷ []) trip else is_lower t x) f) ∙ e)
    by_test false f more =
        ap (λ (b : Bool). if b then exceeds (way ++ segment run from to ∷ []) trip else is_lower t x) f
        ∙ (sym (ap (λ (b : Bool). if b then exceeds (way ++ segment run from (from + 1) ∷ []) trip else is_lower t x) f) ∙ e)

-- ---- by the whole key

-- the trip has a later key than the other, behind the arrival
abbrev IsBehind : RunsView → List Segment → List Segment → Type 0
IsBehind r a t = (first_departure r t < first_departure r a) ⊎ ((first_departure r t ≡ first_departure r a) × ((length a < length t) ⊎ ((length t ≡ length a) × (are_lower a t ≡ true))))

stands_by : (r : RunsView) (a t : List Segment) → last_arrival r a ≤ last_arrival r t → IsBehind r a t → stands_before r a t ≡ true
stands_by r a t up behind = by_order (three_ways (last_arrival r a) (last_arrival r t))
  where
    together : last_arrival r a ≡ last_arrival r t → IsBehind r a t → stands_before r a t ≡ true
    together e (inl early) =
        let arrive : (last_arrival r a == last_arrival r t) ≡ true = grind (arith, nat_tests) in
        let depart : (first_departure r a == first_departure r t) ≡ false = grind (arith, nat_tests) in
        let less : nat_lt (first_departure r t) (first_departure r a) ≡ true = grind (arith, nat_tests) in
        rw (arrive, depart) less
    together e (inr (f, inl long)) =
        let arrive : (last_arrival r a == last_arrival r t) ≡ true = grind (arith, nat_tests) in
        let depart : (first_departure r a == first_departure r t) ≡ true = grind (arith, nat_tests) in
        let count : (length a == length t) ≡ false = grind (arith, nat_tests) in
        let less : nat_lt (length a) (length t) ≡ true = grind (arith, nat_tests) in
        rw (arrive, depart, count) less
    together e (inr (f, inr (g, low))) =
        let arrive : (last_arrival r a == last_arrival r t) ≡ true = grind (arith, nat_tests) in
        let depart : (first_departure r a == first_departure r t) ≡ true = grind (arith, nat_tests) in
        let count : (length a == length t) ≡ true = grind (arith, nat_tests) in
        rw (arrive, depart, count) low

    by_order : (last_arrival r a ≡ last_arrival r t) ⊎ ((last_arrival r a < last_arrival r t) ⊎ (last_arrival r t < last_arrival r a)) → stands_before r a t ≡ true
    by_order (inl e) = together e behind
    by_order (inr (inl less)) = earlier_first r a t less
    by_order (inr (inr more)) = absurd (omega (arith, more, up))

behind_sixteenth : (r : RunsView) (best : List (List Segment)) (t : List Segment) → AreInOrder r best → length best ≡ most_trips → stands_before r (sixteenth best) t ≡ true → IsDecided r best t
behind_sixteenth r best t ordered full says =
    inr (full, all_before r best t (λ k d low high. before_side r best t 15 [] ordered (omega (arith, full)) says k d low (omega (arith, high, full))))

first_begun : (r : RunsView) (begun rest : List Segment) → 1 ≤ length begun → first_departure r (begun ++ rest) ≡ first_departure r begun
first_begun r [] rest some = absurd (omega (arith, some))
first_begun r (s ∷ begun) rest some = refl

key_goes_on : (r : RunsView) (last begun rest : List Segment) (more : ℕ) → 1 ≤ length begun → length rest ≡ more → BeginsBehind r last begun more → IsBehind r last (begun ++ rest)
key_goes_on r last begun rest more some count key = by_key key
  where
    same : first_departure r (begun ++ rest) ≡ first_departure r begun
    same = first_begun r begun rest some

    size : length (begun ++ rest) ≡ length begun + length rest
    size = length-append begun rest

    by_key : BeginsBehind r last begun more → IsBehind r last (begun ++ rest)
    by_key (inl early) = inl (let e = same in omega (arith, e, early))
    by_key (inr (f, inl long)) = inr (same ∙ f, inl (let n = size in omega (arith, n, count, long)))
    by_key (inr (f, inr (g, high))) = inr (same ∙ f, inr (let n = size in omega (arith, n, count, g), exceeds_lower begun rest last high))

pub outdone_decided : (r : RunsView) (best : List (List Segment)) (bound : ℕ) (begun rest : List Segment) (more : ℕ) → AreInOrder r best → IsOutdone r best bound begun more → length rest ≡ more
    → bound ≤ last_arrival r (begun ++ rest) → IsDecided r best (begun ++ rest)
outdone_decided r best bound begun rest more ordered (inl late) count up =
    behind_decided r best late.0 (begun ++ rest) late.2 (let less = late.1 in omega (arith, less, up))
outdone_decided r best bound begun rest more ordered (inr behind) count up =
    let arrival = behind.arrival in
    behind_sixteenth r best (begun ++ rest) ordered behind.full
    (stands_by r (sixteenth best) (begun ++ rest) (omega (arith, arrival, up)) (key_goes_on r (sixteenth best) begun rest more behind.some count behind.key))

-- ---- what takes the train, wherever it gets off

first_same : (r : RunsView) (way : List Segment) (s t : Segment) (xs ys : List Segment) → first_stop r s ≡ first_stop r t → first_departure r (way ++ s ∷ xs) ≡ first_departure r (way ++ t ∷ ys)
first_same r [] s t xs ys e = ap (λ (x : Stop). x.depart) e
first_same r (b ∷ way) s t xs ys e = refl

outdone_later : (r : RunsView) (best : List (List Segment)) (bound : ℕ) (way : List Segment) (more run from to : ℕ) → from + 1 ≤ to → IsOutdone r best bound (way ++ segment run from (from + 1) ∷ []) more
    → IsOutdone r best bound (way ++ segment run from to ∷ []) more
outdone_later r best bound way more run from to up (inl late) = inl late
outdone_later r best bound way more run from to up (inr behind) =
    inr (record { full = behind.full; some = omega (arith, two); arrival = behind.arrival; key = by_key behind.key })
  where
    one : length (way ++ segment run from (from + 1) ∷ []) ≡ length way + 1
    one = length-append way (segment run from (from + 1) ∷ [])

    two : length (way ++ segment run from to ∷ []) ≡ length way + 1
    two = length-append way (segment run from to ∷ [])

    same : first_departure r (way ++ segment run from to ∷ []) ≡ first_departure r (way ++ segment run from (from + 1) ∷ [])
    same = first_same r way (segment run from to) (segment run from (from + 1)) [] [] refl

    by_key : BeginsBehind r (sixteenth best) (way ++ segment run from (from + 1) ∷ []) more → BeginsBehind r (sixteenth best) (way ++ segment run from to ∷ []) more
    by_key (inl early) = inl (let e = same in omega (arith, e, early))
    by_key (inr (f, inl long)) = inr (same ∙ f, inl (let a = one in let b = two in omega (arith, a, b, long)))
    by_key (inr (f, inr (g, high))) =
        inr (same ∙ f, inr (let a = one in let b = two in omega (arith, a, b, g), exceeds_later way (sixteenth best) run from to up high))

pub ride_outdone : (r : RunsView) (w : TripWish) (best : List (List Segment)) (way : List Segment) (more bound : ℕ) (d : Departure) → AreInOrder r best → BoundsRide r w more way d.run.0 d.stop bound
    → IsOutdone r best bound (way ++ segment d.run.0 d.stop (d.stop + 1) ∷ []) more → AreDecidedFrom r w best way more d
ride_outdone r w best way more bound d ordered bounds outdone to rest count trip =
    let s = segment d.run.0 d.stop to in
    let rises = (trip_goes_on r w way s rest trip).known.rises in
    let is = bounds s rest refl refl count (trip_leads r w way s rest trip) (fresh_end r w way s rest trip) in
    let low = is.0 in
    let whole : (way ++ s ∷ []) ++ rest ≡ way ++ s ∷ rest = append_assoc way (s ∷ []) rest in
    let at : last_arrival r ((way ++ s ∷ []) ++ rest) ≡ arrival_of r s rest = ap (last_arrival r) whole ∙ ap (λ (x : Segment). (last_stop r x).arrive) (end_is way s rest) in
    subst (IsDecided r best) whole
    (outdone_decided r best bound (way ++ s ∷ []) rest more ordered (outdone_later r best bound way more d.run.0 d.stop to (omega (arith, rises)) outdone) count (omega (arith, low, at)))

pub window_outdone : (r : RunsView) (w : TripWish) (best : List (List Segment)) (way : List Segment) (more : ℕ) (station : StationNo) (from to bound : ℕ) → AreInOrder r best → IsWindowOf r w way station from to
    → BoundsLeaving r w more way station from to bound → IsOutdone r best bound way (more + 1) → AreDecided r w best way more
window_outdone r w best way more station from to bound ordered window bounds outdone s rest count trip =
    let parts = both_true (leaves_after r w way (first_stop r s)) _ (trip_goes_on r w way s rest trip).next in
    let is = bounds s rest count (trip_leads r w way s rest trip) (window (first_stop r s) ∙ parts.0) (fresh_end r w way s rest trip) in
    let low = is.0 in
    let at : last_arrival r (way ++ s ∷ rest) ≡ arrival_of r s rest = ap (λ (x : Segment). (last_stop r x).arrive) (end_is way s rest) in
    outdone_decided r best bound way (s ∷ rest) (more + 1) ordered outdone (omega (arith, count)) (omega (arith, low, at))

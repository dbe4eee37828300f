-- How trips are decided: tried and put into their place, or behind sixteen that arrive earlier.
use Rattle.std.proofs.Common.{◌≡◌, ◌∙◌, ℕ, zero, suc, ◌+◌, ◌<◌, ◌≤◌, ◌==◌, ◌⊎◌, inl, inr, ⊎_elim, Bool, true, false, ◌&&◌, List, [], ◌∷◌, ◌++◌, length, append_assoc, refl, sym, ap, subst, arith, nat_lt, get_or, take, true≢false, if◌then◌else◌}
use Rattle.std.specs.List.{filter, AllByRecursion}
use Rattle.std.proofs.lemmas.Bool.Decides.{nat_tests}
use Rattle.train_runs.specs.declared.segment.Segment.{Segment}
use Rattle.train_runs.specs.Runs.{RunsView}
use Rattle.train_runs.specs.declared.wish.TripWish.{TripWish}
use Rattle.trip_builder.specs.Segments.{IsKnown, all_segments}
use Rattle.trip_builder.specs.Order.{last_arrival, stands_before, sorted_in}
use Rattle.trip_builder.specs.Trips.{arrives, is_trip, sets_out, all_lists, most_trips, trips_of}
use Rattle.trip_builder.specs.Best.{IsAmong, AllStandBefore, AreInOrder, IsDecided, IsTrip, AreBest}
use Rattle.trip_builder.specs.Search.{IsWay, keep, AllArriveBy, Grows, AreDecided, AreDecidedWith}
use Rattle.trip_builder.proofs.StrictOrder.{three_ways, trips_strict}
use Rattle.trip_builder.proofs.FirstSixteen.{first_sixteen, among-all, all_put, all_map, all_among, put_in_order, has_put}
use Rattle.trip_builder.proofs.Members.{among_at, among_filter, filter_among, apart_filter}
use Rattle.trip_builder.proofs.AllLists.{apart_lists, lists_have, have_lists}
use Rattle.trip_builder.proofs.Ways.{trip_goes_on}

-- ---- arrivals

pub earlier_first : (r : RunsView) (a b : List Segment) → last_arrival r a < last_arrival r b → stands_before r a b ≡ true
earlier_first r a b h =
    let differ : (last_arrival r a == last_arrival r b) ≡ false = grind (arith, nat_tests) in
    let lower : nat_lt (last_arrival r a) (last_arrival r b) ≡ true = grind (arith, nat_tests) in
    rw differ lower

before_arrives : (r : RunsView) (a b : List Segment) → stands_before r a b ≡ true → last_arrival r a ≤ last_arrival r b
before_arrives r a b says = by_order (three_ways (last_arrival r a) (last_arrival r b))
  where
    by_order : (last_arrival r a ≡ last_arrival r b) ⊎ ((last_arrival r a < last_arrival r b) ⊎ (last_arrival r b < last_arrival r a)) → last_arrival r a ≤ last_arrival r b
    by_order (inl e) = omega (arith, e)
    by_order (inr (inl h)) = omega (arith, h)
    by_order (inr (inr h)) = absurd (true≢false (sym says ∙ (trips_strict r).one_way b a (earlier_first r b a h)))

-- where the last of the trips arrives by this moment, all of them do
pub all_arrive_by : (r : RunsView) (best : List (List Segment)) (k m : ℕ) (d : List Segment) → AreInOrder r best → suc k ≡ length best → last_arrival r (get_or best k d) ≤ m
    → AllByRecursion (λ t. last_arrival r t ≤ m) best
all_arrive_by r [] k m d ordered e h = tt
all_arrive_by r (t ∷ []) zero m d ordered e h = (h, tt)
all_arrive_by r (t ∷ []) (suc k) m d ordered e h = absurd (omega (arith, e))
all_arrive_by r (t ∷ u ∷ us) zero m d ordered e h = absurd (omega (arith, e))
all_arrive_by r (t ∷ u ∷ us) (suc k) m d ordered e h =
    let before = among-all r (λ x. stands_before r t x ≡ true) (u ∷ us) (get_or (u ∷ us) k d) ordered.0 (among_at (u ∷ us) k d (omega (arith, e))) in
    let up = before_arrives r t (get_or (u ∷ us) k d) before in
    (omega (arith, up, h), all_arrive_by r (u ∷ us) k m d ordered.1 (omega (arith, e)) h)

pub behind_decided : (r : RunsView) (best : List (List Segment)) (m : ℕ) (t : List Segment) → AllArriveBy r best m → m < last_arrival r t → IsDecided r best t
behind_decided r best m t by h =
    inr (by.0, all_map r (λ u. last_arrival r u ≤ m) (λ u. stands_before r u t ≡ true) (λ u early. earlier_first r u t (omega (arith, early, h))) best by.1)

-- ---- one more trip among the best

length_take : {X : Type 0} (n : ℕ) (xs : List X) → length (take n xs) ≤ n
length_take zero xs = omega arith
length_take (suc n) [] = omega arith
length_take (suc n) (x ∷ xs) = let more = length_take n xs in omega (arith, more)

length_take_of : {X : Type 0} (n : ℕ) (xs : List X) → n ≤ length xs → length (take n xs) ≡ n
length_take_of zero xs h = refl
length_take_of (suc n) [] h = absurd (omega (arith, h))
length_take_of (suc n) (x ∷ xs) h = let more = length_take_of n xs (omega (arith, h)) in omega (arith, more)

all_take : (P : List Segment → Type 0) (n : ℕ) (ts : List (List Segment)) → AllByRecursion P ts → AllByRecursion P (take n ts)
all_take P zero ts all = tt
all_take P (suc n) [] all = tt
all_take P (suc n) (t ∷ ts) all = (all.0, all_take P n ts all.1)

order_take : (r : RunsView) (n : ℕ) (ts : List (List Segment)) → AreInOrder r ts → AreInOrder r (take n ts)
order_take r zero ts ordered = tt
order_take r (suc n) [] ordered = tt
order_take r (suc n) (t ∷ ts) ordered = (all_take (λ u. stands_before r t u ≡ true) n ts ordered.0, order_take r n ts ordered.1)

length_put : (r : RunsView) (ts : List (List Segment)) (t : List Segment) → length (sorted_in r ts t) ≡ suc (length ts)
length_put r [] t = refl
length_put r (u ∷ us) t = by_test (stands_before r t u) (length_put r us t)
  where
    by_test : (b : Bool) → length (sorted_in r us t) ≡ suc (length us) → length (if b then t ∷ u ∷ us else u ∷ sorted_in r us t) ≡ suc (length (u ∷ us))
    by_test true more = refl
    by_test false more = omega (arith, more)

-- the first n have it, or are n and stand before it
in_or_behind : (r : RunsView) (n : ℕ) (ts : List (List Segment)) (t : List Segment) → AreInOrder r ts → IsAmong ts t
    → IsAmong (take n ts) t ⊎ ((length (take n ts) ≡ n) × AllStandBefore r (take n ts) t)
in_or_behind r zero ts t ordered is = inr (refl, tt)
in_or_behind r (suc n) [] t ordered is = absurd is
in_or_behind r (suc n) (u ∷ us) t ordered (inl e) = inl (inl e)
in_or_behind r (suc n) (u ∷ us) t ordered (inr is) = by_part (in_or_behind r n us t ordered.1 is)
  where
    by_part : IsAmong (take n us) t ⊎ ((length (take n us) ≡ n) × AllStandBefore r (take n us) t)
        → IsAmong (u ∷ take n us) t ⊎ ((length (u ∷ take n us) ≡ suc n) × AllStandBefore r (u ∷ take n us) t)
    by_part (inl here) = inl (inr here)
    by_part (inr (full, before)) = inr (omega (arith, full), (among-all r (λ x. stands_before r u x ≡ true) us t ordered.0 is, before))

-- what all of them stand before, as many of them with one more stand before too
still_before : (r : RunsView) (n : ℕ) (ts : List (List Segment)) (t u : List Segment) → length ts ≡ n → AllStandBefore r ts u → AllStandBefore r (take n (sorted_in r ts t)) u
still_before r zero [] t u e before = tt
still_before r (suc n) [] t u e before = absurd (omega (arith, e))
still_before r zero (x ∷ xs) t u e before = absurd (omega (arith, e))
still_before r (suc n) (x ∷ xs) t u e before = by_test (stands_before r t x) refl (still_before r n xs t u (omega (arith, e)) before.1)
  where
    by_test : (b : Bool) → stands_before r t x ≡ b → AllStandBefore r (take n (sorted_in r xs t)) u → AllStandBefore r (take (suc n) (if b then t ∷ x ∷ xs else x ∷ sorted_in r xs t)) u
    by_test true says more = ((trips_strict r).goes_on t x u says before.0, all_take (λ y. stands_before r y u ≡ true) n (x ∷ xs) before)
    by_test false says more = (before.0, more)

pub same_grows : (r : RunsView) (w : TripWish) (best : List (List Segment)) → AreBest r w best → Grows r w best best
same_grows r w best is = record { best = is; stays = λ t decided. decided }

pub grows_on : (r : RunsView) (w : TripWish) (a b c : List (List Segment)) → Grows r w a b → Grows r w b c → Grows r w a c
grows_on r w a b c ab bc = record { best = bc.best; stays = λ t decided. bc.stays t (ab.stays t decided) }

put_grows : (r : RunsView) (w : TripWish) (best : List (List Segment)) (t : List Segment) → AreBest r w best → (¬ IsAmong best t) → IsTrip r w t
    → Grows r w best (take most_trips (sorted_in r best t)) × IsDecided r (take most_trips (sorted_in r best t)) t
put_grows r w best t is fresh trip =
    let all = sorted_in r best t in
    let ordered : AreInOrder r all = put_in_order r best t is.order fresh in
    let few = length_take most_trips all in
    let grown : AreBest r w (take most_trips all) = record {
      few = few;
      order = order_take r most_trips all ordered;
      trips = all_take (IsTrip r w) most_trips all (all_put r (IsTrip r w) best t is.trips trip);
    } in
    let stays : (u : List Segment) → IsDecided r best u → IsDecided r (take most_trips all) u = λ u decided.
    ⊎_elim (λ (among : IsAmong best u). in_or_behind r most_trips all u ordered (has_put r best t u (inr among)))
    (λ (behind : (length best ≡ most_trips) × AllStandBefore r best u).
    (let one_more = length_put r best t in
    let full = length_take_of most_trips all (omega (arith, one_more, behind.0)) in
    inr (full, still_before r most_trips best t u behind.0 behind.1))) decided in
    (record { best = grown; stays = stays }, in_or_behind r most_trips all t ordered (has_put r best t t (inl refl)))

pub way_trip : (r : RunsView) (w : TripWish) (t : List Segment) → IsWay r w t → 1 ≤ length t → length t ≤ 3 → arrives r w t ≡ true → IsTrip r w t
way_trip r w [] way some few at = absurd (omega (arith, some))
way_trip r w (s ∷ rest) way some few at =
    record { some = some; few = few; known = way.known; trip = ap (λ b. b && arrives r w (s ∷ rest)) way.so_far ∙ at }

pub keep_grows : (r : RunsView) (w : TripWish) (best : List (List Segment)) (t : List Segment) → AreBest r w best → (¬ IsAmong best t) → IsWay r w t → 1 ≤ length t → length t ≤ 3
    → Grows r w best (keep r w best t) × (IsTrip r w t → IsDecided r (keep r w best t) t)
keep_grows r w best t is fresh way some few = by_test (arrives r w t) refl
  where
    by_test : (b : Bool) → arrives r w t ≡ b
        → Grows r w best (if b then take most_trips (sorted_in r best t) else best) × (IsTrip r w t → IsDecided r (if b then take most_trips (sorted_in r best t) else best) t)
    by_test true e = let put = put_grows r w best t is fresh (way_trip r w t way some few e) in (put.0, λ trip. put.1)
    by_test false e = (same_grows r w best is, λ trip. absurd (true≢false (sym (ends (sets_out r w t) (arrives r w t) trip.trip) ∙ e)))
      where
        ends : (a b : Bool) → (a && b) ≡ true → b ≡ true
        ends true b f = f
        ends false b f = absurd (true≢false (sym f))

-- ---- what goes on from a way

pub stays_with : (r : RunsView) (w : TripWish) (old new : List (List Segment)) (way : List Segment) (more : ℕ) (s : Segment) → Grows r w old new → AreDecidedWith r w old way more s
    → AreDecidedWith r w new way more s
stays_with r w old new way more s grows decided rest e trip = grows.stays (way ++ s ∷ rest) (decided rest e trip)

pub with_further : (r : RunsView) (w : TripWish) (best : List (List Segment)) (way : List Segment) (n more : ℕ) (s : Segment) → more ≡ suc n → AreDecided r w best (way ++ s ∷ []) n
    → AreDecidedWith r w best way more s
with_further r w best way n more s is decided [] e trip = absurd (omega (arith, is, e))
with_further r w best way n more s is decided (x ∷ rest) e trip =
    let same : (way ++ s ∷ []) ++ x ∷ rest ≡ way ++ s ∷ x ∷ rest = append_assoc way (s ∷ []) (x ∷ rest) in
    subst (IsDecided r best) same (decided x rest (omega (arith, is, e)) (subst (IsTrip r w) (sym same) trip))

-- no trip has a segment that there isn't
pub not_ridden : (r : RunsView) (w : TripWish) (best : List (List Segment)) (way : List Segment) (more : ℕ) (s : Segment) → (IsKnown r s → ⊥) → AreDecidedWith r w best way more s
not_ridden r w best way more s never rest e trip = absurd (never (trip_goes_on r w way s rest trip).known)

pub one_further : (P : ℕ → Type 0) (i : ℕ) → ((k : ℕ) → k < i → P k) → P i → (k : ℕ) → k < i + 1 → P k
one_further P i below here k h = by_place (three_ways k i)
  where
    by_place : (k ≡ i) ⊎ ((k < i) ⊎ (i < k)) → P k
    by_place (inl e) = subst P (sym e) here
    by_place (inr (inl less)) = below k less
    by_place (inr (inr more)) = absurd (omega (arith, more, h))

pub one_last : (r : RunsView) (w : TripWish) (best : List (List Segment)) (way : List Segment) (s : Segment) → (IsTrip r w (way ++ s ∷ []) → IsDecided r best (way ++ s ∷ []))
    → AreDecidedWith r w best way 0 s
one_last r w best way s decided [] e trip = decided trip
one_last r w best way s decided (x ∷ rest) e trip = absurd (omega (arith, e))

-- ---- all trips

trip_among : (r : RunsView) (w : TripWish) (t : List Segment) → IsTrip r w t → IsAmong (filter (is_trip r w) (all_lists (all_segments r))) t
trip_among r w t trip = filter_among (is_trip r w) (all_lists (all_segments r)) t (lists_have r t trip.some trip.few trip.known) trip.trip

among_trip : (r : RunsView) (w : TripWish) (t : List Segment) → IsAmong (filter (is_trip r w) (all_lists (all_segments r))) t → IsTrip r w t
among_trip r w t is =
    let parts = among_filter (is_trip r w) (all_lists (all_segments r)) t is in
    let list = have_lists r t parts.0 in
    record { some = list.0; few = list.1.0; known = list.1.1; trip = parts.1 }

all_decided : (r : RunsView) (w : TripWish) (best : List (List Segment)) → ((n : ℕ) → n < 3 → AreDecided r w best [] n) → (t : List Segment) → IsTrip r w t → IsDecided r best t
all_decided r w best decided [] trip = absurd (let some = trip.some in omega (arith, some))
all_decided r w best decided (s ∷ rest) trip = decided (length rest) (let few = trip.few in omega (arith, few)) s rest refl trip

pub best_of_all : (r : RunsView) (w : TripWish) (best : List (List Segment)) → AreBest r w best → ((n : ℕ) → n < 3 → AreDecided r w best [] n) → best ≡ trips_of r w
unfolding trips_of
best_of_all r w best is decided =
    let all = filter (is_trip r w) (all_lists (all_segments r)) in
    first_sixteen r all best (apart_filter (is_trip r w) (all_lists (all_segments r)) (apart_lists r)) is.few is.order
    (all_map r (IsTrip r w) (IsAmong all) (trip_among r w) best is.trips)
    (all_among r all (IsDecided r best) (λ t among. all_decided r w best decided t (among_trip r w t among)))

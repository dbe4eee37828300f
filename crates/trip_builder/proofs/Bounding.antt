-- The bounds from behind: that they are bounds, and that what they leave out is decided.
use Rattle.std.proofs.Common.{◌≡◌, ◌∙◌, ℕ, ◌+◌, ◌<◌, ◌≤◌, ◌==◌, ◌&&◌, ◌⊎◌, inl, inr, Bool, true, false, not, ◌||◌, ltb, true≢false, List, [], ◌∷◌, ◌++◌, length, length-append, append_assoc, refl, sym, ap, subst, arith, get_or, nat_le, eqb-true, ltb-true}
use Rattle.std.proofs.lemmas.Bool.{cases_lt}
use Rattle.std.proofs.lemmas.Bool.Decides.{nat_tests}
use Rattle.std.proofs.lemmas.List.{get_or_append_left}
use Rattle.std.proofs.Math.Seq.{get_or-append_seam}
use Rattle.rail_ids.specs.declared.StationNo.{StationNo}
use Rattle.train_runs.specs.declared.segment.Segment.{Segment}
use Rattle.train_runs.specs.declared.run.Stop.{Stop}
use Rattle.train_runs.specs.declared.departure.Departure.{Departure}
use Rattle.train_runs.specs.Stops.{stop_at}
use Rattle.train_runs.specs.Runs.{RunsView, stops_of}
use Rattle.train_runs.specs.declared.wish.TripWish.{TripWish}
use Rattle.trip_builder.specs.declared.board.Useful.{Useful}
use Rattle.trip_builder.specs.declared.ranks.FirstTwo.{FirstTwo}
use Rattle.trip_builder.specs.Segments.{segment, first_stop, last_stop, last_of}
use Rattle.trip_builder.specs.Order.{last_arrival}
use Rattle.trip_builder.specs.Trips.{change_at, longest_wait, leaves, connects, uses_run, follows, is_chain, arrives, sets_out}
use Rattle.trip_builder.specs.Best.{IsTrip, IsDecided}
use Rattle.trip_builder.specs.Search.{has_run, leaves_after, IsWindowOf, AreAllLeaving, AllArriveBefore, AreDecided, AreDecidedFrom}
use Rattle.trip_builder.specs.Boards.{ArePosted}
use Rattle.trip_builder.specs.Bounds.{never, no_rank, unknown, goes_to, LeadsTo, end_of, arrival_of, IsBound, RanksView, rank_of, IsPlaced, AreRanks, Precede, BoundsFresh, IsPosted, BoundsWindow, IsBoardOf, AreBoards, LeavesLate, AreFirsts, ReachView, IsReach, BoundsView, AreBounds, BoundsRide, BoundsLeaving, FirstsOfStop, PrecedeFrom}
use Rattle.trip_builder.proofs.Ways.{both_true, last_is, known_after, next_goes_on, trip_goes_on}
use Rattle.trip_builder.proofs.Deciding.{behind_decided}

-- what leads to the destination does so from its next segment
pub leads_on : (r : RunsView) (w : TripWish) (s t : Segment) (rest : List Segment) → LeadsTo r w s (t ∷ rest) → LeadsTo r w t rest
leads_on r w s t rest leads = record {
  known = leads.known.1;
  goes = (both_true (connects r (last_stop r s) t) (goes_to r w t rest) leads.goes).1;
  before = leads.before ++ s ∷ [];
  trip = subst (IsTrip r w) (sym (append_assoc leads.before (s ∷ []) (t ∷ rest))) leads.trip;
}

-- ---- ranks

-- what leads to the destination ends with a run that has its place
pub leading_placed : (r : RunsView) (w : TripWish) (v : RanksView) → AreRanks r w v → (s : Segment) (rest : List Segment) → LeadsTo r w s rest → IsPlaced r v (end_of s rest).run.0 (end_of s rest).span.to
leading_placed r w v are s [] leads = are.placed s.run.0 s.span.to leads.known.0.ends (eqb-true (last_stop r s).station.0 w.destination.0 leads.goes)
leading_placed r w v are s (t ∷ rest) leads = leading_placed r w v are t rest (leads_on r w s t rest leads)

pub unknown_precede : (r : RunsView) (w : TripWish) (v : RanksView) → AreRanks r w v → (s : Segment) (rest : List Segment) → LeadsTo r w s rest → Precede unknown (rank_of v s rest)
unknown_precede r w v are s rest leads = let few = (leading_placed r w v are s rest leads).few in (few, (omega arith, inr (omega arith)))

-- ---- what is looked up

pub looked_level : (r : RunsView) (w : TripWish) (b : BoundsView) (seen : List ReachView) (k : ℕ) (reach : ReachView) → seen ≡ b.levels → true ≡ ltb k (length seen) → reach ≡ get_or seen k reach → AreBounds r w b
    → IsReach r w b.ranks k reach
looked_level r w b seen k reach same small is are =
    let size : length seen ≡ length b.levels = ap (λ (l : List ReachView). length l) same in
    let inside = ltb-true k (length seen) (sym small) in
    subst (IsReach r w b.ranks k) (sym (is ∙ ap (λ (l : List ReachView). get_or l k reach) same)) (are k reach (omega (arith, inside, size)))

-- it leaves the station, within the window
pub left_within : (station : StationNo) (from to : ℕ) (stop : Stop) → leaves station from to stop ≡ true → (stop.station.0 ≡ station.0) × ((from ≤ stop.depart) × (stop.depart ≤ to))
left_within station from to stop says =
    let parts = both_true (stop.station.0 == station.0) (nat_le from stop.depart && nat_le stop.depart to) says in
    let times = both_true (nat_le from stop.depart) (nat_le stop.depart to) parts.1 in
    let low : from ≤ stop.depart = let t = times.0 in grind (arith, nat_tests) in
    let high : stop.depart ≤ to = let t = times.1 in grind (arith, nat_tests) in
    (eqb-true stop.station.0 station.0 parts.0, (low, high))

no_board : List Useful
no_board = []

-- the two precede what leaves the station within the window
abbrev pub FirstsLeaving : RunsView → TripWish → RanksView → ℕ → StationNo → ℕ → ℕ → FirstTwo → Type 0
FirstsLeaving r w v changes station from to two = (s : Segment) (rest : List Segment) → length rest ≡ changes → LeadsTo r w s rest
    → leaves station from to (first_stop r s) ≡ true → Precede two (rank_of v s rest)

-- by the board of the station, and what comes too late for it
pub firsts_found : (r : RunsView) (w : TripWish) (v : RanksView) (changes : ℕ) (reach : ReachView) (station : StationNo) (from to : ℕ) (early late two : FirstTwo) → IsReach r w v changes reach
    → ((none : List Useful) → station.0 < length reach.boards → BoundsWindow (get_or reach.boards station.0 none) from to early) → (length reach.boards ≤ station.0 → early ≡ unknown)
    → ((rank : ℕ) → v.late ≤ rank → rank < no_rank → Precede late rank) → ((rank : ℕ) → Precede early rank → Precede two rank) → ((rank : ℕ) → Precede late rank → Precede two rank)
    → FirstsLeaving r w v changes station from to two
firsts_found r w v changes reach station from to early late two are known other after left right s rest count leads says =
    by_rank (cases_lt rank v.late) (cases_lt station.0 (length reach.boards))
  where
    rank : ℕ
    rank = rank_of v s rest

    by_rank : (rank < v.late) ⊎ (v.late ≤ rank) → (station.0 < length reach.boards) ⊎ (length reach.boards ≤ station.0) → Precede two rank
    by_rank (inl less) (inl inside) =
        let its = left_within station from to (first_stop r s) says in
        left rank (known no_board inside (first_stop r s).depart rank (are.boards station.0 no_board inside s rest count leads its.0 less) its.1.0 its.1.1)
    by_rank (inl less) (inr past) = left rank (subst (λ (x : FirstTwo). Precede x rank) (sym (other past)) (unknown_precede r w v are.ranks s rest leads))
    by_rank (inr past) place = right rank (after rank past (leading_placed r w v are.ranks s rest leads).few)

pub leaving_fresh : (r : RunsView) (w : TripWish) (v : RanksView) (changes : ℕ) (way : List Segment) (station : StationNo) (from to bound : ℕ) (two : FirstTwo) → FirstsLeaving r w v changes station from to two
    → BoundsFresh r w v two way bound → BoundsLeaving r w changes way station from to bound
leaving_fresh r w v changes way station from to bound two firsts fresh s rest count leads says apart = fresh s rest leads (firsts s rest count leads says) apart

-- ---- what goes on from a stop

-- what goes on from a stop leaves it after the change
pub goes_on_there : (r : RunsView) (w : TripWish) (off : Stop) (s t : Segment) (rest : List Segment) → last_stop r s ≡ off → LeadsTo r w s (t ∷ rest)
    → LeadsTo r w t rest × (((first_stop r t).station.0 ≡ off.station.0) × ((off.arrive + change_at r off.station ≤ (first_stop r t).depart) × ((first_stop r t).depart ≤ off.arrive + longest_wait)))
goes_on_there r w off s t rest is leads =
    let parts = both_true (connects r (last_stop r s) t) (goes_to r w t rest) leads.goes in
    let there : connects r off t ≡ true = subst (λ (o : Stop). connects r o t ≡ true) is parts.0 in
    (leads_on r w s t rest leads, left_within off.station (off.arrive + change_at r off.station) (off.arrive + longest_wait) (first_stop r t) there)

-- where the two precede all that leaves the station from a moment on
pub rest_found : (r : RunsView) (w : TripWish) (v : RanksView) (changes : ℕ) (reach : ReachView) (off : Stop) (from : ℕ) (two : FirstTwo) → IsReach r w v changes reach
    → ((rank : ℕ) → v.late ≤ rank → rank < no_rank → Precede two rank) → PrecedeFrom reach.boards off.station.0 from two → from ≤ off.arrive + change_at r off.station → FirstsOfStop r w v (changes + 1) off two
rest_found r w v changes reach off from two are late precede low s [] is count leads = absurd (omega (arith, count))
rest_found r w v changes reach off from two are late precede low s (t ∷ rest) is count leads = by_rank (cases_lt rank v.late)
  where
    rank : ℕ
    rank = rank_of v t rest

    by_rank : (rank < v.late) ⊎ (v.late ≤ rank) → Precede two rank
    by_rank (inl less) =
        let its = goes_on_there r w off s t rest is leads in
        let depart = its.1.1.0 in
        precede.1 (first_stop r t).depart rank no_board (are.boards off.station.0 no_board precede.0 t rest (omega (arith, count)) its.0 its.1.0 less) (omega (arith, low, depart))
    by_rank (inr past) = late rank past (leading_placed r w v are.ranks s (t ∷ rest) leads).few

-- by the window of the change
pub window_found : (r : RunsView) (w : TripWish) (v : RanksView) (changes : ℕ) (reach : ReachView) (off : Stop) (from to : ℕ) (old here two : FirstTwo) → IsReach r w v changes reach
    → ((rank : ℕ) → v.late ≤ rank → rank < no_rank → Precede old rank) → ((none : List Useful) → off.station.0 < length reach.boards → BoundsWindow (get_or reach.boards off.station.0 none) from to here)
    → (length reach.boards ≤ off.station.0 → here ≡ unknown) → ((rank : ℕ) → Precede old rank → Precede two rank) → ((rank : ℕ) → Precede here rank → Precede two rank)
    → from ≤ off.arrive + change_at r off.station → off.arrive + longest_wait ≤ to → FirstsOfStop r w v (changes + 1) off two
window_found r w v changes reach off from to old here two are late known other left right low high s [] is count leads = absurd (omega (arith, count))
window_found r w v changes reach off from to old here two are late known other left right low high s (t ∷ rest) is count leads =
    by_rank (cases_lt rank v.late) (cases_lt off.station.0 (length reach.boards))
  where
    rank : ℕ
    rank = rank_of v t rest

    by_rank : (rank < v.late) ⊎ (v.late ≤ rank) → (off.station.0 < length reach.boards) ⊎ (length reach.boards ≤ off.station.0) → Precede two rank
    by_rank (inl less) (inl inside) =
        let its = goes_on_there r w off s t rest is leads in
        let depart = its.1.1 in
        right rank
        (known no_board inside (first_stop r t).depart rank (are.boards off.station.0 no_board inside t rest (omega (arith, count)) its.0 its.1.0 less) (omega (arith, low, depart.0)) (omega (arith, high, depart.1)))
    by_rank (inl less) (inr past) = right rank (subst (λ (x : FirstTwo). Precede x rank) (sym (other past)) (unknown_precede r w v are.ranks s (t ∷ rest) leads))
    by_rank (inr past) place = left rank (late rank past (leading_placed r w v are.ranks s (t ∷ rest) leads).few)

-- ---- one more

pub bounds_more : (r : RunsView) (w : TripWish) (old new : BoundsView) (reach : ReachView) (changes : ℕ) → new.ranks ≡ old.ranks → new.levels ≡ old.levels ++ reach ∷ [] → length old.levels ≡ changes → AreBounds r w old
    → IsReach r w old.ranks changes reach → (length new.levels ≡ changes + 1) × AreBounds r w new
bounds_more r w old new reach changes same is size are one =
    let count : length new.levels ≡ length old.levels + 1 = ap (λ (l : List ReachView). length l) is ∙ length-append old.levels (reach ∷ []) in (
      omega (arith, count, size),
      λ n none high. subst (λ (v : RanksView). IsReach r w v n (get_or new.levels n none)) (sym same)
          (subst (λ (l : List ReachView). IsReach r w old.ranks n (get_or l n none)) (sym is) (by_place n none (omega (arith, high, count, size)) (cases_lt n (length old.levels)))),
    )
  where
    by_place : (n : ℕ) (none : ReachView) → n < changes + 1 → (n < length old.levels) ⊎ (length old.levels ≤ n) → IsReach r w old.ranks n (get_or (old.levels ++ reach ∷ []) n none)
    by_place n none high (inl less) = subst (IsReach r w old.ranks n) (sym (get_or_append_left old.levels (reach ∷ []) none n less)) (are n none less)
    by_place n none high (inr past) =
        let at : n ≡ length old.levels = omega (arith, high, past, size) in
        subst (λ k. IsReach r w old.ranks k (get_or (old.levels ++ reach ∷ []) k none)) (sym at)
        (subst (IsReach r w old.ranks (length old.levels)) (sym (get_or-append_seam old.levels reach [] none)) (subst (λ k. IsReach r w old.ranks k reach) (sym size) one))

pub boards_more : (r : RunsView) (w : TripWish) (v : RanksView) (changes n : ℕ) (old new : List (List Useful)) (board : List Useful) → new ≡ old ++ board ∷ [] → length old ≡ n → AreBoards r w v changes old
    → IsBoardOf r w v changes n board → AreBoards r w v changes new
boards_more r w v changes n old new board is size are one k none high = subst (λ (l : List (List Useful)). IsBoardOf r w v changes k (get_or l k none)) (sym is) (by_place (cases_lt k (length old)))
  where
    by_place : (k < length old) ⊎ (length old ≤ k) → IsBoardOf r w v changes k (get_or (old ++ board ∷ []) k none)
    by_place (inl less) = subst (IsBoardOf r w v changes k) (sym (get_or_append_left old (board ∷ []) none k less)) (are k none less)
    by_place (inr past) =
        let count : length new ≡ length old + 1 = ap (λ (l : List (List Useful)). length l) is ∙ length-append old (board ∷ []) in
        let at : k ≡ length old = omega (arith, high, past, count) in
        subst (λ m. IsBoardOf r w v changes m (get_or (old ++ board ∷ []) m none)) (sym at)
        (subst (IsBoardOf r w v changes (length old)) (sym (get_or-append_seam old board [] none)) (subst (λ m. IsBoardOf r w v changes m board) (sym size) one))

-- ---- the board of a station

-- of a station that all leave too late
pub late_board : (r : RunsView) (w : TripWish) (v : RanksView) (changes station : ℕ) (board : List Useful) → LeavesLate r w v changes station → IsBoardOf r w v changes station board
late_board r w v changes station board late s rest count leads here less = absurd (let past = late s rest count leads here in omega (arith, past, less))

-- by the first two of each departure
pub board_posted : (r : RunsView) (w : TripWish) (v : RanksView) (changes : ℕ) (station : StationNo) (ds : List Departure) (twos : List FirstTwo) (board : List Useful) → AreAllLeaving r station ds
    → AreFirsts r w v changes ds (length ds) twos → ArePosted ds twos v.late board → IsBoardOf r w v changes station.0 board
board_posted r w v changes station ds twos board leaving firsts posted s rest count leads here less =
    let up = leads.known.0.rises in
    let ends = leads.known.0.ends in
    let listed = leaving.every s.run.0 s.span.from (omega (arith, up, ends)) here in
    let k = listed.place in
    let none : Departure = record { moment = 0; run = record { 0 = 0 }; stop = 0 } in
    let d = get_or ds k none in
    let is_run : d.run.0 ≡ s.run.0 = listed.run_is none in
    let is_stop : d.stop ≡ s.span.from = listed.stop_is none in
    let within = listed.within in
    let size = firsts.count in
    let its = firsts.each k none unknown within s rest (sym is_run) (sym is_stop) count leads in
    let moment : d.moment ≡ (first_stop r s).depart =
    sym (leaving.moments k none within) ∙ (ap (λ n. (stop_at (stops_of r n) d.stop).depart) is_run ∙ ap (λ n. (stop_at (stops_of r s.run.0) n).depart) is_stop) in
    subst (λ n. IsPosted board n (rank_of v s rest)) moment (posted k (rank_of v s rest) none within (omega (arith, within, size)) its less)

-- ---- what is left out

pub end_is : (way : List Segment) (s : Segment) (rest : List Segment) → last_of (way ++ s ∷ rest) ≡ end_of s rest
end_is way s [] = last_is way s
end_is way s (t ∷ rest) = ap last_of (sym (append_assoc way (s ∷ []) (t ∷ rest))) ∙ end_is (way ++ s ∷ []) t rest

chain_goes : (r : RunsView) (w : TripWish) (way : List Segment) (s : Segment) (rest : List Segment) → is_chain r (way ++ s ∷ []) rest ≡ true → ((last_stop r (end_of s rest)).station.0 == w.destination.0) ≡ true
    → goes_to r w s rest ≡ true
chain_goes r w way s [] chain at = at
chain_goes r w way s (t ∷ rest) chain at =
    let parts = both_true (follows r (way ++ s ∷ []) t) (is_chain r ((way ++ s ∷ []) ++ t ∷ []) rest) chain in
    let next = both_true (connects r (last_stop r (last_of (way ++ s ∷ []))) t) (not (uses_run (way ++ s ∷ []) t)) parts.0 in
    let here : connects r (last_stop r s) t ≡ true = subst (λ (x : Segment). connects r (last_stop r x) t ≡ true) (last_is way s) next.0 in
    ap (λ b. b && goes_to r w t rest) here ∙ chain_goes r w (way ++ s ∷ []) t rest parts.1 at

pub trip_leads : (r : RunsView) (w : TripWish) (way : List Segment) (s : Segment) (rest : List Segment) → IsTrip r w (way ++ s ∷ rest) → LeadsTo r w s rest
trip_leads r w way s rest trip =
    let parts = both_true (sets_out r w (way ++ s ∷ rest)) (arrives r w (way ++ s ∷ rest)) trip.trip in
    record {
      known = known_after r way (s ∷ rest) trip.known;
      goes = chain_goes r w way s rest (next_goes_on r w way s rest parts.0).1 (ap (λ (x : Segment). (last_stop r x).station.0 == w.destination.0) (sym (end_is way s rest)) ∙ parts.1);
      before = way;
      trip = trip;
    }

-- nothing arrives, or sixteen arrive before
abbrev pub IsHopeless : RunsView → List (List Segment) → ℕ → Type 0
IsHopeless r best bound = (bound ≡ never) ⊎ AllArriveBefore r best bound

late_decided : (r : RunsView) (best : List (List Segment)) (way : List Segment) (s : Segment) (rest : List Segment) (bound : ℕ) → IsBound bound (arrival_of r s rest) → IsHopeless r best bound
    → IsDecided r best (way ++ s ∷ rest)
late_decided r best way s rest bound is (inl none) = let small = is.1 in absurd (omega (arith, small, none))
late_decided r best way s rest bound is (inr late) =
    let at : last_arrival r (way ++ s ∷ rest) ≡ arrival_of r s rest = ap (λ (x : Segment). (last_stop r x).arrive) (end_is way s rest) in
    let low = is.0 in
    let less = late.1 in
    behind_decided r best late.0 (way ++ s ∷ rest) late.2 (omega (arith, low, less, at))

no_run : (way : List Segment) (s : Segment) (run : ℕ) → has_run (way ++ s ∷ []) run ≡ false → has_run way run ≡ false
no_run [] s run e = refl
no_run (x ∷ way) s run e = by_test (x.run.0 == run) e (no_run way s run)
  where
    by_test : (b : Bool) → (b || has_run (way ++ s ∷ []) run) ≡ false → (has_run (way ++ s ∷ []) run ≡ false → has_run way run ≡ false) → (b || has_run way run) ≡ false
    by_test true f further = absurd (true≢false f)
    by_test false f further = further f

turned : (b : Bool) → not b ≡ true → b ≡ false
turned true e = absurd (true≢false (sym e))
turned false e = refl

-- the last run of a trip isn't one of the way that it goes on from
pub fresh_end : (r : RunsView) (w : TripWish) (way : List Segment) (s : Segment) (rest : List Segment) → IsTrip r w (way ++ s ∷ rest) → has_run way (end_of s rest).run.0 ≡ false
fresh_end r w way s [] trip =
    let parts = both_true (leaves_after r w way (first_stop r s)) (not (uses_run way s)) (trip_goes_on r w way s [] trip).next in
    turned (has_run way s.run.0) parts.1
fresh_end r w way s (t ∷ rest) trip =
    no_run way s (end_of t rest).run.0 (fresh_end r w (way ++ s ∷ []) t rest (subst (IsTrip r w) (sym (append_assoc way (s ∷ []) (t ∷ rest))) trip))

pub ride_hopeless : (r : RunsView) (w : TripWish) (best : List (List Segment)) (way : List Segment) (more bound : ℕ) (d : Departure) → BoundsRide r w more way d.run.0 d.stop bound → IsHopeless r best bound
    → AreDecidedFrom r w best way more d
ride_hopeless r w best way more bound d bounds none to rest count trip =
    let s = segment d.run.0 d.stop to in
    late_decided r best way s rest bound (bounds s rest refl refl count (trip_leads r w way s rest trip) (fresh_end r w way s rest trip)) none

pub window_hopeless : (r : RunsView) (w : TripWish) (best : List (List Segment)) (way : List Segment) (more : ℕ) (station : StationNo) (from to bound : ℕ) → IsWindowOf r w way station from to
    → BoundsLeaving r w more way station from to bound → IsHopeless r best bound → AreDecided r w best way more
window_hopeless r w best way more station from to bound window bounds none s rest count trip =
    let parts = both_true (leaves_after r w way (first_stop r s)) (not (uses_run way s)) (trip_goes_on r w way s rest trip).next in
    late_decided r best way s rest bound (bounds s rest count (trip_leads r w way s rest trip) (window (first_stop r s) ∙ parts.0) (fresh_end r w way s rest trip)) none

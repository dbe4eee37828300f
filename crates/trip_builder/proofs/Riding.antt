-- The shortest rides to the destination, and what is left out by them.
use Rattle.std.proofs.Common.{◌≡◌, ℕ, suc, ◌+◌, ◌-◌, ◌<◌, ◌≤◌, ◌==◌, ◌&&◌, ◌⊎◌, inl, inr, true, List, [], ◌∷◌, ◌++◌, length, sym, ap, subst, arith, nat_le, get_or, eqb-true}
use Rattle.std.specs.Prelude.{Option}
use Rattle.std.specs.List.{AllByRecursion}
use Rattle.std.specs.Option.{option_map_or}
use Rattle.std.proofs.lemmas.Bool.{cases_lt}
use Rattle.std.proofs.lemmas.Option.{slice_get_past}
use Rattle.rail_ids.specs.declared.StationNo.{StationNo}
use Rattle.train_runs.specs.declared.segment.Segment.{Segment}
use Rattle.train_runs.specs.declared.run.Stop.{Stop}
use Rattle.train_runs.specs.declared.departure.Departure.{Departure}
use Rattle.train_runs.specs.Stops.{RunView, stop_at}
use Rattle.train_runs.specs.Runs.{RunsView, stops_of}
use Rattle.train_runs.specs.declared.wish.TripWish.{TripWish}
use Rattle.trip_builder.specs.Segments.{IsKnown, segment, first_stop, last_stop}
use Rattle.trip_builder.specs.Order.{last_arrival}
use Rattle.trip_builder.specs.Trips.{connects, change_at, longest_wait}
use Rattle.trip_builder.specs.Best.{IsDecided}
use Rattle.trip_builder.specs.Search.{Rise, AreLeaving, AreAllLeaving, AllArriveBefore, AreDecidedWith, AreDecidedFrom}
use Rattle.trip_builder.specs.Ends.{IsThere}
use Rattle.trip_builder.specs.Bounds.{goes_to, arrival_of}
use Rattle.trip_builder.specs.Shortest.{ride_from, AreLowered, IsRide, AreRidesTo, AreFromDepartures, AreShortest, TakesAtLeast}
use Rattle.trip_builder.proofs.Ways.{both_true, departs_after, trip_goes_on}
use Rattle.trip_builder.proofs.Deciding.{behind_decided}
use Rattle.trip_builder.proofs.Bounding.{trip_leads, end_is, leads_on}
use Rattle.trip_builder.proofs.Boarding.{stop_is}

-- ---- rides that are taken in

pub lowered_on : (a b c : List ℕ) → AreLowered a b → AreLowered b c → AreLowered a c
lowered_on a b c ab bc station =
    let one = ab station in
    let two = bc station in
    omega (arith, one, two)

pub ride_stays : (old new : List ℕ) (station depart arrive : ℕ) → AreLowered old new → IsRide old station depart arrive → IsRide new station depart arrive
ride_stays old new station depart arrive low is = let less = low station in omega (arith, less, is)

pub rides_stay : (r : RunsView) (run to : ℕ) (old new : List ℕ) → AreLowered old new → AreRidesTo r run to old → AreRidesTo r run to new
rides_stay r run to old new low are high from up =
    let on = stop_at (stops_of r run) from in
    ride_stays old new on.station.0 on.depart (stop_at (stops_of r run) to).arrive low (are high from up)

-- the ride from one stop of the run to another
pub ride_taken : (r : RunsView) (run from to : ℕ) (rides : List ℕ) (stops : List Stop) (on off : Stop) (seconds : ℕ) → Rise r → stops ≡ stops_of r run → from < to → to < length stops → on ≡ get_or stops from on
    → off ≡ get_or stops to off → seconds ≡ off.arrive - on.depart → (1 ≤ seconds → ride_from rides on.station.0 ≤ seconds)
    → IsRide rides (stop_at (stops_of r run) from).station.0 (stop_at (stops_of r run) from).depart (stop_at (stops_of r run) to).arrive
ride_taken r run from to rides stops on off seconds rise same up high is_on is_off took here =
    let its = stops_of r run in
    let at_on : stop_at its from ≡ on = stop_is r run from stops on same (omega (arith, up, high)) is_on in
    let at_off : stop_at its to ≡ off = stop_is r run to stops off same high is_off in
    let later : (stop_at its from).depart < (stop_at its to).arrive = (rise (segment run from to) (record { rises = up; ends = subst (λ (xs : List Stop). to < length xs) same high })).1 in
    let depart : (stop_at its from).depart ≡ on.depart = ap (λ (x : Stop). x.depart) at_on in
    let arrive : (stop_at its to).arrive ≡ off.arrive = ap (λ (x : Stop). x.arrive) at_off in
    let less : ride_from rides on.station.0 ≤ seconds = here (omega (arith, took, later, depart, arrive)) in
    let whole : IsRide rides on.station.0 on.depart (stop_at its to).arrive = omega (arith, less, took, later, depart, arrive) in
    subst (λ (x : Stop). IsRide rides x.station.0 x.depart (stop_at its to).arrive) (sym at_on) whole

-- all that come to the destination leave it, or end there
pub all_shortest : (r : RunsView) (w : TripWish) (ds : List Departure) (old new : List ℕ) → AreAllLeaving r w.destination ds → AreFromDepartures r ds old → AreLowered old new
    → ((run to : ℕ) → to + 1 ≡ length (stops_of r run) → IsThere r w run to → AreRidesTo r run to new) → AreShortest r w new
all_shortest r w ds old new leaving departures low last rise run to there high = by_place (cases_lt (to + 1) (length (stops_of r run)))
  where
    by_place : (to + 1 < length (stops_of r run)) ⊎ (length (stops_of r run) ≤ to + 1) → (from : ℕ) → from < to
        → IsRide new (stop_at (stops_of r run) from).station.0 (stop_at (stops_of r run) from).depart (stop_at (stops_of r run) to).arrive
    by_place (inl further) =
        let it = leaving.every run to further there in
        let none : Departure = record { moment = 0; run = record { 0 = run }; stop = to } in
        let d = get_or ds it.place none in
        let one : AreRidesTo r d.run.0 d.stop old = departures it.place none it.within in
        let two : AreRidesTo r run d.stop old = subst (λ n. AreRidesTo r n d.stop old) (it.run_is none) one in
        let three : AreRidesTo r run to old = subst (λ n. AreRidesTo r run n old) (it.stop_is none) two in
        rides_stay r run to old new low three high
    by_place (inr past) = last run to (omega (arith, past, high)) there high

-- where nothing is known each ride takes a second
pub none_shortest : (r : RunsView) (w : TripWish) (rides : List ℕ) → rides ≡ [] → AreShortest r w rides
none_shortest r w rides none rise run to there high from up =
    let on = stop_at (stops_of r run) from in
    let off = stop_at (stops_of r run) to in
    let later : on.depart < off.arrive = (rise (segment run from to) (record { rises = up; ends = high })).1 in
    let second : IsRide [] on.station.0 on.depart off.arrive = omega (arith, later) in
    subst (λ (l : List ℕ). IsRide l on.station.0 on.depart off.arrive) (sym none) second

-- a run that isn't known has no stop
pub past_rides : (r : RunsView) (w : TripWish) (rides : List ℕ) (count : ℕ) → count ≡ length r.runs
    → ((run : ℕ) → run < count → (to : ℕ) → to + 1 ≡ length (stops_of r run) → IsThere r w run to → AreRidesTo r run to rides)
    → (run to : ℕ) → to + 1 ≡ length (stops_of r run) → IsThere r w run to → AreRidesTo r run to rides
past_rides r w rides count is each run to last there = by_place (cases_lt run count)
  where
    by_place : (run < count) ⊎ (count ≤ run) → AreRidesTo r run to rides
    by_place (inl less) = each run less to last there
    by_place (inr past) = absurd (
        let none : length (stops_of r run) ≡ 0 = ap (λ (o : Option RunView). length (option_map_or (λ (it : RunView). it.stops) o [])) (slice_get_past r.runs run (omega (arith, is, past))) in
        omega (arith, none, last)
        )

-- ---- how long it takes at least

goes_later : (r : RunsView) (w : TripWish) (s : Segment) (rest : List Segment) → Rise r → AllByRecursion (IsKnown r) (s ∷ rest) → goes_to r w s rest ≡ true → (first_stop r s).depart < arrival_of r s rest
goes_later r w s [] rise known goes = (rise s known.0).1
goes_later r w s (t ∷ rest) rise known goes =
    let off = last_stop r s in
    let parts = both_true (connects r off t) (goes_to r w t rest) goes in
    let after = departs_after off.arrive (change_at r off.station) (off.arrive + longest_wait) (first_stop r t).depart ((first_stop r t).station.0 == off.station.0) parts.0 in
    let up = (rise s known.0).1 in
    let more = goes_later r w t rest rise known.1 parts.1 in
    omega (arith, after, up, more)

pub takes_a_second : (r : RunsView) (w : TripWish) (changes : ℕ) (station : StationNo) → Rise r → TakesAtLeast r w changes station 1
takes_a_second r w changes station rise s rest count leads here = let later = goes_later r w s rest rise leads.known leads.goes in omega (arith, later)

pub takes_a_ride : (r : RunsView) (w : TripWish) (rides : List ℕ) (changes seconds : ℕ) (station : StationNo) → changes ≡ 0 → Rise r → AreShortest r w rides → seconds ≡ ride_from rides station.0
    → TakesAtLeast r w changes station seconds
takes_a_ride r w rides changes seconds station none rise are is s [] count leads here =
    let known = leads.known.0 in
    let there : IsThere r w s.run.0 s.span.to = eqb-true (last_stop r s).station.0 w.destination.0 leads.goes in
    let ride = are rise s.run.0 s.span.to there known.ends s.span.from known.rises in
    let same : ride_from rides (first_stop r s).station.0 ≡ ride_from rides station.0 = ap (λ n. ride_from rides n) here in
    omega (arith, ride, same, is)
takes_a_ride r w rides changes seconds station none rise are is s (t ∷ rest) count leads here = absurd (omega (arith, none, count))

-- ---- what comes too late

too_late : (r : RunsView) (best : List (List Segment)) (way : List Segment) (s : Segment) (rest : List Segment) (m : ℕ) → AllArriveBefore r best m → m ≤ arrival_of r s rest → IsDecided r best (way ++ s ∷ rest)
too_late r best way s rest m late by =
    let at : last_arrival r (way ++ s ∷ rest) ≡ arrival_of r s rest = ap (λ (x : Segment). (last_stop r x).arrive) (end_is way s rest) in
    let less = late.1 in
    behind_decided r best late.0 (way ++ s ∷ rest) late.2 (omega (arith, less, by, at))

left_late : (r : RunsView) (w : TripWish) (best : List (List Segment)) (way : List Segment) (more seconds m : ℕ) (station : StationNo) (s : Segment) → TakesAtLeast r w more station seconds → AllArriveBefore r best m
    → m ≤ (first_stop r s).depart + seconds → (first_stop r s).station.0 ≡ station.0 → AreDecidedWith r w best way more s
left_late r w best way more seconds m station s takes late at here rest count trip =
    let low = takes s rest count (trip_leads r w way s rest trip) here in
    too_late r best way s rest m late (omega (arith, low, at))

-- where those from one on leave too late to come among the best
pub late_from : (r : RunsView) (w : TripWish) (best : List (List Segment)) (way : List Segment) (more : ℕ) (station : StationNo) (from to : ℕ) (ds : List Departure) (none : Departure) (i m seconds : ℕ)
    → AreLeaving r station from to ds → TakesAtLeast r w more station seconds → AllArriveBefore r best m → m ≤ (get_or ds i none).moment + seconds
    → ((k : ℕ) → k < i → (none : Departure) (to : ℕ) → AreDecidedWith r w best way more (segment (get_or ds k none).run.0 (get_or ds k none).stop to))
    → (k : ℕ) → k < length ds → (to : ℕ) → AreDecidedWith r w best way more (segment (get_or ds k none).run.0 (get_or ds k none).stop to)
late_from r w best way more station from to ds none i m seconds leaving takes late at before k h stop = by_place (cases_lt k i)
  where
    by_place : (k < i) ⊎ (i ≤ k) → AreDecidedWith r w best way more (segment (get_or ds k none).run.0 (get_or ds k none).stop stop)
    by_place (inl less) = before k less none stop
    by_place (inr after) =
        let rising = leaving.rise i k none after h in
        let each = leaving.each k none h in
        let leave = each.moment in
        let on = stop_at (stops_of r (get_or ds k none).run.0) (get_or ds k none).stop in
        let parts = both_true (on.station.0 == station.0) (nat_le from on.depart && nat_le on.depart to) each.window in
        left_late r w best way more seconds m station (segment (get_or ds k none).run.0 (get_or ds k none).stop stop) takes late (omega (arith, at, rising, leave)) (eqb-true on.station.0 station.0 parts.0)

-- where the train comes too late to the station of a change
pub change_late : (r : RunsView) (w : TripWish) (best : List (List Segment)) (way : List Segment) (n more seconds m : ℕ) (s : Segment) → more ≡ suc n → TakesAtLeast r w n (last_stop r s).station seconds
    → AllArriveBefore r best m → m ≤ (last_stop r s).arrive + seconds → AreDecidedWith r w best way more s
change_late r w best way n more seconds m s is takes late at [] count trip = absurd (omega (arith, is, count))
change_late r w best way n more seconds m s is takes late at (t ∷ rest) count trip =
    let leads = trip_leads r w way s (t ∷ rest) trip in
    let off = last_stop r s in
    let on = first_stop r t in
    let parts = both_true (connects r off t) (goes_to r w t rest) leads.goes in
    let tests = both_true (on.station.0 == off.station.0) (nat_le (off.arrive + change_at r off.station) on.depart && nat_le on.depart (off.arrive + longest_wait)) parts.0 in
    let after = departs_after off.arrive (change_at r off.station) (off.arrive + longest_wait) on.depart (on.station.0 == off.station.0) parts.0 in
    let low = takes t rest (omega (arith, is, count)) (leads_on r w s t rest leads) (eqb-true on.station.0 off.station.0 tests.0) in
    too_late r best way s (t ∷ rest) m late (omega (arith, low, at, after))

-- a train comes to a further stop no earlier
pub arrives_on : (r : RunsView) (run to k : ℕ) → Rise r → to ≤ k → k < length (stops_of r run) → (stop_at (stops_of r run) to).arrive ≤ (stop_at (stops_of r run) k).arrive
arrives_on r run to k rise low inside = by_place (cases_lt to k)
  where
    by_place : (to < k) ⊎ (k ≤ to) → (stop_at (stops_of r run) to).arrive ≤ (stop_at (stops_of r run) k).arrive
    by_place (inl less) = let up = rise (segment run to k) (record { rises = less; ends = inside }) in omega (arith, up.0, up.1)
    by_place (inr past) =
        let same : to ≡ k = omega (arith, low, past) in
        subst (λ n. (stop_at (stops_of r run) to).arrive ≤ (stop_at (stops_of r run) n).arrive) same (omega arith)

-- where the train comes too late to a stop of a change, and later still to all further ones
pub further_late : (r : RunsView) (w : TripWish) (best : List (List Segment)) (way : List Segment) (n more m : ℕ) (d : Departure) (to : ℕ) → more ≡ suc n → Rise r → AllArriveBefore r best m
    → m ≤ (stop_at (stops_of r d.run.0) to).arrive + 1 → ((k : ℕ) → k < to → AreDecidedWith r w best way more (segment d.run.0 d.stop k)) → AreDecidedFrom r w best way more d
further_late r w best way n more m d to is rise late at before k rest count trip = by_place (cases_lt k to)
  where
    s : Segment
    s = segment d.run.0 d.stop k

    by_place : (k < to) ⊎ (to ≤ k) → IsDecided r best (way ++ s ∷ rest)
    by_place (inl less) = before k less rest count trip
    by_place (inr past) =
        let known = (trip_goes_on r w way s rest trip).known in
        let up = arrives_on r d.run.0 to k rise past known.ends in
        change_late r w best way n more 1 m s is (takes_a_second r w n (last_stop r s).station rise) late (omega (arith, at, up)) rest count trip

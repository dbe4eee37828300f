-- The departures of a station within a window, as the search takes them.
use Rattle.std.proofs.Common.{◌≡◌, ℕ, ◌+◌, ◌<◌, ◌≤◌, ◌==◌, ◌⊎◌, inl, inr, ◌&&◌, true, List, [], length, Some, None, refl, sym, ap, subst, arith, nat_le, get_or, eqb-true, eq-eqb}
use Rattle.std.specs.Prelude.{slice_get, Option}
use Rattle.std.specs.List.{AllPairs, Contains}
use Rattle.std.specs.Option.{option_map_or}
use Rattle.std.proofs.lemmas.Bool.Decides.{nat_tests}
use Rattle.std.proofs.lemmas.List.Elements.{Contains-get_or, at_read}
use Rattle.rail_ids.specs.declared.StationNo.{StationNo}
use Rattle.train_runs.specs.declared.run.Stop.{Stop}
use Rattle.train_runs.specs.declared.departure.Departure.{Departure}
use Rattle.train_runs.specs.Stops.{RunView, stop_at}
use Rattle.train_runs.specs.Runs.{RunsView, stops_of}
use Rattle.train_runs.specs.Departures.{IsDeparture, IsWithin, IsBefore, AreExactly, AreDepartures}
use Rattle.trip_builder.specs.Trips.{leaves}
use Rattle.trip_builder.specs.Search.{Leaves, IsListed, AreLeaving, AreAllLeaving}
use Rattle.trip_builder.proofs.StrictOrder.{three_ways}
use Rattle.trip_builder.proofs.Ways.{both_true}

pub is_station : (a b : StationNo) → a.0 ≡ b.0 → a ≡ b
is_station a b e = ap (λ (n : ℕ). let s : StationNo = record { 0 = n } in s) e

stops_are : (r : RunsView) (run : ℕ) (it : RunView) → slice_get r.runs run ≡ Some it → stops_of r run ≡ it.stops
stops_are r run it found = ap (λ (o : Option RunView). option_map_or (λ (x : RunView). x.stops) o []) found

pub leaves_there : (station : StationNo) (from to : ℕ) (stop : Stop) → stop.station ≡ station → from ≤ stop.depart → stop.depart ≤ to → leaves station from to stop ≡ true
leaves_there station from to stop here low high =
    let one : (stop.station.0 == station.0) ≡ true = eq-eqb stop.station.0 station.0 (ap (λ (s : StationNo). s.0) here) in
    let two : nat_le from stop.depart ≡ true = grind (arith, nat_tests) in
    let three : nat_le stop.depart to ≡ true = grind (arith, nat_tests) in
    rw (one, two, three) refl

departure_leaves : (r : RunsView) (station : StationNo) (from to : ℕ) (d : Departure) → IsDeparture r.runs station d → IsWithin from to d → Leaves r station from to d
departure_leaves r station from to d is within =
    let stops = stops_are r d.run.0 is.run is.found in
    let at = is.leaves in
    record {
      further = subst (λ (xs : List Stop). d.stop + 1 < length xs) (sym stops) is.goes_on;
      window = subst (λ (xs : List Stop). leaves station from to (stop_at xs d.stop) ≡ true) (sym stops)
          (leaves_there station from to (stop_at is.run.stops d.stop) is.here (omega (arith, at, within.0)) (omega (arith, at, within.1)));
      moment = subst (λ (xs : List Stop). (stop_at xs d.stop).depart ≡ d.moment) (sym stops) at;
    }

-- a stop that is left within the window, as a departure
leaving_stop : (r : RunsView) (station : StationNo) (from to run stop : ℕ) → stop + 1 < length (stops_of r run) → leaves station from to (stop_at (stops_of r run) stop) ≡ true
    → (d : Departure) × ((d.run.0 ≡ run) × ((d.stop ≡ stop) × (IsDeparture r.runs station d × IsWithin from to d)))
leaving_stop r station from to run stop further says = by_run (slice_get r.runs run) refl
  where
    by_run : (o : Option RunView) → slice_get r.runs run ≡ o → (d : Departure) × ((d.run.0 ≡ run) × ((d.stop ≡ stop) × (IsDeparture r.runs station d × IsWithin from to d)))
    by_run None e = absurd (let none : length (stops_of r run) ≡ 0 = ap (λ (o : Option RunView). length (option_map_or (λ (x : RunView). x.stops) o [])) e in omega (arith, none, further))
    by_run (Some it) e =
        let stops = stops_are r run it e in
        let at = stop_at it.stops stop in
        let says_it : leaves station from to at ≡ true = subst (λ (xs : List Stop). leaves station from to (stop_at xs stop) ≡ true) stops says in
        let parts = both_true (at.station.0 == station.0) (nat_le from at.depart && nat_le at.depart to) says_it in
        let times = both_true (nat_le from at.depart) (nat_le at.depart to) parts.1 in
        let low : from ≤ at.depart = let t = times.0 in grind (arith, nat_tests) in
        let high : at.depart ≤ to = let t = times.1 in grind (arith, nat_tests) in
        let d : Departure = record { moment = at.depart; run = record { 0 = run }; stop = stop } in
        let is : IsDeparture r.runs station d = record {
          run = it;
          found = e;
          goes_on = subst (λ (xs : List Stop). stop + 1 < length xs) stops further;
          here = is_station at.station station (eqb-true at.station.0 station.0 parts.0);
          leaves = refl;
        } in
        (d, (refl, (refl, (is, (low, high)))))

rising : (ds : List Departure) → AllPairs IsBefore ds → (j k : ℕ) (none : Departure) → j ≤ k → k < length ds → (get_or ds j none).moment ≤ (get_or ds k none).moment
rising ds ordered j k none low high = by_place (three_ways j k)
  where
    by_pair : IsBefore (get_or ds j none) (get_or ds k none) → (get_or ds j none).moment ≤ (get_or ds k none).moment
    by_pair (inl h) = omega (arith, h)
    by_pair (inr both) = omega (arith, both.0)

    by_place : (j ≡ k) ⊎ ((j < k) ⊎ (k < j)) → (get_or ds j none).moment ≤ (get_or ds k none).moment
    by_place (inl e) = let same : (get_or ds j none).moment ≡ (get_or ds k none).moment = ap (λ n. (get_or ds n none).moment) e in omega (arith, same)
    by_place (inr (inl h)) = by_pair (ordered j k none h high)
    by_place (inr (inr h)) = absurd (omega (arith, h, low))

-- a departure of the list
listed : (ds : List Departure) (d : Departure) (run stop : ℕ) → d.run.0 ≡ run → d.stop ≡ stop → Contains ds d → IsListed ds run stop
listed ds d run stop is_run is_stop at = record {
  place = at.0;
  within = at.1;
  run_is = λ none. at_read ds (λ (x : Departure). x.run.0 ≡ run) at.0 d at.1 (sym at.2) is_run none;
  stop_is = λ none. at_read ds (λ (x : Departure). x.stop ≡ stop) at.0 d at.1 (sym at.2) is_stop none;
}

pub are_leaving : (r : RunsView) (station : StationNo) (from to : ℕ) (ds : List Departure) → AreDepartures r.runs station from to ds → AreLeaving r station from to ds
are_leaving r station from to ds are = record {
  each = λ k none h. (let is = (are.members (get_or ds k none)).0 (Contains-get_or ds k none h) in departure_leaves r station from to (get_or ds k none) is.0 is.1);
  every = λ run stop further says. (let one = leaving_stop r station from to run stop further says in listed ds one.0 run stop one.1.0 one.1.1.0 ((are.members one.0).1 one.1.1.1));
  rise = rising ds are.in_order;
}

-- a stop of the station that isn't the run's last, as a departure
stop_left : (r : RunsView) (station : StationNo) (run stop : ℕ) → stop + 1 < length (stops_of r run) → (stop_at (stops_of r run) stop).station.0 ≡ station.0
    → (d : Departure) × ((d.run.0 ≡ run) × ((d.stop ≡ stop) × IsDeparture r.runs station d))
stop_left r station run stop further there = by_run (slice_get r.runs run) refl
  where
    by_run : (o : Option RunView) → slice_get r.runs run ≡ o → (d : Departure) × ((d.run.0 ≡ run) × ((d.stop ≡ stop) × IsDeparture r.runs station d))
    by_run None e = absurd (let none : length (stops_of r run) ≡ 0 = ap (λ (o : Option RunView). length (option_map_or (λ (x : RunView). x.stops) o [])) e in omega (arith, none, further))
    by_run (Some it) e =
        let stops = stops_are r run it e in
        let at = stop_at it.stops stop in
        let d : Departure = record { moment = at.depart; run = record { 0 = run }; stop = stop } in
        let is : IsDeparture r.runs station d = record {
          run = it;
          found = e;
          goes_on = subst (λ (xs : List Stop). stop + 1 < length xs) stops further;
          here = is_station at.station station (subst (λ (xs : List Stop). (stop_at xs stop).station.0 ≡ station.0) stops there);
          leaves = refl;
        } in
        (d, (refl, (refl, is)))

pub all_leave : (r : RunsView) (station : StationNo) (ds : List Departure) → AreExactly (IsDeparture r.runs station) ds → AreAllLeaving r station ds
all_leave r station ds are = record {
  moments = λ k none h. (let is = (are.members (get_or ds k none)).0 (Contains-get_or ds k none h) in
      subst (λ (xs : List Stop). (stop_at xs (get_or ds k none).stop).depart ≡ (get_or ds k none).moment) (sym (stops_are r (get_or ds k none).run.0 is.run is.found)) is.leaves);
  every = λ run stop further there. (let one = stop_left r station run stop further there in listed ds one.0 run stop one.1.0 one.1.1.0 ((are.members one.0).1 one.1.1.1));
  rise = rising ds are.in_order;
}

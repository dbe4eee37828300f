-- Where runs come to the destination, and what is decided by it.
use Rattle.std.proofs.Common.{◌≡◌, ◌∙◌, ℕ, ◌<◌, ◌==◌, ◌⊎◌, inl, inr, true, false, List, [], ◌∷◌, ◌++◌, length, Some, None, sym, ap, subst, arith, get_or, take, eqb-true, true≢false}
use Rattle.std.specs.Prelude.{slice_get, Option}
use Rattle.std.specs.Option.{option_map_or}
use Rattle.std.proofs.lemmas.List.{get_or-take, get_or_default, length-take-le}
use Rattle.std.proofs.lemmas.List.Folds.{list_any_at}
use Rattle.std.proofs.lemmas.Bool.Decides.{nat_tests}
use Rattle.train_runs.specs.declared.segment.Segment.{Segment}
use Rattle.train_runs.specs.declared.run.Stop.{Stop}
use Rattle.train_runs.specs.declared.departure.Departure.{Departure}
use Rattle.train_runs.specs.Stops.{RunView, IsRun, stop_at, no_stop, stands_at, is_repeated, first_repeated}
use Rattle.train_runs.specs.Runs.{RunsView, stops_of}
use Rattle.train_runs.specs.declared.wish.TripWish.{TripWish}
use Rattle.trip_builder.specs.declared.ends.Call.{Call}
use Rattle.trip_builder.specs.Segments.{IsKnown, segment, last_stop}
use Rattle.trip_builder.specs.Order.{last_arrival}
use Rattle.trip_builder.specs.Trips.{arrives, sets_out}
use Rattle.trip_builder.specs.Best.{IsTrip, IsDecided}
use Rattle.trip_builder.specs.Search.{AllArriveBefore, AreDecidedWith, AreDecidedFrom}
use Rattle.trip_builder.specs.Ends.{IsCall}
use Rattle.trip_builder.proofs.StrictOrder.{three_ways}
use Rattle.trip_builder.proofs.Rising.{none_least}
use Rattle.trip_builder.proofs.Ways.{both_true, last_is, known_after}
use Rattle.trip_builder.proofs.Deciding.{one_last, behind_decided}

-- ---- a run stops at a station once

never_twice : (stops : List Stop) (j k : ℕ) → first_repeated stops ≡ None → j < k → k < length stops → (stop_at stops j).station.0 ≡ (stop_at stops k).station.0 → ⊥
never_twice stops j k apart less high same =
    let here = stop_at stops k in
    let no : is_repeated stops k ≡ false = none_least (is_repeated stops) 0 (length stops) k apart (omega arith) (omega (arith, high)) in
    let it : get_or (take k stops) j no_stop ≡ stop_at stops j = get_or-take k stops j no_stop less in
    let test : stands_at here.station (get_or (take k stops) j no_stop) ≡ true = ap (stands_at here.station) it ∙ same_number (stop_at stops j).station.0 here.station.0 same in
    true≢false (sym (list_any_at (stands_at here.station) (take k stops) j no_stop (within less high) test) ∙ no)
  where
    same_number : (a b : ℕ) → a ≡ b → (a == b) ≡ true
    same_number a b e = grind (arith, nat_tests)

    within : j < k → k < length stops → j < length (take k stops)
    within less high = let size = length-take-le k stops (omega (arith, high)) in omega (arith, size, less)

pub only_call : (stops : List Stop) (j k : ℕ) → first_repeated stops ≡ None → j < length stops → k < length stops → (stop_at stops j).station.0 ≡ (stop_at stops k).station.0 → j ≡ k
only_call stops j k apart low high same = by_place (three_ways j k)
  where
    by_place : (j ≡ k) ⊎ ((j < k) ⊎ (k < j)) → j ≡ k
    by_place (inl e) = e
    by_place (inr (inl less)) = absurd (never_twice stops j k apart less high same)
    by_place (inr (inr more)) = absurd (never_twice stops k j apart more low (sym same))

pub call_is : (r : RunsView) (w : TripWish) (run n arrive : ℕ) (it : RunView) (stops : List Stop) (stop : Stop) → Some it ≡ slice_get r.runs run → IsRun (length r.stations) it → stops ≡ it.stops
    → n < length stops → stop ≡ get_or stops n stop → stop.station.0 ≡ w.destination.0 → arrive ≡ stop.arrive → IsCall r w run (record { stop = n; arrive = arrive })
call_is r w run n arrive it stops stop found sound same high is there at =
    let its : stops_of r run ≡ stops = ap (λ (o : Option RunView). option_map_or (λ (x : RunView). x.stops) o []) (sym found) ∙ sym same in
    let here : stop_at stops n ≡ stop = get_or_default stops n no_stop stop high ∙ sym is in
    let apart : first_repeated stops ≡ None = subst (λ (xs : List Stop). first_repeated xs ≡ None) (sym same) sound.apart in
    let station : (stop_at stops n).station.0 ≡ w.destination.0 = ap (λ (x : Stop). x.station.0) here ∙ there in
    record {
      within = subst (λ (xs : List Stop). n < length xs) (sym its) high;
      few = let many = sound.many in let size = ap (λ (xs : List Stop). length xs) same in omega (arith, high, many, size);
      there = subst (λ (xs : List Stop). (stop_at xs n).station.0 ≡ w.destination.0) (sym its) station;
      arrives = subst (λ (xs : List Stop). (stop_at xs n).arrive ≡ arrive) (sym its) (ap (λ (x : Stop). x.arrive) here ∙ sym at);
      alone = λ k fits that. only_call stops k n apart (subst (λ (xs : List Stop). k < length xs) its fits) high
          (subst (λ (xs : List Stop). (stop_at xs k).station.0 ≡ w.destination.0) its that ∙ sym station);
    }

-- ---- what ends with the run

-- a trip that ends so ends at the destination, with a segment that there is
pub one_end : (r : RunsView) (w : TripWish) (best : List (List Segment)) (way : List Segment) (s : Segment)
    → ((last_stop r s).station.0 ≡ w.destination.0 → IsKnown r s → IsTrip r w (way ++ s ∷ []) → IsDecided r best (way ++ s ∷ [])) → AreDecidedWith r w best way 0 s
one_end r w best way s decided =
    one_last r w best way s (λ trip. (let there = (both_true (sets_out r w (way ++ s ∷ [])) (arrives r w (way ++ s ∷ [])) trip.trip).1 in
    let here : ((last_stop r s).station.0 == w.destination.0) ≡ true = ap (λ (x : Segment). (last_stop r x).station.0 == w.destination.0) (sym (last_is way s)) ∙ there in
    decided (eqb-true (last_stop r s).station.0 w.destination.0 here) (known_after r way (s ∷ []) trip.known).0 trip))

pub call_decided : (r : RunsView) (w : TripWish) (best : List (List Segment)) (way : List Segment) (d : Departure) (c : Call) → IsCall r w d.run.0 c
    → (d.stop < c.stop → IsTrip r w (way ++ segment d.run.0 d.stop c.stop ∷ []) → IsDecided r best (way ++ segment d.run.0 d.stop c.stop ∷ [])) → AreDecidedFrom r w best way 0 d
call_decided r w best way d c call decided to =
    one_end r w best way (segment d.run.0 d.stop to) (λ there known trip. (let same : to ≡ c.stop = call.alone to known.ends there in
    let up : d.stop < c.stop = let rises = known.rises in omega (arith, rises, same) in
    subst (λ n. IsDecided r best (way ++ segment d.run.0 d.stop n ∷ [])) (sym same) (decided up (subst (λ n. IsTrip r w (way ++ segment d.run.0 d.stop n ∷ [])) same trip))))

pub late_call : (r : RunsView) (w : TripWish) (best : List (List Segment)) (way : List Segment) (d : Departure) (c : Call) → IsCall r w d.run.0 c → AllArriveBefore r best c.arrive
    → AreDecidedFrom r w best way 0 d
late_call r w best way d c call late =
    let s = segment d.run.0 d.stop c.stop in
    let at : last_arrival r (way ++ s ∷ []) ≡ c.arrive = ap (λ (x : Segment). (last_stop r x).arrive) (last_is way s) ∙ call.arrives in
    call_decided r w best way d c call (λ up trip. behind_decided r best late.0 (way ++ s ∷ []) late.2 (omega (arith, late.1, at)))

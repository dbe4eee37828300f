-- Where one may be after so many trains of a trip.
use Rattle.std.proofs.Common.{◌≡◌, ◌∙◌, ℕ, ◌+◌, ◌-◌, ◌<◌, ◌≤◌, ◌⊎◌, inl, inr, List, [], ◌∷◌, ◌++◌, length, length-append, append_assoc, Bool, refl, sym, ap, subst, arith, get_or, not}
use Rattle.std.specs.Prelude.{Option}
use Rattle.std.proofs.lemmas.Bool.{cases_lt}
use Rattle.std.specs.Option.{option_map_or}
use Rattle.std.proofs.lemmas.Option.{slice_get_past}
use Rattle.train_runs.specs.declared.segment.Segment.{Segment}
use Rattle.train_runs.specs.declared.run.Stop.{Stop}
use Rattle.train_runs.specs.Stops.{RunView, stop_at}
use Rattle.train_runs.specs.Runs.{RunsView, stops_of}
use Rattle.train_runs.specs.declared.wish.TripWish.{TripWish}
use Rattle.trip_builder.specs.declared.reached.Times.{Times}
use Rattle.trip_builder.specs.Segments.{first_stop, last_stop}
use Rattle.trip_builder.specs.Trips.{longest_wait, leaves, uses_run}
use Rattle.trip_builder.specs.Best.{IsTrip}
use Rattle.trip_builder.specs.Bounds.{RanksView, IsMarkedRun}
use Rattle.trip_builder.specs.Reached.{Hold, HoldTrain, HoldWait, AreStretched, IsRidden, AreReached, StayMarked}
use Rattle.trip_builder.proofs.Ways.{trip_goes_on, both_true}
use Rattle.trip_builder.proofs.Bounding.{trip_leads, left_within, goes_on_there}

-- ---- runs

pub still_ridden : (r : RunsView) (before old new : List Times) (run : ℕ) → AreStretched old new → IsRidden r before old run → IsRidden r before new run
still_ridden r before old new run stretched was j k less inside holds =
    let off = stop_at (stops_of r run) k in
    stretched off.station.0 off.arrive (off.arrive + longest_wait) (was j k less inside holds)

-- a run that isn't known has no stop
pub past_ridden : (r : RunsView) (before after : List Times) (count : ℕ) → count ≡ length r.runs → ((run : ℕ) → run < count → IsRidden r before after run) → (run : ℕ) → IsRidden r before after run
past_ridden r before after count is each run = by_place (cases_lt run count)
  where
    by_place : (run < count) ⊎ (count ≤ run) → IsRidden r before after run
    by_place (inl less) = each run less
    by_place (inr past) = λ j k less inside. absurd (
        let none : length (stops_of r run) ≡ 0 = ap (λ (o : Option RunView). length (option_map_or (λ (it : RunView). it.stops) o [])) (slice_get_past r.runs run (omega (arith, is, past))) in
        omega (arith, none, inside)
        )

-- ---- trains

-- what leaves the station then may be taken
held : (times : List Times) (station from to : ℕ) (stop : Stop) → Hold times station from to → stop.station.0 ≡ station → from ≤ stop.depart → stop.depart ≤ to → HoldTrain times stop
held times station from to stop holds here low high none inside =
    let its = holds none (subst (λ n. n < length times) here inside) in
    let first = its.0 in
    let last = its.1 in
    subst (λ n. ((get_or times n none).from ≤ stop.depart) × (stop.depart ≤ (get_or times n none).to)) (sym here) (omega (arith, first, low), omega (arith, last, high))

-- the first train of a trip
first_held : (r : RunsView) (w : TripWish) (times : List Times) → Hold times w.origin.0 w.earliest w.latest → (s : Segment) (rest : List Segment) → IsTrip r w (s ∷ rest) → HoldTrain times (first_stop r s)
first_held r w times start s rest trip =
    let next = both_true (leaves w.origin w.earliest w.latest (first_stop r s)) (not (uses_run [] s)) (trip_goes_on r w [] s rest trip).next in
    let its = left_within w.origin w.earliest w.latest (first_stop r s) next.0 in
    held times w.origin.0 w.earliest w.latest (first_stop r s) start its.0 its.1.0 its.1.1

-- ---- the trains of trips

-- the last of a list, and what stands before it
record Ended (l : List Segment) : Type 0 where
  front : List Segment
  last : Segment
  is : l ≡ front ++ last ∷ []

ended : (x : Segment) (xs : List Segment) → Ended (x ∷ xs)
ended x [] = record { front = []; last = x; is = refl }
ended x (y ∷ ys) = let more = ended y ys in record { front = x ∷ more.front; last = more.last; is = ap (λ (l : List Segment). x ∷ l) more.is }

pub reached_start : (r : RunsView) (w : TripWish) (times : List Times) → Hold times w.origin.0 w.earliest w.latest → AreReached r w 0 times
reached_start r w times start [] s rest few trip = first_held r w times start s rest trip
reached_start r w times start (x ∷ xs) s rest few trip = absurd (omega (arith, few))

pub reached_further : (r : RunsView) (w : TripWish) (n : ℕ) (before after : List Times) → Hold after w.origin.0 w.earliest w.latest → ((run : ℕ) → IsRidden r before after run) → AreReached r w n before
    → AreReached r w (n + 1) after
reached_further r w n before after start ridden was [] s rest few trip = first_held r w after start s rest trip
reached_further r w n before after start ridden was (x ∷ xs) s rest few trip =
    let its = ended x xs in
    let t = its.last in
    let size : length (x ∷ xs) ≡ length its.front + 1 = ap (λ (l : List Segment). length l) its.is ∙ length-append its.front (t ∷ []) in
    let same : (x ∷ xs) ++ s ∷ rest ≡ its.front ++ t ∷ s ∷ rest = ap (λ (l : List Segment). l ++ s ∷ rest) its.is ∙ append_assoc its.front (t ∷ []) (s ∷ rest) in
    let whole = subst (IsTrip r w) same trip in
    let leads = trip_leads r w its.front t (s ∷ rest) whole in
    let known = leads.known.0 in
    let off = last_stop r t in
    let waits : HoldWait after off = ridden t.run.0 t.span.from t.span.to known.rises known.ends (was its.front t (s ∷ rest) (omega (arith, few, size)) whole) in
    let on = goes_on_there r w off t s rest refl leads in
    let low = on.1.1.0 in
    held after off.station.0 off.arrive (off.arrive + longest_wait) (first_stop r s) waits on.1.0 (omega (arith, low)) on.1.1.1

-- where a trip may take no train, none leads to the destination that could be marked
pub still_marked : (r : RunsView) (w : TripWish) (v : RanksView) (changes run : ℕ) (times : List Times) (old new : List Bool) → AreReached r w (2 - changes) times → StayMarked times old new
    → IsMarkedRun r w v changes run old → IsMarkedRun r w v changes run new
still_marked r w v changes run times old new reached stay was s rest is count leads less =
    let few = leads.trip.few in
    let size : length (leads.before ++ s ∷ rest) ≡ length leads.before + length (s ∷ rest) = length-append leads.before (s ∷ rest) in
    stay (first_stop r s).station.0 (first_stop r s).depart (reached leads.before s rest (omega (arith, few, size, count)) leads.trip) (was s rest is count leads less)

-- Ranks: when what the first two precede arrives, and whether arrivals rise.
use Rattle.std.proofs.Common.{◌≡◌, ◌∙◌, ℕ, ◌+◌, ◌-◌, ◌<◌, ◌≤◌, ◌⊎◌, inl, inr, true, List, [], length, Option, sym, ap, subst, arith, get_or, true≢false}
use Rattle.std.proofs.lemmas.Bool.{cases_lt}
use Rattle.std.proofs.lemmas.Option.{slice_get_past}
use Rattle.std.specs.Option.{option_map_or}
use Rattle.train_runs.specs.declared.segment.Segment.{Segment}
use Rattle.train_runs.specs.declared.run.Stop.{Stop}
use Rattle.train_runs.specs.Stops.{RunView}
use Rattle.train_runs.specs.Runs.{RunsView, stops_of}
use Rattle.train_runs.specs.declared.wish.TripWish.{TripWish}
use Rattle.trip_builder.specs.declared.ranks.FirstTwo.{FirstTwo}
use Rattle.trip_builder.specs.declared.ranks.Arrival.{Arrival}
use Rattle.trip_builder.specs.Search.{has_run}
use Rattle.trip_builder.specs.Bounds.{LeadsTo, end_of, arrival_of, IsBound, RanksView, rank_of, IsPlacedRun, AreRanks, BoundsFresh}
use Rattle.trip_builder.proofs.Bounding.{leading_placed}

-- what isn't before a rank arrives no earlier than the one that stands there
pub ranked_time : (r : RunsView) (w : TripWish) (v : RanksView) → AreRanks r w v → (s : Segment) (rest : List Segment) → LeadsTo r w s rest → (k : ℕ) → k ≤ rank_of v s rest → (none : Arrival)
    → (k < length v.order) × IsBound (get_or v.order k none).arrive (arrival_of r s rest)
ranked_time r w v are s rest leads k low none =
    let it = leading_placed r w v are s rest leads in
    let within = it.within in
    let up = are.ascends k (rank_of v s rest) none low within in
    let time = it.time none in
    let a = time.0 in
    let b = time.1 in
    (omega (arith, low, within), (omega (arith, up, a), omega (arith, up, b)))

-- the first of them
pub first_fresh : (r : RunsView) (w : TripWish) (v : RanksView) (two : FirstTwo) (way : List Segment) (first : Arrival) → first ≡ get_or v.order two.first first → AreRanks r w v → BoundsFresh r w v two way first.arrive
first_fresh r w v two way first is are s rest leads precede apart =
    subst (λ (x : Arrival). IsBound x.arrive (arrival_of r s rest)) (sym is) (ranked_time r w v are s rest leads two.first precede.1.0 first).1

-- where the way has the first
pub second_fresh : (r : RunsView) (w : TripWish) (v : RanksView) (two : FirstTwo) (way : List Segment) (first : Arrival) (bound : ℕ) → first ≡ get_or v.order two.first first → has_run way first.run.0 ≡ true
    → ((none : Arrival) → two.second < length v.order → bound ≡ (get_or v.order two.second none).arrive) → AreRanks r w v → BoundsFresh r w v two way bound
second_fresh r w v two way first bound is has value are s rest leads precede apart = by_rank precede.1.1
  where
    by_rank : (rank_of v s rest ≡ two.first) ⊎ (two.second ≤ rank_of v s rest) → IsBound bound (arrival_of r s rest)
    by_rank (inl same) =
        let it = leading_placed r w v are s rest leads in
        let here : first.run.0 ≡ (end_of s rest).run.0 = ap (λ (x : Arrival). x.run.0) is ∙ (ap (λ n. (get_or v.order n first).run.0) (sym same) ∙ it.run_is first) in
        absurd (true≢false (sym has ∙ (ap (has_run way) here ∙ apart)))
    by_rank (inr low) =
        let at = ranked_time r w v are s rest leads two.second low first in
        subst (λ n. IsBound n (arrival_of r s rest)) (sym (value first at.0)) at.1

-- one arrival more that isn't before the last one
pub ascends_more : (order : List Arrival) (n : ℕ) → 1 ≤ n → n < length order → ((none : Arrival) → (get_or order (n - 1) none).arrive ≤ (get_or order n none).arrive)
    → ((j k : ℕ) (none : Arrival) → j ≤ k → k < n → (get_or order j none).arrive ≤ (get_or order k none).arrive)
    → (j k : ℕ) (none : Arrival) → j ≤ k → k < n + 1 → (get_or order j none).arrive ≤ (get_or order k none).arrive
ascends_more order n some inside rise up j k none low high = by_place (cases_lt k n) (cases_lt j n)
  where
    by_place : (k < n) ⊎ (n ≤ k) → (j < n) ⊎ (n ≤ j) → (get_or order j none).arrive ≤ (get_or order k none).arrive
    by_place (inl less) other = up j k none low less
    by_place (inr past) (inl less) =
        let at : k ≡ n = omega (arith, past, high) in
        let one = up j (n - 1) none (omega (arith, less)) (omega (arith, some)) in
        let two = rise none in
        subst (λ m. (get_or order j none).arrive ≤ (get_or order m none).arrive) (sym at) (omega (arith, one, two))
    by_place (inr past) (inr more) =
        let at : j ≡ k = omega (arith, past, high, low, more) in
        subst (λ m. (get_or order m none).arrive ≤ (get_or order k none).arrive) (sym at) (omega arith)

-- ---- the places of the runs

pub placed_more : (r : RunsView) (w : TripWish) (v : RanksView) (run : ℕ) → ((k : ℕ) → k < run → IsPlacedRun r w v k) → IsPlacedRun r w v run → (k : ℕ) → k < run + 1 → IsPlacedRun r w v k
placed_more r w v run before here k high = by_place (cases_lt k run)
  where
    by_place : (k < run) ⊎ (run ≤ k) → IsPlacedRun r w v k
    by_place (inl less) = before k less
    by_place (inr past) = let at : run ≡ k = omega (arith, past, high) in subst (IsPlacedRun r w v) at here

-- a run that there isn't has no stops
pub past_placed : (r : RunsView) (w : TripWish) (v : RanksView) (count : ℕ) → count ≡ length r.runs → ((run : ℕ) → run < count → IsPlacedRun r w v run) → (run : ℕ) → IsPlacedRun r w v run
past_placed r w v count is placed run = by_place (cases_lt run count)
  where
    by_place : (run < count) ⊎ (count ≤ run) → IsPlacedRun r w v run
    by_place (inl less) = placed run less
    by_place (inr past) = λ stop inside there.
        (let none : stops_of r run ≡ [] = ap (λ (o : Option RunView). option_map_or (λ (it : RunView). it.stops) o []) (slice_get_past r.runs run (omega (arith, is, past))) in
        absurd (let h = subst (λ (l : List Stop). stop < length l) none inside in omega (arith, h)))

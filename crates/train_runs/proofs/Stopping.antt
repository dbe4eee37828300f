-- The least number that passes, and the stop at a station.
use Rattle.std.proofs.Common.{◌≡◌, ℕ, suc, ◌+◌, ◌-◌, ◌<◌, ◌≤◌, Bool, true, false, List, [], ◌∷◌, length, Option, Some, None, refl, sym, ap, arith, nat_lt, true≢false, if◌then◌else◌}
use Rattle.std.proofs.lemmas.Bool.Decides.{nat_tests}
use Rattle.leg_masks.specs.Interval.{Interval, most_legs}
use Rattle.std.specs.Prelude.{IsSome, IfSome, ◌↔◌, slice_get}
use Rattle.rail_ids.specs.declared.RunNo.{RunNo}
use Rattle.train_runs.specs.Stops.{RunView}
use Rattle.train_runs.specs.Runs.{RunsView, span_of}
use Rattle.rail_ids.specs.declared.StationNo.{StationNo}
use Rattle.train_runs.specs.Stops.{most_stops, least_from, stands_at, stop_from, stop_of, legs_between}
use Rattle.train_runs.specs.declared.run.Stop.{Stop}

-- the test of k fails, so the least is among those after it
pub least_step : (passes : ℕ → Bool) (k n : ℕ) → k < n → passes k ≡ false → least_from passes (k + 1) (n - (k + 1)) ≡ least_from passes k (n - k)
least_step passes k n h no_k =
    let e : n - k ≡ suc (n - (k + 1)) = omega arith in
    rw (e, no_k) refl

below_test : (b : Bool) (k rest n : ℕ) (later : Option ℕ) → (if b then Some k else later) ≡ Some n → (later ≡ Some n → n < k + 1 + rest) → n < k + suc rest
below_test true k rest n later e h = let it : k ≡ n = cc in omega arith
below_test false k rest n later e h = let below = h e in omega arith

-- a stop's number is below the number of stops
pub stop_below : (k : ℕ) (station : StationNo) (stops : List Stop) (n : ℕ) → stop_from k station stops ≡ Some n → n < k + length stops
stop_below k station [] n e = absurd cc
stop_below k station (s ∷ rest) n e = below_test (stands_at station s) k (length rest) n (stop_from (k + 1) station rest) e (stop_below (k + 1) station rest n)

-- the span of two stops, where there is one
pub span_is : (from to : ℕ) (answer : Option Interval) → to ≤ most_legs → (IsSome answer ↔ ((from < to) × (to ≤ most_legs))) → IfSome answer (λ s. s ≡ record { from = from; to = to })
    → answer ≡ legs_between (Some from) (Some to)
span_is from to None fits valid value = by_test (nat_lt from to) refl
  where
    by_test : (b : Bool) → nat_lt from to ≡ b → None ≡ legs_between (Some from) (Some to)
    by_test true t = let less : from < to = grind (arith, nat_tests) in absurd (true≢false (sym (valid.1 (less, fits))))
    by_test false t = rw t refl
span_is from to (Some s) fits valid value = let less = (valid.0 refl).0 in let t : nat_lt from to ≡ true = grind (arith, nat_tests) in rw (t, value) refl

pub span_after : (r : RunsView) (run : RunNo) (from to : StationNo) (it : RunView) (stops : List Stop) (first last : ℕ) (answer : Option Interval)
    → slice_get r.runs run.0 ≡ Some it → stops ≡ it.stops → length it.stops ≤ most_stops → stop_of from stops ≡ Some first → stop_of to stops ≡ Some last
    → (IsSome answer ↔ ((first < last) × (last ≤ most_legs))) → IfSome answer (λ s. s ≡ record { from = first; to = last }) → answer ≡ span_of r run from to
span_after r run from to it stops first last answer found same many from_is to_is valid value =
    let below = stop_below 0 to stops last to_is in
    let same_length : length stops ≡ length it.stops = ap length same in
    let fits : last ≤ most_legs = omega arith in
    rw (found, sym same, from_is, to_is) (span_is first last answer fits valid value)

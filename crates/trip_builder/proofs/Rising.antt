-- Each segment of a run that may be served departs no earlier than its train came there, and arrives after it departed.
use Rattle.std.proofs.Common.{◌≡◌, ◌∙◌, ℕ, zero, suc, ◌+◌, ◌-◌, ◌<◌, ◌≤◌, Bool, true, false, List, [], length, Some, None, refl, sym, ap, subst, arith, nat_lt, nat_le, if◌then◌else◌, true≢false, ◌&&◌}
use Rattle.std.specs.Prelude.{slice_get, slice_index_or, ◌||◌, All, Option}
use Rattle.std.specs.Option.{option_map_or}
use Rattle.std.proofs.lemmas.Bool.Decides.{nat_tests}
use Rattle.std.proofs.lemmas.Option.{slice_get_within, get_or_from_slice_get}
use Rattle.train_runs.specs.declared.run.Stop.{Stop}
use Rattle.train_runs.specs.Stops.{RunView, IsRun, stop_at, is_unrisen, least_from, first_unrisen}
use Rattle.train_runs.specs.Runs.{RunsView, stops_of}
use Rattle.trip_builder.specs.Segments.{first_stop, last_stop}
use Rattle.trip_builder.specs.Search.{Rise}

pub none_least : (p : ℕ → Bool) (j n k : ℕ) → least_from p j n ≡ None → j ≤ k → k < j + n → p k ≡ false
none_least p j zero k e lo hi = absurd (omega arith)
none_least p j (suc n) k e lo hi = by_test (p j) refl (λ more at. none_least p (j + 1) n k more at (omega arith))
  where
    by_test : (b : Bool) → p j ≡ b → (least_from p (j + 1) n ≡ None → j + 1 ≤ k → p k ≡ false) → p k ≡ false
    by_test true t more = absurd (let it : Some j ≡ None = sym (ap (λ b. if b then Some j else least_from p (j + 1) n) t) ∙ e in cc)
    by_test false t more = by_place (nat_le (j + 1) k) refl
      where
        by_place : (b : Bool) → nat_le (j + 1) k ≡ b → p k ≡ false
        by_place true l = more (sym (ap (λ b. if b then Some j else least_from p (j + 1) n) t) ∙ e) (grind (arith, nat_tests))
        by_place false l = let same : k ≡ j = grind (arith, nat_tests) in ap p same ∙ t

left_after : (arrive depart : ℕ) (other : Bool) → (nat_lt depart arrive || other) ≡ false → arrive ≤ depart
left_after arrive depart other e = by_test (nat_lt depart arrive) refl e
  where
    by_test : (b : Bool) → nat_lt depart arrive ≡ b → (b || other) ≡ false → arrive ≤ depart
    by_test true t f = absurd (true≢false f)
    by_test false t f = grind (arith, nat_tests)

-- a stop is left no earlier than it is reached
stays : (stops : List Stop) (k : ℕ) → first_unrisen stops ≡ None → k < length stops → (stop_at stops k).arrive ≤ (stop_at stops k).depart
stays stops k e h =
    left_after (stop_at stops k).arrive (stop_at stops k).depart (nat_lt 0 k && nat_le (stop_at stops k).arrive (stop_at stops (k - 1)).depart)
    (none_least (is_unrisen stops) 0 (length stops) k e (omega arith) (omega (arith, h)))

-- a stop is left no earlier than it is reached, and reached after the one before it was left
in_order : (arrive depart before n : ℕ) → 0 < n → (nat_lt depart arrive || (nat_lt 0 n && nat_le arrive before)) ≡ false → (arrive ≤ depart) × (before < arrive)
in_order arrive depart before n some e = by_tests (nat_lt depart arrive) (nat_lt 0 n) (nat_le arrive before) refl refl refl e
  where
    by_tests : (a b d : Bool) → nat_lt depart arrive ≡ a → nat_lt 0 n ≡ b → nat_le arrive before ≡ d → (a || (b && d)) ≡ false → (arrive ≤ depart) × (before < arrive)
    by_tests true b d ta tb td f = absurd (true≢false f)
    by_tests false true true ta tb td f = absurd (true≢false f)
    by_tests false true false ta tb td f = (grind (arith, nat_tests), grind (arith, nat_tests))
    by_tests false false d ta tb td f = absurd (let no : n ≤ 0 = grind (arith, nat_tests) in omega arith)

stop_in_order : (stops : List Stop) (k : ℕ) → first_unrisen stops ≡ None → k + 1 < length stops
    → ((stop_at stops (k + 1)).arrive ≤ (stop_at stops (k + 1)).depart) × ((stop_at stops k).depart < (stop_at stops (k + 1)).arrive)
stop_in_order stops k e h =
    let no = none_least (is_unrisen stops) 0 (length stops) (k + 1) e (omega arith) (omega arith) in
    let back : k + 1 - 1 ≡ k = omega arith in
    in_order (stop_at stops (k + 1)).arrive (stop_at stops (k + 1)).depart (stop_at stops k).depart (k + 1) (omega arith) (ap (λ m. nat_lt (stop_at stops (k + 1)).depart (stop_at stops (k + 1)).arrive || (nat_lt 0 (k + 1) && nat_le (stop_at stops (k + 1)).arrive (stop_at stops m).depart)) (sym back) ∙ no)

arrives_later : (stops : List Stop) (from d : ℕ) → first_unrisen stops ≡ None → from + 1 + d < length stops → (stop_at stops from).depart < (stop_at stops (from + 1 + d)).arrive
arrives_later stops from zero e h =
    let same : from + 1 + 0 ≡ from + 1 = omega arith in
    subst (λ k. (stop_at stops from).depart < (stop_at stops k).arrive) (sym same) (stop_in_order stops from e (omega arith)).1
arrives_later stops from (suc d) e h =
    let near : from + 1 + d < length stops = omega arith in
    let before = arrives_later stops from d e near in
    let here = stop_in_order stops (from + d) e (omega arith) in
    let next = stop_in_order stops (from + 1 + d) e (omega arith) in
    let same : from + d + 1 ≡ from + 1 + d = omega arith in
    let onward : from + 1 + d + 1 ≡ from + 1 + suc d = omega arith in
    let stays : (stop_at stops (from + 1 + d)).arrive ≤ (stop_at stops (from + 1 + d)).depart = subst (λ k. (stop_at stops k).arrive ≤ (stop_at stops k).depart) same here.0 in
    let goes : (stop_at stops (from + 1 + d)).depart < (stop_at stops (from + 1 + suc d)).arrive = subst (λ k. (stop_at stops (from + 1 + d)).depart < (stop_at stops k).arrive) onward next.1 in
    omega arith

pub all_rise : (r : RunsView) → All (IsRun (length r.stations)) r.runs → Rise r
all_rise r each s known = by_run (slice_get r.runs s.run.0) refl
  where
    by_run : (o : Option RunView) → slice_get r.runs s.run.0 ≡ o → ((first_stop r s).arrive ≤ (first_stop r s).depart) × ((first_stop r s).depart < (last_stop r s).arrive)
    by_run None e = absurd (let none : length (stops_of r s.run.0) ≡ 0 = ap (λ (o : Option RunView). length (option_map_or (λ (x : RunView). x.stops) o [])) e in omega (arith, none, known.ends))
    by_run (Some it) e =
        let stops : stops_of r s.run.0 ≡ it.stops = ap (λ (o : Option RunView). option_map_or (λ (x : RunView). x.stops) o []) e in
        let within = slice_get_within r.runs s.run.0 it e in
        let is : slice_index_or r.runs s.run.0 it ≡ it = get_or_from_slice_get r.runs s.run.0 it it e in
        let sound : IsRun (length r.stations) it = subst (IsRun (length r.stations)) is (each s.run.0 it within) in
        let gap = s.span.to - (s.span.from + 1) in
        let to : s.span.from + 1 + gap ≡ s.span.to = let up = known.rises in omega (arith, up) in
        let high : s.span.to < length it.stops = subst (λ (xs : List Stop). s.span.to < length xs) stops known.ends in
        let up = arrives_later it.stops s.span.from gap sound.risen (omega (arith, to, high)) in
        let low : s.span.from < length it.stops = let less = known.rises in omega (arith, less, high) in
        subst (λ (xs : List Stop). ((stop_at xs s.span.from).arrive ≤ (stop_at xs s.span.from).depart) × ((stop_at xs s.span.from).depart < (stop_at xs s.span.to).arrive)) (sym stops)
        (stays it.stops s.span.from sound.risen low, subst (λ k. (stop_at it.stops s.span.from).depart < (stop_at it.stops k).arrive) to up)

-- The lists of departures of all stations, as the stops of a run are posted one after the other.
use Rattle.std.proofs.Common.{◌≡◌, ◌≢◌, ℕ, zero, suc, ◌+◌, ◌-◌, ◌<◌, ◌≤◌, ◌⊎◌, inl, inr, List, [], ◌∷◌, ◌++◌, length, take, get_or, set, cond, refl, sym, ap, ◌∙◌, subst, arith, Option, Some, None, insert, remove, Bool, true, false, nat_lt, nat_le, if◌then◌else◌, ltb, true≢false}
use Rattle.std.proofs.lemmas.Bool.{ltb-true, lt-ltb}
use Rattle.std.specs.Prelude.{slice_get, sum_by, All, option_map}
use Rattle.std.specs.Option.{option_or}
use Rattle.std.specs.List.{AllPairs, Contains}
use Rattle.std.proofs.lemmas.Bool.Decides.{nat_tests}
use Rattle.std.proofs.lemmas.List.{set-set, set-get_or, get_or_append_left, get_or_push, get_or_read, get_or-set_same, get_or-set_other, length-set, length_push}
use Rattle.std.proofs.lemmas.List.Edits.{length-insert}
use Rattle.std.proofs.lemmas.List.Elements.{All-head, All-tail, All-take, All-push, Contains-get_or}
use Rattle.std.proofs.lemmas.List.Sums.{sum_by-cons, sum_by_push, count_by_more_yes, count_by_more_no}
use Rattle.std.proofs.lemmas.Option.{slice_get-get_or, slice_get_within, get_or_from_slice_get}
use Rattle.rail_ids.specs.declared.StationNo.{StationNo}
use Rattle.train_runs.specs.declared.departure.Departure.{Departure}
use Rattle.train_runs.specs.declared.run.Stop.{Stop}
use Rattle.train_runs.specs.Stations.{StationView}
use Rattle.train_runs.specs.declared.run.RunFault.TheVariants.{TooFewStops, TooManyStops, TimesNotRising, TooManyRuns, StationRepeated}
use Rattle.train_runs.specs.Stops.{RunView, IsRun, most_stops, stop_at, no_stop, stands_at, first_unrisen, first_repeated}
use Rattle.train_runs.specs.Runs.{RunsView, AreSound, run_fault, most_runs}
use Rattle.train_runs.specs.Departures.{AreExactly, IsDeparture, IsBefore, AreDepartures, times_left, departure_count}
use Rattle.train_runs.specs.Boards.{IsBoard, HasBoards, IsPosted, IsPartBoard, ArePosted, IsWindow}
use Rattle.train_runs.proofs.Departing.{members_insert, less_or_equal, window_exact}

-- the departure of the last run at its n-th stop
abbrev pub posting : List RunView → RunView → ℕ → Departure
posting runs last n = record { moment = (stop_at last.stops n).depart; run = record { 0 = length runs }; stop = n }

at_last : (runs : List RunView) (last : RunView) → slice_get (runs ++ last ∷ []) (length runs) ≡ Some last
at_last runs last =
    let size = length_push runs last in
    slice_get-get_or (runs ++ last ∷ []) (length runs) last (omega (arith, size)) ∙ ap (λ (r : RunView). Some r) (get_or_push runs last last (length runs) refl)

at_earlier : (runs : List RunView) (last : RunView) (k : ℕ) → k < length runs → slice_get (runs ++ last ∷ []) k ≡ slice_get runs k
at_earlier runs last k small =
    let size = length_push runs last in
    slice_get-get_or (runs ++ last ∷ []) k last (omega (arith, size, small)) ∙ ap (λ (r : RunView). Some r) (get_or_append_left runs (last ∷ []) last k small)
    ∙ sym (slice_get-get_or runs k last small)

abbrev run_of : RunView → Option RunView → RunView
run_of other None = other
run_of other (Some r) = r

-- a departure of the last run is at a stop of it
of_last : (runs : List RunView) (last : RunView) (s : StationNo) (x : Departure) → (dep : IsDeparture (runs ++ last ∷ []) s x) → x.run.0 ≡ length runs → last ≡ dep.run
of_last runs last s x dep same = ap (run_of last) (sym (at_last runs last) ∙ ap (slice_get (runs ++ last ∷ [])) (sym same) ∙ dep.found)

same_departure : (d e : Departure) → d.moment ≡ e.moment → d.run.0 ≡ e.run.0 → d.stop ≡ e.stop → d ≡ e
same_departure d e a b c = ap (λ (m : ℕ). make m d.run.0 d.stop) a ∙ ap (λ (r : ℕ). make e.moment r d.stop) b ∙ ap (λ (s : ℕ). make e.moment e.run.0 s) c
  where
    make : ℕ → ℕ → ℕ → Departure
    make m r s = record { moment = m; run = record { 0 = r }; stop = s }

posted_more : (run n : ℕ) (d : Departure) → IsPosted run n d → IsPosted run (n + 1) d
posted_more run n d (inl less) = inl less
posted_more run n d (inr h) = inr (h.0, omega (arith, h.1))

-- what is posted at the n-th stop too
posted_cases : (run n : ℕ) (d : Departure) → IsPosted run (n + 1) d → IsPosted run n d ⊎ ((d.run.0 ≡ run) × (d.stop ≡ n))
posted_cases run n d (inl less) = inl (inl less)
posted_cases run n d (inr h) = one (less_or_equal d.stop n (omega (arith, h.1)))
  where
    one : (d.stop < n) ⊎ (d.stop ≡ n) → IsPosted run n d ⊎ ((d.run.0 ≡ run) × (d.stop ≡ n))
    one (inl less) = inl (inr (h.0, less))
    one (inr e) = inr (h.0, e)

pub posts_here : (runs : List RunView) (last : RunView) (n p : ℕ) (s : StationNo) (ds : List Departure) → n + 1 < length last.stops → (stop_at last.stops n).station ≡ s → p ≤ length ds
    → AllPairs IsBefore (insert ds p (posting runs last n)) → IsPartBoard runs last n s ds → IsPartBoard runs last (n + 1) s (insert ds p (posting runs last n))
posts_here runs last n p s ds small here fits ordered h = record {
  exact = record { in_order = ordered; members = λ x. (forth x, λ d. back x d.0 (posted_cases (length runs) n x d.1)) };
  count = let e : (stop_at last.stops n).station.0 ≡ s.0 = ap (λ (q : StationNo). q.0) here in
      let t : stands_at s (stop_at last.stops n) ≡ true = grind (arith, nat_tests) in
      let more = count_by_more_yes (stands_at s) last.stops n no_stop (omega (arith, small)) t in
      let size = length-insert ds p (posting runs last n) fits in
      let was = h.count in omega (arith, more, size, was);
}
  where
    own : IsDeparture (runs ++ last ∷ []) s (posting runs last n)
    own = record { run = last; found = at_last runs last; goes_on = small; here = here; leaves = refl }

    of_cases : (x : Departure) → Contains ds x ⊎ (posting runs last n ≡ x) → IsDeparture (runs ++ last ∷ []) s x × IsPosted (length runs) (n + 1) x
    of_cases x (inl c) = let m = (h.exact.members x).0 c in (m.0, posted_more (length runs) n x m.1)
    of_cases x (inr e) = subst (λ (d : Departure). IsDeparture (runs ++ last ∷ []) s d × IsPosted (length runs) (n + 1) d) e (own, inr (refl, omega arith))

    forth : (x : Departure) → Contains (insert ds p (posting runs last n)) x → IsDeparture (runs ++ last ∷ []) s x × IsPosted (length runs) (n + 1) x
    forth x c = of_cases x ((members_insert ds p (posting runs last n) x).0 c)

    back : (x : Departure) → IsDeparture (runs ++ last ∷ []) s x → IsPosted (length runs) n x ⊎ ((x.run.0 ≡ length runs) × (x.stop ≡ n)) → Contains (insert ds p (posting runs last n)) x
    back x dep (inl old) = (members_insert ds p (posting runs last n) x).1 (inl ((h.exact.members x).1 (dep, old)))
    back x dep (inr at) =
        let run_is = of_last runs last s x dep at.0 in
        let leaves : (stop_at last.stops n).depart ≡ x.moment = ap (λ (r : RunView). (stop_at r.stops n).depart) run_is ∙ ap (λ (k : ℕ). (stop_at dep.run.stops k).depart) (sym at.1) ∙ dep.leaves in
        (members_insert ds p (posting runs last n) x).1 (inr (same_departure (posting runs last n) x leaves (sym at.0) (sym at.1)))

pub posts_elsewhere : (runs : List RunView) (last : RunView) (n : ℕ) (s : StationNo) (ds : List Departure) → n + 1 < length last.stops → ((stop_at last.stops n).station.0 ≡ s.0 → ⊥) → IsPartBoard runs last n s ds → IsPartBoard runs last (n + 1) s ds
posts_elsewhere runs last n s ds small other h = record {
  exact = record {
    in_order = h.exact.in_order;
    members = λ x. ((λ c. let m = (h.exact.members x).0 c in (m.0, posted_more (length runs) n x m.1)), λ d. back x d.0 (posted_cases (length runs) n x d.1));
  };
  count = let t : stands_at s (stop_at last.stops n) ≡ false = grind (arith, nat_tests, other) in
      let more = count_by_more_no (stands_at s) last.stops n no_stop (omega (arith, small)) t in
      let was = h.count in omega (arith, more, was);
}
  where
    back : (x : Departure) → IsDeparture (runs ++ last ∷ []) s x → IsPosted (length runs) n x ⊎ ((x.run.0 ≡ length runs) × (x.stop ≡ n)) → Contains ds x
    back x dep (inl old) = (h.exact.members x).1 (dep, old)
    back x dep (inr at) =
        let run_is = of_last runs last s x dep at.0 in
        absurd (other (ap (λ (r : RunView). (stop_at r.stops n).station.0) run_is ∙ ap (λ (k : ℕ). (stop_at dep.run.stops k).station.0) (sym at.1) ∙ ap (λ (q : StationNo). q.0) dep.here))

-- before the run's first stop
pub none_posted : (runs : List RunView) (last : RunView) (s : StationNo) (ds : List Departure) → IsBoard runs s ds → IsPartBoard runs last 0 s ds
none_posted runs last s ds h = record {
  exact = record { in_order = h.exact.in_order; members = λ x. ((λ c. forth x ((h.exact.members x).0 c)), λ d. (h.exact.members x).1 (back x d.0 d.1)) };
  count = let was = h.count in omega (arith, was);
}
  where
    forth : (x : Departure) → IsDeparture runs s x → IsDeparture (runs ++ last ∷ []) s x × IsPosted (length runs) 0 x
    forth x dep = let small = slice_get_within runs x.run.0 dep.run dep.found in
        (record { run = dep.run; found = at_earlier runs last x.run.0 small ∙ dep.found; goes_on = dep.goes_on; here = dep.here; leaves = dep.leaves }, inl small)

    back : (x : Departure) → IsDeparture (runs ++ last ∷ []) s x → IsPosted (length runs) 0 x → IsDeparture runs s x
    back x dep (inl small) = record { run = dep.run; found = sym (at_earlier runs last x.run.0 small) ∙ dep.found; goes_on = dep.goes_on; here = dep.here; leaves = dep.leaves }
    back x dep (inr h) = absurd (omega (arith, h.1))

-- after its last
pub all_posted : (runs : List RunView) (last : RunView) (s : StationNo) (ds : List Departure) → IsPartBoard runs last (length last.stops - 1) s ds → IsBoard (runs ++ last ∷ []) s ds
all_posted runs last s ds h = record {
  exact = record { in_order = h.exact.in_order; members = λ x. ((λ c. ((h.exact.members x).0 c).0), λ dep. (h.exact.members x).1 (dep, posted x dep)) };
  count = h.count ∙ sym (sum_by_push (times_left s) runs last);
}
  where
    posted : (x : Departure) → IsDeparture (runs ++ last ∷ []) s x → IsPosted (length runs) (length last.stops - 1) x
    posted x dep = one (less_or_equal x.run.0 (length runs) (let small = slice_get_within (runs ++ last ∷ []) x.run.0 dep.run dep.found in let size = length_push runs last in omega (arith, small, size)))
      where
        one : (x.run.0 < length runs) ⊎ (x.run.0 ≡ length runs) → IsPosted (length runs) (length last.stops - 1) x
        one (inl less) = inl less
        one (inr e) = let size : length last.stops ≡ length dep.run.stops = ap (λ (r : RunView). length r.stops) (of_last runs last s x dep e) in inr (e, omega (arith, size, dep.goes_on))

-- what stands there comes before the departure that is posted next
pub comes_behind : (runs : List RunView) (last : RunView) (n : ℕ) (s : StationNo) (ds : List Departure) → IsPartBoard runs last n s ds → All (λ d. d.moment ≡ (posting runs last n).moment → IsBefore d (posting runs last n)) ds
comes_behind runs last n s ds h k d small e = one (get_or ds k d) e ((h.exact.members (get_or ds k d)).0 (Contains-get_or ds k d small)).1
  where
    one : (x : Departure) → x.moment ≡ (posting runs last n).moment → IsPosted (length runs) n x → IsBefore x (posting runs last n)
    one x e (inl less) = inr (e, inl less)
    one x e (inr h) = inr (e, inr h)

pub start_boards : (r : RunsView) (last : RunView) (boards : List (List Departure)) → HasBoards r boards → ArePosted r.runs last 0 boards
start_boards r last boards h k none small = none_posted r.runs last (record { 0 = k }) (get_or boards k none) (h.each k none small)

pub end_boards : (stations : List StationView) (runs : List RunView) (last : RunView) (boards : List (List Departure)) → length boards ≡ length stations → ArePosted runs last (length last.stops - 1) boards
    → HasBoards (record { stations = stations; runs = runs ++ last ∷ [] }) boards
end_boards stations runs last boards size h = record { count = size; each = λ k none small. all_posted runs last (record { 0 = k }) (get_or boards k none) (h k none small) }

eq_or_not : (a b : ℕ) → (a ≡ b) ⊎ (a ≢ b)
eq_or_not zero zero = inl refl
eq_or_not zero (suc b) = inr (λ e. omega (arith, e))
eq_or_not (suc a) zero = inr (λ e. omega (arith, e))
eq_or_not (suc a) (suc b) = step (eq_or_not a b)
  where
    step : (a ≡ b) ⊎ (a ≢ b) → (suc a ≡ suc b) ⊎ (suc a ≢ suc b)
    step (inl e) = inl (ap suc e)
    step (inr h) = inr (λ e. h (omega (arith, e)))

abbrev the_station : ℕ → StationNo
the_station m = record { 0 = m }

-- the departure at the n-th stop is posted at its station
pub step_boards : (runs : List RunView) (last : RunView) (n p : ℕ) (boards : List (List Departure)) (s : ℕ) (d ds : List Departure) → n + 1 < length last.stops → (stop_at last.stops n).station.0 ≡ s → s < length boards
    → p ≤ length (get_or boards s d) → ds ≡ insert (get_or boards s d) p (posting runs last n) → AllPairs IsBefore ds → ArePosted runs last n boards → ArePosted runs last (n + 1) (set boards s ds)
step_boards runs last n p boards s d ds small here known fits is ordered h k none below = one (eq_or_not k s)
  where
    size : length (set boards s ds) ≡ length boards
    size = length-set boards s ds

    one : (k ≡ s) ⊎ (k ≢ s) → IsPartBoard runs last (n + 1) (record { 0 = k }) (get_or (set boards s ds) k none)
    one (inl e) =
        let at : get_or (set boards s ds) k none ≡ insert (get_or boards s d) p (posting runs last n) = ap (λ (m : ℕ). get_or (set boards s ds) m none) e ∙ get_or-set_same boards s ds none known ∙ is in
        let station : (stop_at last.stops n).station ≡ record { 0 = k } = ap (λ (m : ℕ). the_station m) (here ∙ sym e) in
        let part = subst (λ (m : ℕ). IsPartBoard runs last n (record { 0 = m }) (get_or boards s d)) (sym e) (h s d known) in
        subst (λ (l : List Departure). IsPartBoard runs last (n + 1) (record { 0 = k }) l) (sym at)
        (posts_here runs last n p (record { 0 = k }) (get_or boards s d) small station fits (subst (λ (l : List Departure). AllPairs IsBefore l) is ordered) part)
    one (inr other) =
        subst (λ (l : List Departure). IsPartBoard runs last (n + 1) (record { 0 = k }) l) (sym (get_or-set_other boards s k ds none other))
        (posts_elsewhere runs last n (record { 0 = k }) (get_or boards k none) small (λ e. other (sym e ∙ here)) (h k none (omega (arith, below, size))))

-- a station that isn't known has no departure
pub departs_from_known : (r : RunsView) (s : StationNo) (x : Departure) → All (IsRun (length r.stations)) r.runs → IsDeparture r.runs s x → s.0 < length r.stations
departs_from_known r s x each dep =
    let within = slice_get_within r.runs x.run.0 dep.run dep.found in
    let fine = subst (λ (run : RunView). IsRun (length r.stations) run) (get_or_from_slice_get r.runs x.run.0 dep.run dep.run dep.found) (each x.run.0 dep.run within) in
    let below = fine.known x.stop no_stop (omega (arith, dep.goes_on)) in
    let same : (stop_at dep.run.stops x.stop).station.0 ≡ s.0 = ap (λ (q : StationNo). q.0) dep.here in omega (arith, below, same)

pub sum_none : {X : Type 0} (f : X → ℕ) (xs : List X) → All (λ x. f x ≡ 0) xs → sum_by f xs ≡ 0
sum_none f [] h = refl
sum_none f (x ∷ xs) h = let rest = sum_none f xs (All-tail (λ x. f x ≡ 0) x xs h) in let first = All-head (λ x. f x ≡ 0) x xs h in let whole = sum_by-cons f x xs in omega (arith, rest, first, whole)

abbrev once : StationNo → Stop → ℕ
once s t = cond (stands_at s t) 1 0

never_left : (n : ℕ) (s : StationNo) (run : RunView) → n ≤ s.0 → IsRun n run → times_left s run ≡ 0
never_left n s run le fine = sum_none (once s) (take (length run.stops - 1) run.stops)
    (All-take (λ (t : Stop). once s t ≡ 0) (length run.stops - 1) run.stops (λ k d small. one (get_or run.stops k d) (fine.known k d small)))
  where
    one : (t : Stop) → t.station.0 < n → once s t ≡ 0
    one t below = let off : stands_at s t ≡ false = grind (arith, nat_tests) in rw off refl

no_board : (r : RunsView) (s : StationNo) → AreSound r → length r.stations ≤ s.0 → IsBoard r.runs s []
no_board r s sound le = record {
  exact = record {
    in_order = λ i j d l small. absurd (omega (arith, small));
    members = λ x. ((λ c. absurd (omega (arith, c.1))), λ dep. absurd (let known = departs_from_known r s x sound.each dep in omega (arith, known, le)));
  };
  count = sym (sum_none (times_left s) r.runs (λ k d small. never_left (length r.stations) s (get_or r.runs k d) le (sound.each k d small)));
}

-- a further station has an empty list
pub boards_grow : (r : RunsView) (last : StationView) (boards : List (List Departure)) → AreSound r → HasBoards r boards → HasBoards (record { stations = r.stations ++ last ∷ []; runs = r.runs }) (boards ++ [] ∷ [])
boards_grow r last boards sound h = record {
  count = let a = length_push boards [] in let b = length_push r.stations last in let c = h.count in omega (arith, a, b, c);
  each = λ k none small. one k none (less_or_equal k (length boards) (let a = length_push boards [] in omega (arith, a, small)));
}
  where
    one : (k : ℕ) (none : List Departure) → (k < length boards) ⊎ (k ≡ length boards) → IsBoard r.runs (record { 0 = k }) (get_or (boards ++ [] ∷ []) k none)
    one k none (inl less) = subst (λ (l : List Departure). IsBoard r.runs (record { 0 = k }) l) (sym (get_or_append_left boards ([] ∷ []) none k less)) (h.each k none less)
    one k none (inr e) = subst (λ (l : List Departure). IsBoard r.runs (record { 0 = k }) l) (sym (get_or_push boards [] none k (sym e))) (no_board r (record { 0 = k }) sound (let c = h.count in omega (arith, c, e)))

-- the departure at a stop of the next run
abbrev pub leaving : List RunView → ℕ → Stop → Departure
leaving runs n stop = record { moment = stop.depart; run = record { 0 = length runs }; stop = n }

pub read_stop : (seen : List Stop) (last : RunView) (n : ℕ) (stop : Stop) → seen ≡ last.stops → n < length seen → stop ≡ get_or seen n stop → stop ≡ stop_at last.stops n
read_stop seen last n stop same small is = get_or_read seen n stop small is no_stop ∙ ap (λ (l : List Stop). get_or l n no_stop) same

pub behind_stop : (runs : List RunView) (last : RunView) (n : ℕ) (s : StationNo) (ds : List Departure) (stop : Stop) → stop ≡ stop_at last.stops n → IsPartBoard runs last n s ds
    → All (λ d. d.moment ≡ stop.depart → IsBefore d (leaving runs n stop)) ds
behind_stop runs last n s ds stop is h = subst (λ (t : Stop). All (λ d. d.moment ≡ t.depart → IsBefore d (leaving runs n t)) ds) (sym is) (comes_behind runs last n s ds h)

pub step_stop : (runs : List RunView) (last : RunView) (n p : ℕ) (boards : List (List Departure)) (stop : Stop) (d ds : List Departure) → stop ≡ stop_at last.stops n → n + 1 < length last.stops → stop.station.0 < length boards
    → p ≤ length (get_or boards stop.station.0 d) → ds ≡ insert (get_or boards stop.station.0 d) p (leaving runs n stop) → AllPairs IsBefore ds → ArePosted runs last n boards → ArePosted runs last (n + 1) (set boards stop.station.0 ds)
step_stop runs last n p boards stop d ds is small known fits put ordered h =
    step_boards runs last n p boards stop.station.0 d ds small (ap (λ (t : Stop). t.station.0) (sym is)) known fits
    (put ∙ ap (λ (t : Stop). insert (get_or boards stop.station.0 d) p (leaving runs n t)) is) ordered h

faultless : (a b c : Bool) (u r : Option ℕ)
    → (if a then Some TooFewStops else (if b then Some TooManyStops else option_or (option_map TimesNotRising u) (if c then Some TooManyRuns else option_map StationRepeated r))) ≡ None
    → (a ≡ false) × (b ≡ false) × (u ≡ None) × (c ≡ false) × (r ≡ None)
faultless true b c u r e = absurd cc
faultless false true c u r e = absurd cc
faultless false false c (Some n) r e = absurd cc
faultless false false true None r e = absurd cc
faultless false false false None (Some n) e = absurd cc
faultless false false false None None e = (refl, refl, refl, refl, refl)

pub is_sound_run : (stations : ℕ) (runs : List RunView) (run : RunView) → run_fault runs run ≡ None → All (λ s. s.station.0 < stations) run.stops → IsRun stations run × (length runs < most_runs)
is_sound_run stations runs run e known =
    let parts = faultless (nat_lt (length run.stops) 2) (nat_lt most_stops (length run.stops)) (nat_le most_runs (length runs)) (first_unrisen run.stops) (first_repeated run.stops) e in
    let a : nat_lt (length run.stops) 2 ≡ false = parts.0 in let b : nat_lt most_stops (length run.stops) ≡ false = parts.1 in let c : nat_le most_runs (length runs) ≡ false = parts.3 in
    (record { few = grind (arith, nat_tests); many = grind (arith, nat_tests); risen = parts.2; apart = parts.4; known = known }, grind (arith, nat_tests))

-- the stations and runs stay sound with a further run
pub sound_with : (r : RunsView) (run : RunView) → AreSound r → run_fault r.runs run ≡ None → All (λ s. s.station.0 < length r.stations) run.stops → AreSound (record { stations = r.stations; runs = r.runs ++ run ∷ [] })
sound_with r run sound e known =
    let fine = is_sound_run (length r.stations) r.runs run e known in
    let n = length_push r.runs run in
    record {
      stations = sound.stations;
      runs = omega (arith, n, fine.1);
      codes = sound.codes;
      each = All-push (IsRun (length r.stations)) r.runs run sound.each fine.0;
    }

-- the lists with the run's departures are those of the runs with it
pub boards_with : (r : RunsView) (run : RunView) (boards new : List (List Departure)) → HasBoards r boards → length new ≡ length boards → ArePosted r.runs run (length run.stops - 1) new → HasBoards (record { stations = r.stations; runs = r.runs ++ run ∷ [] }) new
boards_with r run boards new h size posted = end_boards r.stations r.runs run new (size ∙ h.count) posted

-- the departures of a station are its list
pub whole_board : (r : RunsView) (boards seen : List (List Departure)) (s : StationNo) (board : List Departure) → HasBoards r boards → seen ≡ boards → true ≡ ltb s.0 (length seen) → board ≡ get_or seen s.0 board
    → AreExactly (IsDeparture r.runs s) board
whole_board r boards seen s board h same small is =
    let size : length seen ≡ length boards = ap length same in
    let inside = ltb-true s.0 (length seen) (sym small) in
    let at : board ≡ get_or boards s.0 board = is ∙ ap (λ (l : List (List Departure)). get_or l s.0 board) same in
    let it = subst (λ (l : List Departure). IsBoard r.runs s l) (sym at) (h.each s.0 board (omega (arith, inside, size))) in
    it.exact

-- those within a window
pub looked_up : (r : RunsView) (boards seen : List (List Departure)) (s : StationNo) (board ds : List Departure) (from to : ℕ) → HasBoards r boards → seen ≡ boards → true ≡ ltb s.0 (length seen) → board ≡ get_or seen s.0 board
    → IsWindow from to board ds → AreDepartures r.runs s from to ds
looked_up r boards seen s board ds from to h same small is window =
    window_exact (IsDeparture r.runs s) from to board ds (whole_board r boards seen s board h same small is) window

-- how many there are in the list
pub counted : (r : RunsView) (boards seen : List (List Departure)) (s : StationNo) (board : List Departure) → HasBoards r boards → seen ≡ boards → true ≡ ltb s.0 (length seen) → board ≡ get_or seen s.0 board → length board ≡ departure_count s r.runs
counted r boards seen s board h same small is =
    let size : length seen ≡ length boards = ap length same in
    let inside = ltb-true s.0 (length seen) (sym small) in
    let at : board ≡ get_or boards s.0 board = is ∙ ap (λ (l : List (List Departure)). get_or l s.0 board) same in
    ap length at ∙ (h.each s.0 board (omega (arith, inside, size))).count

-- no train leaves a station that isn't known
unknown_left : (r : RunsView) (boards seen : List (List Departure)) (s : StationNo) (d : Departure) → AreSound r → HasBoards r boards → seen ≡ boards → false ≡ ltb s.0 (length seen) → IsDeparture r.runs s d → ⊥
unknown_left r boards seen s d sound h same past is =
    let known = departs_from_known r s d sound.each is in
    let size : length seen ≡ length boards = ap length same in
    let stations = h.count in
    true≢false (sym (lt-ltb s.0 (length seen) (omega (arith, known, size, stations))) ∙ sym past)

pub none_there : (r : RunsView) (boards seen : List (List Departure)) (s : StationNo) (from to : ℕ) → AreSound r → HasBoards r boards → seen ≡ boards → false ≡ ltb s.0 (length seen) → AreDepartures r.runs s from to []
none_there r boards seen s from to sound h same past = record {
  in_order = λ i j d l small. absurd (omega (arith, small));
  members = λ x. (λ c. absurd (omega (arith, c.1)), λ dep. absurd (unknown_left r boards seen s x sound h same past dep.0));
}

pub none_at_all : (r : RunsView) (boards seen : List (List Departure)) (s : StationNo) → AreSound r → HasBoards r boards → seen ≡ boards → false ≡ ltb s.0 (length seen) → AreExactly (IsDeparture r.runs s) []
none_at_all r boards seen s sound h same past = record {
  in_order = λ i j d l small. absurd (omega (arith, small));
  members = λ x. (λ c. absurd (omega (arith, c.1)), λ dep. absurd (unknown_left r boards seen s x sound h same past dep));
}

-- a list of the departures of a station that isn't known is empty
pub none_known : (stations : List StationView) (runs : List RunView) (s : StationNo) (from to : ℕ) (ds : List Departure) → All (IsRun (length stations)) runs → length stations ≤ s.0 → AreDepartures runs s from to ds → ds ≡ []
none_known stations runs s from to [] each past h = refl
none_known stations runs s from to (d ∷ ds) each past h =
    let known = departs_from_known (record { stations = stations; runs = runs }) s d each ((h.members d).0 (0, omega arith, refl)).0 in
    absurd (omega (arith, known, past))

-- a departure that was put in and taken out again
pub put_back : (boards later : List (List Departure)) (s p : ℕ) (y : Departure) (d new at gone : List Departure) → later ≡ set boards s new → s < length boards → p ≤ length (get_or boards s d) → new ≡ insert (get_or boards s d) p y
    → gone ≡ remove (get_or later s at) p → set later s gone ≡ boards
put_back boards later s p y d new at gone kept small fits put took =
    let here : get_or later s at ≡ new = ap (λ (l : List (List Departure)). get_or l s at) kept ∙ get_or-set_same boards s new at small in
    let same : gone ≡ get_or boards s d = took ∙ ap (λ (l : List Departure). remove l p) (here ∙ put) ∙ taken_out (get_or boards s d) p y fits in
    ap (λ (l : List (List Departure)). set l s gone) kept ∙ set-set boards s new gone ∙ ap (set boards s) same ∙ set-get_or boards s d
  where
    taken_out : (ds : List Departure) (p : ℕ) (y : Departure) → p ≤ length ds → remove (insert ds p y) p ≡ ds
    taken_out ds zero y h = refl
    taken_out [] (suc p) y h = absurd (omega (arith, h))
    taken_out (x ∷ ds) (suc p) y h = ap (λ (l : List Departure). x ∷ l) (taken_out ds p y (omega (arith, h)))

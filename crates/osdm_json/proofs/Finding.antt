-- Stations, segments and runs that were found.
use Rattle.std.proofs.Common.{◌≡◌, ℕ, ◌+◌, ◌-◌, ◌<◌, ◌≤◌, Bool, true, false, List, [], ◌∷◌, length, decimal, Option, Some, None, refl, sym, ap, ◌∙◌, arith, nat_lt, true≢false, if◌then◌else◌}
use Rattle.std.specs.Prelude.{slice_get, option_and_then}
use Rattle.std.specs.Str.{bytes_eq}
use Rattle.std.proofs.lemmas.Bool.Decides.{nat_tests}
use Rattle.std.proofs.lemmas.Slice.Eq.{bytes_eq-Decides}
use Rattle.leg_masks.specs.Interval.{Interval}
use Rattle.rail_ids.specs.declared.StationNo.{StationNo}
use Rattle.rail_ids.specs.declared.RunNo.{RunNo}
use Rattle.train_runs.specs.Stations.{StationView, number_from}
use Rattle.train_runs.specs.Stops.{RunView, stop_of, legs_between, legs_of}
use Rattle.train_runs.specs.Runs.{RunsView, span_of}
use Rattle.train_runs.proofs.Stopping.{stop_below}
use Rattle.osdm_json.specs.OrderBodies.{run_from}

equal : (a b : List ℕ) (t : Bool) → bytes_eq a b ≡ t → t ≡ true → a ≡ b
equal a b true e h = (bytes_eq-Decides a b).0 e
equal a b false e h = absurd cc

lower_test : (b : Bool) (k : ℕ) (m : StationNo) (later : Option StationNo) → (if b then Some (record { 0 = k }) else later) ≡ Some m → (later ≡ Some m → k + 1 ≤ m.0) → k ≤ m.0
lower_test true k m later e h = let it : k ≡ m.0 = cc in omega arith
lower_test false k m later e h = let more = h e in omega arith

-- numbers go up from the first
lower : (k : ℕ) (code : List ℕ) (ss : List StationView) (m : StationNo) → number_from k code ss ≡ Some m → k ≤ m.0
lower k code [] m e = absurd cc
lower k code (s ∷ ss) m e = lower_test (bytes_eq s.code code) k m (number_from (k + 1) code ss) e (lower (k + 1) code ss m)

by_tests : (s a b : List ℕ) (p q : Bool) (k : ℕ) (n m : StationNo) (left right : Option StationNo) → bytes_eq s a ≡ p → bytes_eq s b ≡ q
    → (if p then Some (record { 0 = k }) else left) ≡ Some n → (if q then Some (record { 0 = k }) else right) ≡ Some m → n.0 ≡ m.0
    → (left ≡ Some n → k + 1 ≤ n.0) → (right ≡ Some m → k + 1 ≤ m.0) → (left ≡ Some n → right ≡ Some m → a ≡ b) → a ≡ b
by_tests s a b true true k n m left right p q e f same low high rest = sym (equal s a true p refl) ∙ equal s b true q refl
by_tests s a b true false k n m left right p q e f same low high rest = let it : k ≡ n.0 = cc in let more = high f in absurd (omega arith)
by_tests s a b false true k n m left right p q e f same low high rest = let it : k ≡ m.0 = cc in let more = low e in absurd (omega arith)
by_tests s a b false false k n m left right p q e f same low high rest = rest e f

-- no two codes find one station
pub same_code : (k : ℕ) (a b : List ℕ) (ss : List StationView) (n m : StationNo) → number_from k a ss ≡ Some n → number_from k b ss ≡ Some m → n.0 ≡ m.0 → a ≡ b
same_code k a b [] n m e f same = absurd cc
same_code k a b (s ∷ ss) n m e f same =
    by_tests s.code a b (bytes_eq s.code a) (bytes_eq s.code b) k n m (number_from (k + 1) a ss) (number_from (k + 1) b ss) refl refl e f same
    (lower (k + 1) a ss n) (lower (k + 1) b ss m) (λ g h. same_code (k + 1) a b ss n m g h same)

-- the run of a span that was found, with the span within its legs
pub record IsSpanWithin (r : RunsView) (run : RunNo) (span : Interval) : Type 0 where
  pub run_view : RunView
  pub found : slice_get r.runs run.0 ≡ Some run_view
  pub some : span.from < span.to
  pub legs : span.to ≤ legs_of run_view

by_length : (f l : ℕ) (t : Bool) (span : Interval) (n : ℕ) → nat_lt f l ≡ t → (if t then Some (record { from = f; to = l }) else None) ≡ Some span → l < n → (span.from < span.to) × (span.to ≤ n - 1)
by_length f l true span n h e small =
    let from : f ≡ span.from = cc in
    let to : l ≡ span.to = cc in
    let less : f < l = grind (arith, nat_tests) in
    (omega arith, omega arith)
by_length f l false span n h e small = absurd cc

by_stops : (it : RunView) (from to : StationNo) (f l : Option ℕ) (span : Interval) → stop_of from it.stops ≡ f → stop_of to it.stops ≡ l → legs_between f l ≡ Some span
    → (span.from < span.to) × (span.to ≤ legs_of it)
by_stops it from to None l span p q e = absurd cc
by_stops it from to (Some f) None span p q e = absurd cc
by_stops it from to (Some f) (Some l) span p q e = by_length f l (nat_lt f l) span (length it.stops) refl e (let below = stop_below 0 to it.stops l q in omega arith)

by_run : (r : RunsView) (run : RunNo) (from to : StationNo) (o : Option RunView) (span : Interval) → slice_get r.runs run.0 ≡ o
    → option_and_then (λ (it : RunView). legs_between (stop_of from it.stops) (stop_of to it.stops)) o ≡ Some span → IsSpanWithin r run span
by_run r run from to None span is e = absurd cc
by_run r run from to (Some it) span is e =
    let bounds = by_stops it from to (stop_of from it.stops) (stop_of to it.stops) span refl refl e in
    record { run_view = it; found = is; some = bounds.0; legs = bounds.1 }

pub span_within : (r : RunsView) (run : RunNo) (from to : StationNo) (span : Interval) → span_of r run from to ≡ Some span → IsSpanWithin r run span
span_within r run from to span e = by_run r run from to (slice_get r.runs run.0) span refl e

differ : (a b : List ℕ) (t : Bool) → bytes_eq a b ≡ t → (a ≡ b → ⊥) → t ≡ false
differ a b true e apart = absurd (apart ((bytes_eq-Decides a b).0 e))
differ a b false e apart = refl

-- no run has a text as its number that is no number of one
pub run_from-none : (n : ℕ) (text : List ℕ) (runs : List RunView) → ((m : ℕ) → n ≤ m → m < n + length runs → text ≡ decimal m → ⊥) → run_from n text runs ≡ None
run_from-none n text [] fails = refl
run_from-none n text (r ∷ runs) fails =
    let here : bytes_eq (decimal n) text ≡ false = differ (decimal n) text _ refl (λ e. fails n (omega arith) (omega arith) (sym e)) in
    rw here (run_from-none (n + 1) text runs (λ m low high is. fails m (omega arith) (omega arith) is))

by_number : (n m : ℕ) (text : List ℕ) (t : Bool) (later : Option RunNo) → bytes_eq (decimal n) text ≡ t → (text ≡ decimal n → n ≡ m) → ((n ≡ m → ⊥) → later ≡ Some (record { 0 = m })) → (text ≡ decimal m)
    → (if t then Some (record { 0 = n }) else later) ≡ Some (record { 0 = m })
by_number n m text true later e same rest is = let here : n ≡ m = same (sym ((bytes_eq-Decides (decimal n) text).0 e)) in ap (λ (k : ℕ). let run : RunNo = record { 0 = k } in Some run) here
by_number n m text false later e same rest is =
    rest (λ here. true≢false (sym ((bytes_eq-Decides (decimal n) text).1 (ap decimal here ∙ sym is)) ∙ e))

-- the run whose number the text is, where no other number has this text
pub run_from-some : (n m : ℕ) (text : List ℕ) (runs : List RunView) → n ≤ m → m < n + length runs → text ≡ decimal m → ((i : ℕ) → i < n + length runs → text ≡ decimal i → i ≡ m)
    → run_from n text runs ≡ Some (record { 0 = m })
run_from-some n m text [] low high is only = absurd (omega arith)
run_from-some n m text (r ∷ runs) low high is only =
    by_number n m text (bytes_eq (decimal n) text) (run_from (n + 1) text runs) refl (only n (omega arith))
    (λ apart. run_from-some (n + 1) m text runs (omega arith) (omega arith) is (λ i small spelled. only i (omega arith) spelled)) is

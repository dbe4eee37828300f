-- Where a trip has its place among others that stand in order.
use Rattle.std.proofs.Common.{◌≡◌, ◌∙◌, ℕ, zero, suc, ◌+◌, ◌<◌, ◌≤◌, ◌⊎◌, inl, inr, Bool, true, false, List, [], ◌∷◌, length, refl, sym, ap, subst, arith, get_or, true≢false, if◌then◌else◌}
use Rattle.std.specs.List.{AllWithin, insert}
use Rattle.std.proofs.lemmas.List.{get_or_default}
use Rattle.train_runs.specs.declared.segment.Segment.{Segment}
use Rattle.train_runs.specs.Runs.{RunsView}
use Rattle.trip_builder.specs.Order.{stands_before, sorted_in}
use Rattle.trip_builder.specs.Best.{IsAmong, AllStandBefore, AreInOrder}
use Rattle.trip_builder.proofs.StrictOrder.{three_ways, trips_strict}
use Rattle.trip_builder.proofs.FirstSixteen.{among-all}
use Rattle.trip_builder.proofs.Members.{among_at, at_among}

pub in_order_at : (r : RunsView) (ts : List (List Segment)) (j k : ℕ) (d : List Segment) → AreInOrder r ts → j < k → k < length ts → stands_before r (get_or ts j d) (get_or ts k d) ≡ true
in_order_at r [] j k d ordered up high = absurd (omega (arith, high))
in_order_at r (t ∷ ts) zero zero d ordered up high = absurd (omega (arith, up))
in_order_at r (t ∷ ts) zero (suc k) d ordered up high = among-all r (λ x. stands_before r t x ≡ true) ts (get_or ts k d) ordered.0 (among_at ts k d (omega (arith, high)))
in_order_at r (t ∷ ts) (suc j) zero d ordered up high = absurd (omega (arith, up))
in_order_at r (t ∷ ts) (suc j) (suc k) d ordered up high = in_order_at r ts j k d ordered.1 (omega (arith, up)) (omega (arith, high))

-- what the m-th stands before, those before it stand before
pub before_side : (r : RunsView) (ts : List (List Segment)) (t : List Segment) (m : ℕ) (d : List Segment) → AreInOrder r ts → m < length ts → stands_before r (get_or ts m d) t ≡ true
    → AllWithin (λ u. stands_before r u t ≡ true) ts 0 (m + 1)
before_side r ts t m d ordered fits says k e low high =
    let here : stands_before r (get_or ts m e) t ≡ true = subst (λ (x : List Segment). stands_before r x t ≡ true) (get_or_default ts m d e fits) says in
    by_place here (three_ways k m)
  where
    by_place : stands_before r (get_or ts m e) t ≡ true → (k ≡ m) ⊎ ((k < m) ⊎ (m < k)) → stands_before r (get_or ts k e) t ≡ true
    by_place here (inl same) = subst (λ n. stands_before r (get_or ts n e) t ≡ true) (sym same) here
    by_place here (inr (inl less)) = (trips_strict r).goes_on (get_or ts k e) (get_or ts m e) t (in_order_at r ts k m e ordered less fits) here
    by_place here (inr (inr more)) = absurd (omega (arith, more, high))

-- what the m-th doesn't stand before, those after it don't
pub after_side : (r : RunsView) (ts : List (List Segment)) (t : List Segment) (m : ℕ) (d : List Segment) → AreInOrder r ts → m < length ts → stands_before r (get_or ts m d) t ≡ false
    → AllWithin (λ u. stands_before r u t ≡ false) ts m (length ts)
after_side r ts t m d ordered fits says k e low high =
    let here : stands_before r (get_or ts m e) t ≡ false = subst (λ (x : List Segment). stands_before r x t ≡ false) (get_or_default ts m d e fits) says in
    by_place here (three_ways k m)
  where
    by_test : stands_before r (get_or ts m e) t ≡ false → m < k → (b : Bool) → stands_before r (get_or ts k e) t ≡ b → stands_before r (get_or ts k e) t ≡ false
    by_test here more false f = f
    by_test here more true f = absurd (true≢false (sym ((trips_strict r).goes_on (get_or ts m e) (get_or ts k e) t (in_order_at r ts m k e ordered more high) f) ∙ here))

    by_place : stands_before r (get_or ts m e) t ≡ false → (k ≡ m) ⊎ ((k < m) ⊎ (m < k)) → stands_before r (get_or ts k e) t ≡ false
    by_place here (inl same) = subst (λ n. stands_before r (get_or ts n e) t ≡ false) (sym same) here
    by_place here (inr (inl less)) = absurd (omega (arith, less, low))
    by_place here (inr (inr more)) = by_test here more (stands_before r (get_or ts k e) t) refl

-- the first that doesn't stand before it, and isn't the same, stands after it
pub next_after : (r : RunsView) (ts : List (List Segment)) (n : ℕ) (t : List Segment) → AllWithin (λ u. stands_before r u t ≡ false) ts n (length ts)
    → (n < length ts → ¬ (get_or ts n t ≡ t)) → n < length ts → stands_before r t (get_or ts n t) ≡ true
next_after r ts n t after apart fits = by_test (stands_before r t (get_or ts n t)) refl
  where
    by_test : (b : Bool) → stands_before r t (get_or ts n t) ≡ b → stands_before r t (get_or ts n t) ≡ true
    by_test true e = e
    by_test false e = absurd (apart fits ((trips_strict r).tells (get_or ts n t) t (after n t (omega arith) fits) e))

pub placed : (r : RunsView) (ts : List (List Segment)) (n : ℕ) (t : List Segment) → n ≤ length ts → AllWithin (λ u. stands_before r u t ≡ true) ts 0 n
    → (n < length ts → stands_before r t (get_or ts n t) ≡ true) → sorted_in r ts t ≡ insert ts n t
placed r [] zero t high before next = refl
placed r [] (suc n) t high before next = absurd (omega (arith, high))
placed r (u ∷ us) zero t high before next = ap (λ (b : Bool). if b then t ∷ u ∷ us else u ∷ sorted_in r us t) (next (omega arith))
placed r (u ∷ us) (suc n) t high before next =
    let first : stands_before r u t ≡ true = before 0 u (omega arith) (omega arith) in
    let more = placed r us n t (omega (arith, high)) (λ k d low up. before (suc k) d (omega arith) (omega (arith, up))) (λ fits. next (omega (arith, fits))) in
    ap (λ (b : Bool). if b then t ∷ u ∷ us else u ∷ sorted_in r us t) ((trips_strict r).one_way u t first) ∙ ap (λ (xs : List (List Segment)). u ∷ xs) more

never_before : (r : RunsView) (t : List Segment) → stands_before r t t ≡ true → ⊥
never_before r t says = true≢false (sym says ∙ (trips_strict r).one_way t t says)

pub not_among : (r : RunsView) (ts : List (List Segment)) (n : ℕ) (t : List Segment) → AreInOrder r ts → AllWithin (λ u. stands_before r u t ≡ true) ts 0 n
    → (n < length ts → stands_before r t (get_or ts n t) ≡ true) → ¬ IsAmong ts t
not_among r ts n t ordered before next is = let at = at_among ts t is in by_place at.0 at.1.0 at.1.1 (three_ways at.0 n)
  where
    by_place : (k : ℕ) → k < length ts → get_or ts k t ≡ t → (k ≡ n) ⊎ ((k < n) ⊎ (n < k)) → ⊥
    by_place k fits same (inl e) = never_before r t (subst (λ (x : List Segment). stands_before r t x ≡ true) (ap (λ m. get_or ts m t) (sym e) ∙ same) (next (omega (arith, fits, e))))
    by_place k fits same (inr (inl less)) = never_before r t (subst (λ (x : List Segment). stands_before r x t ≡ true) same (before k t (omega arith) less))
    by_place k fits same (inr (inr more)) =
        let later : stands_before r (get_or ts n t) t ≡ true = subst (λ (x : List Segment). stands_before r (get_or ts n t) x ≡ true) same (in_order_at r ts n k t ordered more fits) in
        never_before r t ((trips_strict r).goes_on t (get_or ts n t) t (next (omega (arith, more, fits))) later)

pub all_before : (r : RunsView) (ts : List (List Segment)) (t : List Segment) → AllWithin (λ u. stands_before r u t ≡ true) ts 0 (length ts) → AllStandBefore r ts t
all_before r [] t before = tt
all_before r (u ∷ us) t before = (before 0 u (omega arith) (omega arith), all_before r us t (λ k d low high. before (suc k) d (omega arith) (omega (arith, high))))

-- The first sixteen of the trips are determined by which trips there are: the order in which they are found doesn't
-- matter.
use Rattle.std.proofs.Common.{◌≡◌, ◌∙◌, ℕ, zero, suc, ◌≤◌, ◌⊎◌, inl, inr, ⊎_elim, Bool, true, false, List, [], ◌∷◌, length, refl, sym, ap₂, subst, arith, true≢false, take, if◌then◌else◌}
use Rattle.std.specs.List.{fold, AllByRecursion}
use Rattle.train_runs.specs.declared.segment.Segment.{Segment}
use Rattle.train_runs.specs.Runs.{RunsView}
use Rattle.trip_builder.specs.Order.{stands_before, sorted_in, sorted}
use Rattle.trip_builder.specs.Trips.{most_trips}
use Rattle.trip_builder.specs.Best.{IsAmong, AreApart, AllStandBefore, AreInOrder, IsDecided}
use Rattle.trip_builder.proofs.StrictOrder.{Strict, trips_strict}

module _ (r : RunsView) where
  order : Strict (stands_before r) (λ a b. a ≡ b)
  order = trips_strict r

  never_itself : (t : List Segment) → stands_before r t t ≡ true → ⊥
  never_itself t says = true≢false (sym says ∙ order.one_way t t says)

  pub among-all : (P : List Segment → Type 0) (ts : List (List Segment)) (t : List Segment) → AllByRecursion P ts → IsAmong ts t → P t
  among-all P [] t all among = absurd among
  among-all P (u ∷ us) t all (inl e) = subst P e all.0
  among-all P (u ∷ us) t all (inr among) = among-all P us t all.1 among

  -- ---- a trip put into its place

  pub all_put : (P : List Segment → Type 0) (ts : List (List Segment)) (t : List Segment) → AllByRecursion P ts → P t → AllByRecursion P (sorted_in r ts t)
  all_put P [] t all here = (here, tt)
  all_put P (u ∷ us) t all here = by_test (stands_before r t u) (all_put P us t all.1 here)
    where
      by_test : (b : Bool) → AllByRecursion P (sorted_in r us t) → AllByRecursion P (if b then t ∷ u ∷ us else u ∷ sorted_in r us t)
      by_test true more = (here, all)
      by_test false more = (all.0, more)

  before_all : (t u : List Segment) (us : List (List Segment)) → stands_before r t u ≡ true → AllByRecursion (λ x. stands_before r u x ≡ true) us
      → AllByRecursion (λ x. stands_before r t x ≡ true) us
  before_all t u [] says all = tt
  before_all t u (x ∷ xs) says all = (order.goes_on t u x says all.0, before_all t u xs says all.1)

  pub put_in_order : (ts : List (List Segment)) (t : List Segment) → AreInOrder r ts → (¬ IsAmong ts t) → AreInOrder r (sorted_in r ts t)
  put_in_order [] t ordered fresh = (tt, tt)
  put_in_order (u ∷ us) t ordered fresh = by_test (stands_before r t u) refl (put_in_order us t ordered.1 (λ among. fresh (inr among)))
    where
      by_test : (b : Bool) → stands_before r t u ≡ b → AreInOrder r (sorted_in r us t) → AreInOrder r (if b then t ∷ u ∷ us else u ∷ sorted_in r us t)
      by_test true says more = ((says, before_all t u us says ordered.0), ordered)
      by_test false says more = (all_put (λ x. stands_before r u x ≡ true) us t ordered.0 (first (stands_before r u t) refl), more)
        where
          first : (b : Bool) → stands_before r u t ≡ b → stands_before r u t ≡ true
          first true e = e
          first false e = absurd (fresh (inl (order.tells u t e says)))

  pub put_has : (ts : List (List Segment)) (t x : List Segment) → IsAmong (sorted_in r ts t) x → (t ≡ x) ⊎ IsAmong ts x
  put_has [] t x (inl e) = inl e
  put_has [] t x (inr among) = absurd among
  put_has (u ∷ us) t x among = by_test (stands_before r t u) (put_has us t x) among
    where
      by_test : (b : Bool) → (IsAmong (sorted_in r us t) x → (t ≡ x) ⊎ IsAmong us x) → IsAmong (if b then t ∷ u ∷ us else u ∷ sorted_in r us t) x
          → (t ≡ x) ⊎ IsAmong (u ∷ us) x
      by_test true more (inl e) = inl e
      by_test true more (inr rest) = inr rest
      by_test false more (inl e) = inr (inl e)
      by_test false more (inr rest) = later (more rest)
        where
          later : (t ≡ x) ⊎ IsAmong us x → (t ≡ x) ⊎ IsAmong (u ∷ us) x
          later (inl e) = inl e
          later (inr among) = inr (inr among)

  pub has_put : (ts : List (List Segment)) (t x : List Segment) → (t ≡ x) ⊎ IsAmong ts x → IsAmong (sorted_in r ts t) x
  has_put [] t x (inl e) = inl e
  has_put [] t x (inr among) = absurd among
  has_put (u ∷ us) t x is = by_test (stands_before r t u) (has_put us t x) is
    where
      by_test : (b : Bool) → ((t ≡ x) ⊎ IsAmong us x → IsAmong (sorted_in r us t) x) → (t ≡ x) ⊎ IsAmong (u ∷ us) x
          → IsAmong (if b then t ∷ u ∷ us else u ∷ sorted_in r us t) x
      by_test true more (inl e) = inl e
      by_test true more (inr rest) = inr rest
      by_test false more (inl e) = inr (more (inl e))
      by_test false more (inr (inl e)) = inl e
      by_test false more (inr (inr among)) = inr (more (inr among))

  -- ---- all trips in their order

  -- none of the trips is among those found
  abbrev AreFresh : List (List Segment) → List (List Segment) → Type 0
  AreFresh found ts = AllByRecursion (λ t. ¬ IsAmong found t) ts

  still_fresh : (found ts us : List (List Segment)) (t : List Segment) → (¬ IsAmong us t) → AreFresh found us → AreFresh (sorted_in r found t) us
  still_fresh found ts [] t apart fresh = tt
  still_fresh found ts (u ∷ us) t apart fresh = (
    λ among. ⊎_elim (λ (e : t ≡ u). apart (inl (sym e))) fresh.0 (put_has found t u among),
    still_fresh found ts us t (λ among. apart (inr among)) fresh.1,
  )

  sort_in_order : (found ts : List (List Segment)) → AreInOrder r found → AreApart ts → AreFresh found ts → AreInOrder r (fold (sorted_in r) found ts)
  sort_in_order found [] ordered apart fresh = ordered
  sort_in_order found (t ∷ ts) ordered apart fresh =
      sort_in_order (sorted_in r found t) ts (put_in_order found t ordered fresh.0) apart.1 (still_fresh found ts ts t apart.0 fresh.1)

  sort_has : (found ts : List (List Segment)) (x : List Segment) → IsAmong (fold (sorted_in r) found ts) x → IsAmong found x ⊎ IsAmong ts x
  sort_has found [] x among = inl among
  sort_has found (t ∷ ts) x among = by_one (sort_has (sorted_in r found t) ts x among)
    where
      by_put : (t ≡ x) ⊎ IsAmong found x → IsAmong found x ⊎ IsAmong (t ∷ ts) x
      by_put (inl e) = inr (inl e)
      by_put (inr before) = inl before

      by_one : IsAmong (sorted_in r found t) x ⊎ IsAmong ts x → IsAmong found x ⊎ IsAmong (t ∷ ts) x
      by_one (inl here) = by_put (put_has found t x here)
      by_one (inr rest) = inr (inr rest)

  has_sort : (found ts : List (List Segment)) (x : List Segment) → IsAmong found x ⊎ IsAmong ts x → IsAmong (fold (sorted_in r) found ts) x
  has_sort found [] x (inl among) = among
  has_sort found [] x (inr among) = absurd among
  has_sort found (t ∷ ts) x is = has_sort (sorted_in r found t) ts x (by_one is)
    where
      by_one : IsAmong found x ⊎ IsAmong (t ∷ ts) x → IsAmong (sorted_in r found t) x ⊎ IsAmong ts x
      by_one (inl before) = inl (has_put found t x (inr before))
      by_one (inr (inl e)) = inl (has_put found t x (inl e))
      by_one (inr (inr rest)) = inr rest

  nothing_fresh : (ts : List (List Segment)) → AreFresh [] ts
  nothing_fresh [] = tt
  nothing_fresh (t ∷ ts) = ((λ never. never), nothing_fresh ts)

  -- ---- two lists in order

  -- the trip is among the first, or they are so many and each of them stands before it
  abbrev IsIn : ℕ → List (List Segment) → List Segment → Type 0
  IsIn n best t = IsAmong best t ⊎ ((length best ≡ n) × AllStandBefore r best t)

  same_first : (b z : List Segment) (best all : List (List Segment)) (n : ℕ) → AreInOrder r (b ∷ best) → AreInOrder r (z ∷ all)
      → IsAmong (z ∷ all) b → IsIn n (b ∷ best) z → b ≡ z
  same_first b z best all n ordered sorts (inl e) decided = sym e
  same_first b z best all n ordered sorts (inr later) (inl (inl e)) = e
  same_first b z best all n ordered sorts (inr later) (inl (inr among)) =
      let zb = among-all (λ x. stands_before r z x ≡ true) all b sorts.0 later in
      let bz = among-all (λ x. stands_before r b x ≡ true) best z ordered.0 among in
      absurd (true≢false (sym bz ∙ order.one_way z b zb))
  same_first b z best all n ordered sorts (inr later) (inr (full, before)) =
      let zb = among-all (λ x. stands_before r z x ≡ true) all b sorts.0 later in
      absurd (true≢false (sym before.0 ∙ order.one_way z b zb))

  rest_among : (b z : List Segment) (best all : List (List Segment)) → b ≡ z → AllByRecursion (λ x. stands_before r b x ≡ true) best
      → AllByRecursion (IsAmong (z ∷ all)) best → AllByRecursion (IsAmong all) best
  rest_among b z [] all e before among = tt
  rest_among b z (x ∷ xs) all e before among = (one among.0, rest_among b z xs all e before.1 among.1)
    where
      one : IsAmong (z ∷ all) x → IsAmong all x
      one (inl f) = absurd (never_itself x (subst (λ (y : List Segment). stands_before r y x ≡ true) (e ∙ f) before.0))
      one (inr later) = later

  rest_in : (b z : List Segment) (best all : List (List Segment)) (n : ℕ) → b ≡ z → AllByRecursion (λ x. stands_before r z x ≡ true) all
      → AllByRecursion (IsIn (suc n) (b ∷ best)) all → AllByRecursion (IsIn n best) all
  rest_in b z best [] n e sorts each = tt
  rest_in b z best (x ∷ xs) n e sorts each = (one each.0, rest_in b z best xs n e sorts.1 each.1)
    where
      one : IsIn (suc n) (b ∷ best) x → IsIn n best x
      one (inl (inl f)) = absurd (never_itself x (subst (λ (y : List Segment). stands_before r y x ≡ true) (sym e ∙ f) sorts.0))
      one (inl (inr among)) = inl among
      one (inr (full, before)) = inr (omega (arith, full), before.1)

  first_of_order : (n : ℕ) (best all : List (List Segment)) → length best ≤ n → AreInOrder r best → AreInOrder r all
      → AllByRecursion (IsAmong all) best → AllByRecursion (IsIn n best) all → best ≡ take n all
  first_of_order zero [] all few ordered sorts among each = refl
  first_of_order zero (b ∷ best) all few ordered sorts among each = absurd (omega (arith, few))
  first_of_order (suc n) [] [] few ordered sorts among each = refl
  first_of_order (suc n) [] (z ∷ all) few ordered sorts among each = none each.0
    where
      none : IsIn (suc n) [] z → [] ≡ z ∷ take n all
      none (inl never) = absurd never
      none (inr (full, before)) = absurd (omega (arith, full))
  first_of_order (suc n) (b ∷ best) [] few ordered sorts among each = absurd among.0
  first_of_order (suc n) (b ∷ best) (z ∷ all) few ordered sorts among each =
      let e = same_first b z best all (suc n) ordered sorts among.0 each.0 in
      ap₂ (λ (x : List Segment) (xs : List (List Segment)). x ∷ xs) e
      (first_of_order n best all (omega (arith, few)) ordered.1 sorts.1 (rest_among b z best all e ordered.0 among.1) (rest_in b z best all n e sorts.0 each.1))

  pub all_map : (P Q : List Segment → Type 0) → ((t : List Segment) → P t → Q t) → (ts : List (List Segment)) → AllByRecursion P ts → AllByRecursion Q ts
  all_map P Q f [] all = tt
  all_map P Q f (t ∷ ts) all = (f t all.0, all_map P Q f ts all.1)

  pub all_among : (ts : List (List Segment)) (P : List Segment → Type 0) → ((t : List Segment) → IsAmong ts t → P t) → AllByRecursion P ts
  all_among [] P each = tt
  all_among (t ∷ ts) P each = (each t (inl refl), all_among ts P (λ u among. each u (inr among)))

  -- What is in order, is of the trips, and leaves out only what sixteen stand before, are the first sixteen.
  pub first_sixteen : (all best : List (List Segment)) → AreApart all → length best ≤ most_trips → AreInOrder r best
      → AllByRecursion (IsAmong all) best → AllByRecursion (IsDecided r best) all → best ≡ take most_trips (sorted r all)
  first_sixteen all best apart few ordered among each =
      first_of_order most_trips best (sorted r all) few ordered (sort_in_order [] all tt apart (nothing_fresh all))
      (all_map (IsAmong all) (IsAmong (sorted r all)) (λ t is. has_sort [] all t (inr is)) best among)
      (all_among (sorted r all) (IsDecided r best) (λ t is. ⊎_elim (λ (never : ⊥). absurd never) (among-all (IsDecided r best) all t each) (sort_has [] all t is)))

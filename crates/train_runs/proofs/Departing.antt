-- The lists of departures that are kept, as departures are added and looked up.
use Rattle.std.proofs.Common.{◌≡◌, ℕ, zero, suc, ◌+◌, ◌-◌, ◌/◌, ◌<◌, ◌≤◌, ◌⊎◌, inl, inr, Bool, true, false, List, [], ◌∷◌, ◌++◌, length, take, drop, get_or, refl, sym, ap, ◌∙◌, subst, arith, leb, insert, if◌then◌else◌, All}
use Rattle.std.specs.Prelude.{◌↔◌}
use Rattle.std.specs.List.{AllPairs, Contains}
use Rattle.std.specs.Int.Digits.{digits_of}
use Rattle.std.proofs.lemmas.Int.Digits.{length-digits_of_step}
use Rattle.std.specs.List.Sorted.{IsPartitionedBy, IsPartitionPoint}
use Rattle.std.proofs.lemmas.Bool.Decides.{nat_tests}
use Rattle.std.proofs.lemmas.List.{take-append-drop, get_or-take, get_or-drop, get_or_read, length-take-le, length-drop}
use Rattle.std.proofs.lemmas.List.Kept.{AllPairs-cons}
use Rattle.std.proofs.lemmas.List.Elements.{All-nil, All-cons, All-append, All-take, All-drop, Contains-append_left, Contains-append_right, Contains-append_cases}
use Rattle.train_runs.specs.declared.departure.Departure.{Departure}
use Rattle.train_runs.specs.Departures.{IsBefore, IsWithin, AreExactly}
use Rattle.train_runs.specs.Boards.{IsWindow}

no_later : (a b : Departure) → IsBefore a b → a.moment ≤ b.moment
no_later a b (inl h) = omega (arith, h)
no_later a b (inr h) = omega (arith, h.0)

-- the moments don't fall
pub moments_rise : (ds : List Departure) → AllPairs IsBefore ds → (i j : ℕ) (d : Departure) → i ≤ j → j < length ds → (get_or ds i d).moment ≤ (get_or ds j d).moment
moments_rise ds h i j d le small = either (less_or_same i j le)
  where
    less_or_same : (i j : ℕ) → i ≤ j → (i < j) ⊎ (i ≡ j)
    less_or_same zero zero le = inr refl
    less_or_same zero (suc j) le = inl (omega arith)
    less_or_same (suc i) zero le = absurd (omega (arith, le))
    less_or_same (suc i) (suc j) le = step (less_or_same i j (omega (arith, le)))
      where
        step : (i < j) ⊎ (i ≡ j) → (suc i < suc j) ⊎ (suc i ≡ suc j)
        step (inl l) = inl (omega (arith, l))
        step (inr e) = inr (ap suc e)

    either : (i < j) ⊎ (i ≡ j) → (get_or ds i d).moment ≤ (get_or ds j d).moment
    either (inl l) = no_later (get_or ds i d) (get_or ds j d) (h i j d l small)
    either (inr e) = rw e (omega arith)

pub split_by_moment : (ds : List Departure) (t : ℕ) → AllPairs IsBefore ds → IsPartitionedBy (λ (y : Departure). leb y.moment t) ds
split_by_moment ds t h i j d le small passes = let rise = moments_rise ds h i j d le small in grind (arith, nat_tests)

-- the order with one more
pairs_insert : (ds : List Departure) (p : ℕ) (y : Departure) → AllPairs IsBefore ds → ((k : ℕ) (d : Departure) → k < p → k < length ds → IsBefore (get_or ds k d) y)
    → ((k : ℕ) (d : Departure) → p ≤ k → k < length ds → IsBefore y (get_or ds k d)) → AllPairs IsBefore (insert ds p y)
pairs_insert ds zero y h before after = AllPairs-cons IsBefore y ds (λ k d small. after k d (omega arith) small) h
pairs_insert [] (suc p) y h before after = AllPairs-cons IsBefore y [] (All-nil (IsBefore y)) h
pairs_insert (x ∷ ds) (suc p) y h before after =
    let later : All (IsBefore x) ds = λ k d small. h 0 (suc k) d (omega arith) (omega (arith, small)) in
    AllPairs-cons IsBefore x (insert ds p y)
    (All-append (IsBefore x) (take p ds) (y ∷ drop p ds) (All-take (IsBefore x) p ds later) (All-cons (IsBefore x) y (drop p ds) (before 0 x (omega arith) (omega arith)) (All-drop (IsBefore x) p ds later)))
    (pairs_insert ds p y (λ i j d l small. h (suc i) (suc j) d (omega (arith, l)) (omega (arith, small)))
    (λ k d l small. before (suc k) d (omega (arith, l)) (omega (arith, small)))
    (λ k d l small. after (suc k) d (omega (arith, l)) (omega (arith, small))))

pub less_or_equal : (a b : ℕ) → a ≤ b → (a < b) ⊎ (a ≡ b)
less_or_equal zero zero le = inr refl
less_or_equal zero (suc b) le = inl (omega arith)
less_or_equal (suc a) zero le = absurd (omega (arith, le))
less_or_equal (suc a) (suc b) le = step (less_or_equal a b (omega (arith, le)))
  where
    step : (a < b) ⊎ (a ≡ b) → (suc a < suc b) ⊎ (suc a ≡ suc b)
    step (inl l) = inl (omega (arith, l))
    step (inr e) = inr (ap suc e)

-- a departure put behind those of its moment, each of which it follows
pub stays_in_order : (ds : List Departure) (p : ℕ) (y : Departure) → AllPairs IsBefore ds → All (λ d. d.moment ≡ y.moment → IsBefore d y) ds
    → IsPartitionPoint (λ d. leb d.moment y.moment ≡ true) (λ d. leb d.moment y.moment ≡ false) ds p → AllPairs IsBefore (insert ds p y)
stays_in_order ds p y h behind split = pairs_insert ds p y h
    (λ k d l small. early (get_or ds k d) (behind k d small) (less_or_equal (get_or ds k d).moment y.moment (let t = split.0 k d (omega arith) l in grind (arith, nat_tests))))
    (λ k d l small. inl (let t = split.1 k d l small in grind (arith, nat_tests)))
  where
    early : (d : Departure) → (d.moment ≡ y.moment → IsBefore d y) → (d.moment < y.moment) ⊎ (d.moment ≡ y.moment) → IsBefore d y
    early d b (inl l) = inl l
    early d b (inr e) = b e

one_of : (y x : Departure) → Contains (y ∷ []) x → y ≡ x
one_of y x (zero, small, is) = is
one_of y x (suc k, small, is) = absurd (omega (arith, small))

-- the members with one more
pub members_insert : (ds : List Departure) (p : ℕ) (y x : Departure) → Contains (insert ds p y) x ↔ (Contains ds x ⊎ (y ≡ x))
members_insert ds p y x = (forth, back)
  where
    whole : take p ds ++ drop p ds ≡ ds
    whole = take-append-drop p ds

    in_tail : Contains (y ∷ []) x ⊎ Contains (drop p ds) x → Contains ds x ⊎ (y ≡ x)
    in_tail (inl c) = inr (one_of y x c)
    in_tail (inr c) = inl (subst (λ (l : List Departure). Contains l x) whole (Contains-append_right (take p ds) (drop p ds) x c))

    in_parts : Contains (take p ds) x ⊎ Contains (y ∷ drop p ds) x → Contains ds x ⊎ (y ≡ x)
    in_parts (inl c) = inl (subst (λ (l : List Departure). Contains l x) whole (Contains-append_left (take p ds) (drop p ds) x c))
    in_parts (inr c) = in_tail (Contains-append_cases (y ∷ []) (drop p ds) x c)

    forth : Contains (insert ds p y) x → Contains ds x ⊎ (y ≡ x)
    forth c = in_parts (Contains-append_cases (take p ds) (y ∷ drop p ds) x c)

    of_old : Contains (take p ds) x ⊎ Contains (drop p ds) x → Contains (insert ds p y) x
    of_old (inl c) = Contains-append_left (take p ds) (y ∷ drop p ds) x c
    of_old (inr c) = Contains-append_right (take p ds) (y ∷ drop p ds) x (Contains-append_right (y ∷ []) (drop p ds) x c)

    back : Contains ds x ⊎ (y ≡ x) → Contains (insert ds p y) x
    back (inl c) = of_old (Contains-append_cases (take p ds) (drop p ds) x (subst (λ (l : List Departure). Contains l x) (sym whole) c))
    back (inr e) = Contains-append_right (take p ds) (y ∷ drop p ds) x (0, omega arith, e)

-- a window of a list of departures has exactly those within it
pub window_exact : (Is : Departure → Type 0) (from to : ℕ) (board ds : List Departure) → AreExactly Is board → IsWindow from to board ds → AreExactly (λ d. Is d × IsWithin from to d) ds
window_exact Is from to board ds h w = record {
  in_order = λ i j d l small. let a = at i d (omega (arith, l, small)) in let b = at j d small in
      rw (a, b) (h.in_order (w.first + i) (w.first + j) d (omega (arith, l)) (omega (arith, small, w.within)));
  members = λ x. (forth x, λ c. back x c.1 (h.members x).1 c.0);
}
  where
    at : (k : ℕ) (d : Departure) → k < length ds → get_or ds k d ≡ get_or board (w.first + k) d
    at k d small = ap (λ (l : List Departure). get_or l k d) w.part ∙ get_or-take (length ds) (drop w.first board) k d small ∙ get_or-drop w.first board k d

    forth : (x : Departure) → Contains ds x → Is x × IsWithin from to x
    forth x c = let is = sym (at c.0 x c.1) ∙ c.2 in
        ((h.members x).0 (w.first + c.0, omega (arith, c.1, w.within), is), subst (λ (d : Departure). IsWithin from to d) is (w.inside (w.first + c.0) x (omega arith) (omega (arith, c.1))))

    place : (x : Departure) (k : ℕ) → k < length board → get_or board k x ≡ x → IsWithin from to x → (w.first ≤ k) × (k < w.first + length ds)
    place x k small is within = (after (le_or_lt w.first k), before (le_or_lt (w.first + length ds) k))
      where
        le_or_lt : (a b : ℕ) → (a ≤ b) ⊎ (b < a)
        le_or_lt zero b = inl (omega arith)
        le_or_lt (suc a) zero = inr (omega arith)
        le_or_lt (suc a) (suc b) = step (le_or_lt a b)
          where
            step : (a ≤ b) ⊎ (b < a) → (suc a ≤ suc b) ⊎ (suc b < suc a)
            step (inl l) = inl (omega (arith, l))
            step (inr l) = inr (omega (arith, l))

        after : (w.first ≤ k) ⊎ (k < w.first) → w.first ≤ k
        after (inl l) = l
        after (inr l) = let early = subst (λ (d : Departure). d.moment < from) is (w.earlier k x (omega arith) l) in absurd (omega (arith, early, within.0))

        before : (w.first + length ds ≤ k) ⊎ (k < w.first + length ds) → k < w.first + length ds
        before (inl l) = let late = subst (λ (d : Departure). to < d.moment) is (w.later k x l small) in absurd (omega (arith, late, within.1))
        before (inr l) = l

    back : (x : Departure) → IsWithin from to x → (Is x → Contains board x) → Is x → Contains ds x
    back x within has it =
        let c = has it in let p = place x c.0 c.1 c.2 within in
        let e : w.first + (c.0 - w.first) ≡ c.0 = omega (arith, p.0) in
        (c.0 - w.first, omega (arith, p.0, p.1), at (c.0 - w.first) x (omega (arith, p.0, p.1)) ∙ ap (λ (k : ℕ). get_or board k x) e ∙ c.2)

-- what a look at one departure says of those on its one side
pub earlier_side : (ds : List Departure) (t mid : ℕ) (x : Departure) → AllPairs IsBefore ds → mid < length ds → x ≡ get_or ds mid x → x.moment < t → (k : ℕ) (d : Departure) → k ≤ mid → (get_or ds k d).moment < t
earlier_side ds t mid x h small is less k d le = let at = get_or_read ds mid x small is d in let rise = moments_rise ds h k mid d le small in let same : x.moment ≡ (get_or ds mid d).moment = ap (λ (y : Departure). y.moment) at in omega (arith, less, rise, same)

pub later_side : (ds : List Departure) (t mid : ℕ) (x : Departure) → AllPairs IsBefore ds → mid < length ds → x ≡ get_or ds mid x → t ≤ x.moment → (k : ℕ) (d : Departure) → mid ≤ k → k < length ds → t ≤ (get_or ds k d).moment
later_side ds t mid x h small is less k d le fits = let at = get_or_read ds mid x small is d in let rise = moments_rise ds h mid k d le fits in let same : x.moment ≡ (get_or ds mid d).moment = ap (λ (y : Departure). y.moment) at in omega (arith, less, rise, same)

pub digit_less : (n : ℕ) → 0 < n → length (digits_of 2 n) ≡ length (digits_of 2 (n / 2)) + 1
digit_less n some = length-digits_of_step 2 n (omega arith) some

digits_grow : (fuel m n : ℕ) → n ≤ fuel → m ≤ n → length (digits_of 2 m) ≤ length (digits_of 2 n)
digits_grow fuel zero n low le = let none : length (digits_of 2 0) ≡ 0 = refl in omega (arith, none)
digits_grow zero (suc m) n low le = absurd (omega (arith, low, le))
digits_grow (suc fuel) (suc m) n low le =
    let a = digit_less (suc m) (omega arith) in
    let b = digit_less n (omega (arith, le)) in
    let rest = digits_grow fuel (suc m / 2) (n / 2) (omega (arith, low, le)) (omega (arith, le)) in
    omega (arith, a, b, rest)

-- a longer list's length has no fewer digits
pub digits_rise : (m n : ℕ) → m ≤ n → length (digits_of 2 m) ≤ length (digits_of 2 n)
digits_rise m n le = digits_grow n m n (omega arith) le

pub rest_in_order : (ds : List Departure) (n : ℕ) → AllPairs IsBefore ds → AllPairs IsBefore (drop n ds)
rest_in_order ds n h i j d l small =
    let size = length-drop n ds in
    rw (get_or-drop n ds i d, get_or-drop n ds j d) (h (n + i) (n + j) d (omega (arith, l)) (omega (arith, small, size)))

-- the window between two partition points
pub window_between : (ds rest : List Departure) (from to first n : ℕ) → rest ≡ drop first ds → first ≤ length ds → n ≤ length rest
    → IsPartitionPoint (λ d. d.moment < from) (λ d. from ≤ d.moment) ds first → IsPartitionPoint (λ d. d.moment < to + 1) (λ d. to + 1 ≤ d.moment) rest n
    → IsWindow from to ds (take n rest)
window_between ds rest from to first n is fits small low high =
    let size : length rest ≡ length ds - first = ap length is ∙ length-drop first ds in
    let count : length (take n rest) ≡ n = length-take-le n rest small in
    record {
      first = first;
      within = omega (arith, fits, small, size, count);
      part = ap (λ (m : ℕ). take m rest) (sym count) ∙ ap (take (length (take n rest))) is;
      inside = λ k d from_first below. (
        low.1 k d from_first (omega (arith, below, fits, small, size, count)),
        (let e = at k d from_first in let t = high.0 (k - first) d (omega arith) (omega (arith, from_first, below, count)) in let same : (get_or rest (k - first) d).moment ≡ (get_or ds k d).moment = ap (λ (x : Departure). x.moment) e in omega (arith, t, same)),
      );
      earlier = low.0;
      later = λ k d past below. let e = at k d (omega (arith, past)) in let t = high.1 (k - first) d (omega (arith, past, count)) (omega (arith, past, below, size)) in let same : (get_or rest (k - first) d).moment ≡ (get_or ds k d).moment = ap (λ (x : Departure). x.moment) e in omega (arith, t, same);
    }
  where
    at : (k : ℕ) (d : Departure) → first ≤ k → get_or rest (k - first) d ≡ get_or ds k d
    at k d le = let e : first + (k - first) ≡ k = omega (arith, le) in ap (λ (l : List Departure). get_or l (k - first) d) is ∙ get_or-drop first ds (k - first) d ∙ ap (λ (m : ℕ). get_or ds m d) e

pub either_in_order : (b : Bool) (ds new : List Departure) (p : ℕ) (y : Departure) → new ≡ (if b then insert ds p y else ds) → AllPairs IsBefore ds → AllPairs IsBefore (insert ds p y) → AllPairs IsBefore new
either_in_order true ds new p y is old more = subst (λ (l : List Departure). AllPairs IsBefore l) (sym is) more
either_in_order false ds new p y is old more = subst (λ (l : List Departure). AllPairs IsBefore l) (sym is) old

-- Trips stand in one order: of two that differ one stands before the other, and none before itself.
use Rattle.std.proofs.Common.{◌≡◌, ◌∙◌, ℕ, ◌==◌, ◌&&◌, ◌<◌, ◌≤◌, ◌⊎◌, inl, inr, Bool, true, false, List, [], ◌∷◌, length, refl, sym, ap, ap₂, arith, nat_lt, true≢false, if◌then◌else◌, eqb-true, eq-eqb, ne_eqb, ltb-true, ltb-false, lt-ltb, le-ltb}
use Rattle.std.proofs.lemmas.Bool.{cases_lt}
use Rattle.train_runs.specs.declared.segment.Segment.{Segment}
use Rattle.train_runs.specs.Runs.{RunsView}
use Rattle.trip_builder.specs.Segments.{segment}
use Rattle.trip_builder.specs.Order.{last_arrival, first_departure, is_same, is_lower, are_lower, stands_before}

-- A strict order, which tells any two apart but those that are equal in this sense.
pub record Strict {X : Type 0} (before : X → X → Bool) (Equal : X → X → Type 0) : Type 0 where
  pub one_way : (a b : X) → before a b ≡ true → before b a ≡ false
  pub goes_on : (a b c : X) → before a b ≡ true → before b c ≡ true → before a c ≡ true
  pub tells : (a b : X) → before a b ≡ false → before b a ≡ false → Equal a b

-- first by a number, and then by another order
abbrev pub by_number : {X : Type 0} → (X → ℕ) → (X → X → Bool) → X → X → Bool
by_number number before a b = if number a == number b then before a b else nat_lt (number a) (number b)

pub three_ways : (m n : ℕ) → (m ≡ n) ⊎ ((m < n) ⊎ (n < m))
three_ways m n = from (cases_lt m n)
  where
    later : n ≤ m → (n < m) ⊎ (m ≤ n) → (m ≡ n) ⊎ ((m < n) ⊎ (n < m))
    later a (inl b) = inr (inr b)
    later a (inr b) = inl (omega arith)

    from : (m < n) ⊎ (n ≤ m) → (m ≡ n) ⊎ ((m < n) ⊎ (n < m))
    from (inl a) = inr (inl a)
    from (inr a) = later a (cases_lt n m)

module _ {X : Type 0} (number : X → ℕ) (before : X → X → Bool) where
  same : (a b : X) → number a ≡ number b → by_number number before a b ≡ before a b
  same a b e = ap (λ (t : Bool). if t then before a b else nat_lt (number a) (number b)) (eq-eqb (number a) (number b) e)

  lower : (a b : X) → number a < number b → by_number number before a b ≡ true
  lower a b h =
      ap (λ (t : Bool). if t then before a b else nat_lt (number a) (number b)) (ne_eqb (number a) (number b) (λ e. omega (arith, e, h)))
      ∙ lt-ltb (number a) (number b) h

  higher : (a b : X) → number b < number a → by_number number before a b ≡ false
  higher a b h =
      ap (λ (t : Bool). if t then before a b else nat_lt (number a) (number b)) (ne_eqb (number a) (number b) (λ e. omega (arith, e, h)))
      ∙ le-ltb (number a) (number b) (omega (arith, h))

  -- what a yes says of the numbers
  yes_says : (a b : X) → by_number number before a b ≡ true → (number a < number b) ⊎ ((number a ≡ number b) × (before a b ≡ true))
  yes_says a b says = from (three_ways (number a) (number b))
    where
      from : (number a ≡ number b) ⊎ ((number a < number b) ⊎ (number b < number a)) → (number a < number b) ⊎ ((number a ≡ number b) × (before a b ≡ true))
      from (inl e) = inr (e, sym (same a b e) ∙ says)
      from (inr (inl h)) = inl h
      from (inr (inr h)) = absurd (true≢false (sym says ∙ higher a b h))

  no_says : (a b : X) → by_number number before a b ≡ false → (number b < number a) ⊎ ((number a ≡ number b) × (before a b ≡ false))
  no_says a b denies = from (three_ways (number a) (number b))
    where
      from : (number a ≡ number b) ⊎ ((number a < number b) ⊎ (number b < number a)) → (number b < number a) ⊎ ((number a ≡ number b) × (before a b ≡ false))
      from (inl e) = inr (e, sym (same a b e) ∙ denies)
      from (inr (inl h)) = absurd (true≢false (sym (lower a b h) ∙ denies))
      from (inr (inr h)) = inl h

  pub number_first : (Equal : X → X → Type 0) → Strict before Equal → Strict (by_number number before) (λ a b. (number a ≡ number b) × Equal a b)
  number_first Equal s = record {
    one_way = λ a b says. turned a b (yes_says a b says);
    goes_on = λ a b c ab bc. onward a b c (yes_says a b ab) (yes_says b c bc);
    tells = λ a b ab ba. told a b (no_says a b ab) (no_says b a ba);
  }
    where
      turned : (a b : X) → (number a < number b) ⊎ ((number a ≡ number b) × (before a b ≡ true)) → by_number number before b a ≡ false
      turned a b (inl h) = higher b a h
      turned a b (inr (e, says)) = same b a (sym e) ∙ s.one_way a b says

      onward : (a b c : X) → (number a < number b) ⊎ ((number a ≡ number b) × (before a b ≡ true)) → (number b < number c) ⊎ ((number b ≡ number c) × (before b c ≡ true))
          → by_number number before a c ≡ true
      onward a b c (inl h) (inl k) = lower a c (omega (arith, h, k))
      onward a b c (inl h) (inr (e, says)) = lower a c (omega (arith, h, e))
      onward a b c (inr (e, says)) (inl k) = lower a c (omega (arith, e, k))
      onward a b c (inr (e, x)) (inr (f, y)) = same a c (e ∙ f) ∙ s.goes_on a b c x y

      told : (a b : X) → (number b < number a) ⊎ ((number a ≡ number b) × (before a b ≡ false)) → (number a < number b) ⊎ ((number b ≡ number a) × (before b a ≡ false))
          → (number a ≡ number b) × Equal a b
      told a b (inl h) (inl k) = absurd (omega (arith, h, k))
      told a b (inl h) (inr (e, denies)) = absurd (omega (arith, h, e))
      told a b (inr (e, denies)) (inl k) = absurd (omega (arith, e, k))
      told a b (inr (e, x)) (inr (f, y)) = (e, s.tells a b x y)

-- the same, where the greater number stands first
abbrev pub by_greater : {X : Type 0} → (X → ℕ) → (X → X → Bool) → X → X → Bool
by_greater number before a b = if number a == number b then before a b else nat_lt (number b) (number a)

turned_round : {X : Type 0} (before : X → X → Bool) (Equal : X → X → Type 0) → Strict before Equal → Strict (λ a b. before b a) (λ a b. Equal b a)
turned_round before Equal s = record {
  one_way = λ a b says. s.one_way b a says;
  goes_on = λ a b c ab bc. s.goes_on c b a bc ab;
  tells = λ a b ab ba. s.tells b a ab ba;
}

alike : {X : Type 0} (f g : X → X → Bool) (Equal : X → X → Type 0) → ((a b : X) → f a b ≡ g a b) → Strict f Equal → Strict g Equal
alike f g Equal is s = record {
  one_way = λ a b says. sym (is b a) ∙ s.one_way a b (is a b ∙ says);
  goes_on = λ a b c ab bc. sym (is a c) ∙ s.goes_on a b c (is a b ∙ ab) (is b c ∙ bc);
  tells = λ a b ab ba. s.tells a b (is a b ∙ ab) (is b a ∙ ba);
}

eqb_turned : (m n : ℕ) → (m == n) ≡ (n == m)
eqb_turned m n = from (three_ways m n)
  where
    from : (m ≡ n) ⊎ ((m < n) ⊎ (n < m)) → (m == n) ≡ (n == m)
    from (inl e) = eq-eqb m n e ∙ sym (eq-eqb n m (sym e))
    from (inr (inl h)) = ne_eqb m n (λ e. omega (arith, e, h)) ∙ sym (ne_eqb n m (λ e. omega (arith, e, h)))
    from (inr (inr h)) = ne_eqb m n (λ e. omega (arith, e, h)) ∙ sym (ne_eqb n m (λ e. omega (arith, e, h)))

pub greater_first : {X : Type 0} (number : X → ℕ) (before : X → X → Bool) (Equal : X → X → Type 0) → Strict before Equal
    → Strict (by_greater number before) (λ a b. (number b ≡ number a) × Equal a b)
greater_first number before Equal s =
    let back = number_first number (λ a b. before b a) (λ a b. Equal b a) (turned_round before Equal s) in
    let round = turned_round (by_number number (λ a b. before b a)) (λ a b. (number a ≡ number b) × Equal b a) back in
    alike (λ a b. by_number number (λ x y. before y x) b a) (by_greater number before) (λ a b. (number b ≡ number a) × Equal a b)
    (λ a b. ap (λ (t : Bool). if t then before a b else nat_lt (number b) (number a)) (eqb_turned (number b) (number a))) round

-- ---- segments

-- a number alone
by_one : {X : Type 0} (number : X → ℕ) → Strict (λ a b. nat_lt (number a) (number b)) (λ a b. number a ≡ number b)
by_one number = record {
  one_way = λ a b says. le-ltb (number b) (number a) (let h = ltb-true (number a) (number b) says in omega (arith, h));
  goes_on = λ a b c ab bc. lt-ltb (number a) (number c) (let h = ltb-true (number a) (number b) ab in let k = ltb-true (number b) (number c) bc in omega (arith, h, k));
  tells = λ a b ab ba. let h = ltb-false (number a) (number b) ab in let k = ltb-false (number b) (number a) ba in omega (arith, h, k);
}

-- the run, the first stop and the last are all that a segment has
pub one_segment : (s t : Segment) → (s.run.0 ≡ t.run.0) × ((s.span.from ≡ t.span.from) × (s.span.to ≡ t.span.to)) → s ≡ t
one_segment s t (e, (f, g)) =
    ap (λ a. segment a s.span.from s.span.to) e ∙ (ap (λ b. segment t.run.0 b s.span.to) f ∙ ap (λ c. segment t.run.0 t.span.from c) g)

weaker : {X : Type 0} (before : X → X → Bool) (P Q : X → X → Type 0) → ((a b : X) → P a b → Q a b) → Strict before P → Strict before Q
weaker before P Q f s = record { one_way = s.one_way; goes_on = s.goes_on; tells = λ a b ab ba. f a b (s.tells a b ab ba) }

pub segments_strict : Strict is_lower (λ s t. s ≡ t)
segments_strict =
    let at_last = by_one (λ (s : Segment). s.span.to) in
    let at_first = number_first (λ (s : Segment). s.span.from) (λ s t. nat_lt s.span.to t.span.to) (λ s t. s.span.to ≡ t.span.to) at_last in
    let at_run = number_first (λ (s : Segment). s.run.0) (by_number (λ (s : Segment). s.span.from) (λ s t. nat_lt s.span.to t.span.to))
    (λ s t. (s.span.from ≡ t.span.from) × (s.span.to ≡ t.span.to)) at_first in
    weaker is_lower (λ s t. (s.run.0 ≡ t.run.0) × ((s.span.from ≡ t.span.from) × (s.span.to ≡ t.span.to))) (λ s t. s ≡ t) one_segment at_run

-- ---- lists of segments

is_same-refl : (s : Segment) → is_same s s ≡ true
is_same-refl s = rw (eq-eqb s.run.0 s.run.0 refl, eq-eqb s.span.from s.span.from refl, eq-eqb s.span.to s.span.to refl) refl

pub same_segment : (s t : Segment) → is_same s t ≡ true → s ≡ t
same_segment s t says = one_segment s t (by_tests (s.run.0 == t.run.0) (s.span.from == t.span.from) (s.span.to == t.span.to) refl refl refl says)
  where
    by_tests : (a b c : Bool) → (s.run.0 == t.run.0) ≡ a → (s.span.from == t.span.from) ≡ b → (s.span.to == t.span.to) ≡ c → (a && (b && c)) ≡ true
        → (s.run.0 ≡ t.run.0) × ((s.span.from ≡ t.span.from) × (s.span.to ≡ t.span.to))
    by_tests true true true e f g says = (eqb-true s.run.0 t.run.0 e, (eqb-true s.span.from t.span.from f, eqb-true s.span.to t.span.to g))
    by_tests true true false e f g says = absurd (true≢false (sym says))
    by_tests true false c e f g says = absurd (true≢false (sym says))
    by_tests false b c e f g says = absurd (true≢false (sym says))

-- where the first segments differ, they decide
pub differ : (s t : Segment) (ss ts : List Segment) → is_same s t ≡ false → are_lower (s ∷ ss) (t ∷ ts) ≡ is_lower s t
differ s t ss ts e = ap (λ (b : Bool). if b then are_lower ss ts else is_lower s t) e

pub agree : (s t : Segment) (ss ts : List Segment) → is_same s t ≡ true → are_lower (s ∷ ss) (t ∷ ts) ≡ are_lower ss ts
agree s t ss ts e = ap (λ (b : Bool). if b then are_lower ss ts else is_lower s t) e

pub is_lower-irreflexive : (s t : Segment) → s ≡ t → is_lower s t ≡ true → ⊥
is_lower-irreflexive s t e says = true≢false (sym says ∙ (ap (λ (x : Segment). is_lower x t) e ∙ (ap (is_lower t) (sym e) ∙ segments_strict.one_way s t says)))

apart_back : (s t : Segment) → is_same s t ≡ false → is_same t s ≡ false
apart_back s t e = by_test (is_same t s) refl
  where
    by_test : (b : Bool) → is_same t s ≡ b → is_same t s ≡ false
    by_test false f = f
    by_test true f = absurd (true≢false (sym (ap (λ (x : Segment). is_same x t) (sym (same_segment t s f)) ∙ is_same-refl t) ∙ e))

same_back : (s t : Segment) → is_same s t ≡ true → is_same t s ≡ true
same_back s t e = ap (λ (x : Segment). is_same t x) (same_segment s t e) ∙ is_same-refl t

nothing_after : (xs : List Segment) → are_lower xs [] ≡ false
nothing_after [] = refl
nothing_after (x ∷ xs) = refl

lists_one_way : (a b : List Segment) → are_lower a b ≡ true → are_lower b a ≡ false
lists_one_way a [] says = absurd (true≢false (sym says ∙ nothing_after a))
lists_one_way [] (t ∷ ts) says = refl
lists_one_way (s ∷ ss) (t ∷ ts) says = by_test (is_same s t) refl (lists_one_way ss ts)
  where
    by_test : (b : Bool) → is_same s t ≡ b → (are_lower ss ts ≡ true → are_lower ts ss ≡ false) → are_lower (t ∷ ts) (s ∷ ss) ≡ false
    by_test true e more = agree t s ts ss (same_back s t e) ∙ more (sym (agree s t ss ts e) ∙ says)
    by_test false e more = differ t s ts ss (apart_back s t e) ∙ segments_strict.one_way s t (sym (differ s t ss ts e) ∙ says)

same_onward : (s t u : Segment) → is_same s t ≡ true → is_same s u ≡ is_same t u
same_onward s t u e = ap (λ (x : Segment). is_same x u) (same_segment s t e)

lists_go_on : (a b c : List Segment) → are_lower a b ≡ true → are_lower b c ≡ true → are_lower a c ≡ true
lists_go_on a b [] ab bc = absurd (true≢false (sym bc ∙ nothing_after b))
lists_go_on a [] (u ∷ us) ab bc = absurd (true≢false (sym ab ∙ nothing_after a))
lists_go_on [] (t ∷ ts) (u ∷ us) ab bc = refl
lists_go_on (s ∷ ss) (t ∷ ts) (u ∷ us) ab bc = by_tests (is_same s t) (is_same t u) refl refl (lists_go_on ss ts us)
  where
    by_tests : (x y : Bool) → is_same s t ≡ x → is_same t u ≡ y → (are_lower ss ts ≡ true → are_lower ts us ≡ true → are_lower ss us ≡ true)
        → are_lower (s ∷ ss) (u ∷ us) ≡ true
    by_tests true true e f more = agree s u ss us (same_onward s t u e ∙ f) ∙ more (sym (agree s t ss ts e) ∙ ab) (sym (agree t u ts us f) ∙ bc)
    by_tests true false e f more =
        differ s u ss us (same_onward s t u e ∙ f)
        ∙ (ap (λ (x : Segment). is_lower x u) (same_segment s t e) ∙ (sym (differ t u ts us f) ∙ bc))
    by_tests false true e f more =
        let other : is_same s u ≡ false = ap (is_same s) (sym (same_segment t u f)) ∙ e in
        differ s u ss us other ∙ (ap (is_lower s) (sym (same_segment t u f)) ∙ (sym (differ s t ss ts e) ∙ ab))
    by_tests false false e f more =
        let st = sym (differ s t ss ts e) ∙ ab in
        let tu = sym (differ t u ts us f) ∙ bc in
        let su = segments_strict.goes_on s t u st tu in
        differ s u ss us (not_same s u su) ∙ su
      where
        not_same : (x z : Segment) → is_lower x z ≡ true → is_same x z ≡ false
        not_same x z low = by_test (is_same x z) refl
          where
            by_test : (b : Bool) → is_same x z ≡ b → is_same x z ≡ false
            by_test false g = g
            by_test true g = absurd (is_lower-irreflexive x z (same_segment x z g) low)

pub lists_tell : (a b : List Segment) → are_lower a b ≡ false → are_lower b a ≡ false → a ≡ b
lists_tell [] [] ab ba = refl
lists_tell [] (t ∷ ts) ab ba = absurd (true≢false ab)
lists_tell (s ∷ ss) [] ab ba = absurd (true≢false ba)
lists_tell (s ∷ ss) (t ∷ ts) ab ba = by_test (is_same s t) refl (lists_tell ss ts)
  where
    by_test : (b : Bool) → is_same s t ≡ b → (are_lower ss ts ≡ false → are_lower ts ss ≡ false → ss ≡ ts) → s ∷ ss ≡ t ∷ ts
    by_test true e more =
        ap₂ (λ (x : Segment) (xs : List Segment). x ∷ xs) (same_segment s t e)
        (more (sym (agree s t ss ts e) ∙ ab) (sym (agree t s ts ss (same_back s t e)) ∙ ba))
    by_test false e more =
        let one = segments_strict.tells s t (sym (differ s t ss ts e) ∙ ab) (sym (differ t s ts ss (apart_back s t e)) ∙ ba) in
        absurd (true≢false (sym (ap (λ (x : Segment). is_same x t) one ∙ is_same-refl t) ∙ e))

-- a list that stands before another isn't the same
pub lists_differ : (a b : List Segment) → are_lower a b ≡ true → ¬ (a ≡ b)
lists_differ a b low e = true≢false (sym low ∙ (ap (λ (x : List Segment). are_lower x b) e ∙ (ap (are_lower b) (sym e) ∙ lists_one_way a b low)))

lists_strict : Strict are_lower (λ a b. a ≡ b)
lists_strict = record { one_way = lists_one_way; goes_on = lists_go_on; tells = lists_tell }

-- ---- trips

pub trips_strict : (r : RunsView) → Strict (stands_before r) (λ a b. a ≡ b)
trips_strict r =
    let by_length = number_first (λ (t : List Segment). length t) are_lower (λ a b. a ≡ b) lists_strict in
    let by_departure = greater_first (first_departure r) (by_number (λ (t : List Segment). length t) are_lower) (λ a b. (length a ≡ length b) × (a ≡ b)) by_length in
    let by_arrival = number_first (last_arrival r) (by_greater (first_departure r) (by_number (λ (t : List Segment). length t) are_lower))
    (λ a b. (first_departure r b ≡ first_departure r a) × ((length a ≡ length b) × (a ≡ b))) by_departure in
    weaker (stands_before r) (λ a b. (last_arrival r a ≡ last_arrival r b) × ((first_departure r b ≡ first_departure r a) × ((length a ≡ length b) × (a ≡ b))))
    (λ a b. a ≡ b) (λ a b all. all.1.1.1) by_arrival

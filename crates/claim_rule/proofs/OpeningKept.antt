-- What an opening keeps is the list that it was made of.
use Rattle.std.proofs.Common.{◌≡◌, ◌≢◌, ℕ, zero, suc, ◌+◌, ◌<◌, ◌≤◌, ⊎_elim, max, Bool, true, false, ◌&&◌, cond, nat_eq, List, [], ◌∷◌, map, filter_map, find, Option, Some, None, option_and_then, refl, sym, ap, ◌∙◌, arith}
use Rattle.std.specs.List.{AllByRecursion, cons_option, range_with_len}
use Rattle.std.proofs.lemmas.Bool.{eqb-true, eq-eqb, ne_eqb, cases_eq}
use Rattle.leg_masks.specs.Interval.{PlacedSpan as Item}
use Rattle.history_model.specs.declared.booking.End.{End}
use Rattle.history_model.specs.declared.phase.Phase.{Phase}
use Rattle.history_model.specs.declared.phase.Phase.TheVariants.{Free, Making, Prebooked, Confirmed, Fulfilled, Ending, Ended}
use Rattle.history_model.specs.Phase.{is_ended}
use Rattle.history_model.specs.Booking.{Booking, next_generation, stands_as, present}
use Rattle.history_model.specs.Laws.{IsInRange, IsSound, is_owners}
use Rattle.history_model.proofs.ListLemmas.{All-map, All-both, All-found, All-under_map}
use Rattle.history_model.proofs.Generations.{free_of_next, key_present}
use Rattle.claim_rule.specs.Openings.{KeptBooking, MayOpen, AreRising, HasOwnEnd, booked, end_in, kept_as, kept_bookings, kept_in, kept_of_row, layout_with, opening_booking, opening_of, placed}

abbrev pub at_row : ℕ → KeptBooking → Bool
at_row row k = nat_eq k.row row

-- the one of the row
abbrev pub kept_at : List KeptBooking → ℕ → Option KeptBooking
kept_at kept row = find (at_row row) kept

-- rows past a number

none_past : (kept : List KeptBooking) (row : ℕ) → AllByRecursion (λ k. row < k.row) kept → kept_at kept row ≡ None
none_past [] row past = refl
none_past (k ∷ ks) row past = let other = ne_eqb k.row row (λ e. let p = past.0 in omega (arith, p, e)) in
    ap (λ t. cond t (Some k) (kept_at ks row)) other ∙ none_past ks row past.1

next_past : (kept : List KeptBooking) (row : ℕ) → AllByRecursion (λ k. row < k.row) kept → next_generation (opening_of kept) row ≡ 0
next_past [] row past = refl
next_past (k ∷ ks) row past = let other = ne_eqb k.row row (λ e. let p = past.0 in omega (arith, p, e)) in
    let rest = next_past ks row past.1 in
    ap (λ t. max (cond t (k.generation + 1) 0) (next_generation (opening_of ks) row)) other ∙ omega (arith, rest)

-- the booking of a row

next_of : Option KeptBooking → ℕ
next_of None = 0
next_of (Some k) = k.generation + 1

next_at : (kept : List KeptBooking) (row : ℕ) → AreRising kept → next_generation (opening_of kept) row ≡ next_of (kept_at kept row)
unfolding next_of
next_at [] row rising = refl
next_at (k ∷ ks) row rising = go (next_at ks row rising.1) (nat_eq k.row row) refl
  where
    go : next_generation (opening_of ks) row ≡ next_of (kept_at ks row) → (t : Bool) → nat_eq k.row row ≡ t → max (cond t (k.generation + 1) 0) (next_generation (opening_of ks) row) ≡ next_of (cond t (Some k) (kept_at ks row))
    go rest true e =
        let same = eqb-true k.row row e in
        let none = next_past ks row (All-map (λ j (p : k.row < j.row). let q : row < j.row = omega arith in q) ks rising.0) in omega (arith, none)
    go rest false e = let m : max 0 (next_generation (opening_of ks) row) ≡ next_generation (opening_of ks) row = omega arith in m ∙ rest

booking_found : (kept : List KeptBooking) (row : ℕ) (k : KeptBooking) → kept_at kept row ≡ Some k → find (stands_as row k.generation) (opening_of kept) ≡ Some (opening_booking k)
booking_found [] row k e = absurd (let none : ◌≡◌ {A = Option KeptBooking} None (Some k) = e in cc)
booking_found (x ∷ xs) row k e = go (booking_found xs row k) (nat_eq x.row row) e
  where
    go : (kept_at xs row ≡ Some k → find (stands_as row k.generation) (opening_of xs) ≡ Some (opening_booking k)) → (t : Bool) → cond t (Some x) (kept_at xs row) ≡ Some k → cond (t && nat_eq x.generation k.generation) (Some (opening_booking x)) (find (stands_as row k.generation) (opening_of xs)) ≡ Some (opening_booking k)
    go rest true f =
        let same : x ≡ k = cc in
        ap (λ t. cond t (Some (opening_booking x)) (find (stands_as row k.generation) (opening_of xs))) (eq-eqb x.generation k.generation (ap (λ (y : KeptBooking). y.generation) same))
        ∙ ap (λ (y : KeptBooking). Some (opening_booking y)) same
    go rest false f = rest f

pub present_found : (kept : List KeptBooking) (row : ℕ) (k : KeptBooking) → AreRising kept → kept_at kept row ≡ Some k → present (opening_of kept) row ≡ Some (opening_booking k)
unfolding next_of
present_found kept row k rising e =
    key_present (opening_of kept) row k.generation (opening_booking k) (next_at kept row rising ∙ ap next_of e) (booking_found kept row k e)

pub present_none : (kept : List KeptBooking) (row : ℕ) → AreRising kept → kept_at kept row ≡ None → present (opening_of kept) row ≡ None
unfolding next_of
present_none kept row rising e = free_of_next (opening_of kept) row (next_at kept row rising ∙ ap next_of e)

-- a rising list is read row by row

-- the rows from one on, as many as this
abbrev pub Within : ℕ → ℕ → KeptBooking → Type 0
Within from len k = (from ≤ k.row) × (k.row < from + len)

abbrev pub Agrees : (ℕ → Option KeptBooking) → List KeptBooking → ℕ → ℕ → Type 0
Agrees f kept from len = (row : ℕ) → from ≤ row → row < from + len → f row ≡ kept_at kept row

past_first : (k : KeptBooking) (ks : List KeptBooking) (from len : ℕ) → AllByRecursion (λ j. k.row < j.row) ks → AllByRecursion (Within from (suc len)) ks → from ≤ k.row → AllByRecursion (Within (from + 1) len) ks
past_first k ks from len rising within low =
    All-both {P = λ j. k.row < j.row} {Q = Within from (suc len)} (λ j p q. let a : j.row < from + suc len = q.1 in (let b : from + 1 ≤ j.row = omega arith in b, let c : j.row < from + 1 + len = omega arith in c)) ks rising within

read_none : (f : ℕ → Option KeptBooking) (kept : List KeptBooking) (from len : ℕ) → f from ≡ None → filter_map f (range_with_len (from + 1) len) ≡ kept → filter_map f (range_with_len from (suc len)) ≡ kept
read_none f kept from len none rest = ap (λ o. cons_option o (filter_map f (range_with_len (from + 1) len))) none ∙ rest

read_some : (f : ℕ → Option KeptBooking) (k : KeptBooking) (ks : List KeptBooking) (from len : ℕ) → f from ≡ Some k → filter_map f (range_with_len (from + 1) len) ≡ ks → filter_map f (range_with_len from (suc len)) ≡ k ∷ ks
read_some f k ks from len some rest = ap (λ o. cons_option o (filter_map f (range_with_len (from + 1) len))) some ∙ ap (λ xs. k ∷ xs) rest

read_step : (f : ℕ → Option KeptBooking) (k : KeptBooking) (ks : List KeptBooking) (from len : ℕ) → AreRising (k ∷ ks) → AllByRecursion (Within from (suc len)) (k ∷ ks) → Agrees f (k ∷ ks) from (suc len)
    → (AllByRecursion (Within (from + 1) len) ks → Agrees f ks (from + 1) len → filter_map f (range_with_len (from + 1) len) ≡ ks)
    → (AllByRecursion (Within (from + 1) len) (k ∷ ks) → Agrees f (k ∷ ks) (from + 1) len → filter_map f (range_with_len (from + 1) len) ≡ k ∷ ks)
    → filter_map f (range_with_len from (suc len)) ≡ k ∷ ks
read_step f k ks from len rising within same without with_it = ⊎_elim here later (cases_eq k.row from)
  where
    low : from ≤ k.row
    low = within.0.0

    tail : AllByRecursion (Within (from + 1) len) ks
    tail = past_first k ks from len rising.0 within.1 low

    here : k.row ≡ from → filter_map f (range_with_len from (suc len)) ≡ k ∷ ks
    here e =
        let first : kept_at (k ∷ ks) from ≡ Some k = ap (λ t. cond t (Some k) (kept_at ks from)) (eq-eqb k.row from e) in
        read_some f k ks from len (same from (omega arith) (omega arith) ∙ first)
        (without tail (λ row lo hi. same row (omega arith) (omega arith) ∙ ap (λ t. cond t (Some k) (kept_at ks row)) (ne_eqb k.row row (λ (d : k.row ≡ row). omega arith))))

    later : (k.row ≡ from → ⊥) → filter_map f (range_with_len from (suc len)) ≡ k ∷ ks
    later other =
        let l = low in
        let above : from < k.row = omega (arith, l, other) in
        let most : k.row < from + suc len = within.0.1 in
        let none : kept_at (k ∷ ks) from ≡ None = none_past (k ∷ ks) from (above, All-map (λ j (p : k.row < j.row). let q : from < j.row = omega arith in q) ks rising.0) in
        read_none f (k ∷ ks) from len (same from (omega arith) (omega arith) ∙ none)
        (with_it ((let a : from + 1 ≤ k.row = omega arith in a, let b : k.row < from + 1 + len = omega arith in b), tail) (λ row lo hi. same row (omega arith) (omega arith)))

pub rising_read : (f : ℕ → Option KeptBooking) (kept : List KeptBooking) (from len : ℕ) → AreRising kept → AllByRecursion (Within from len) kept → Agrees f kept from len → filter_map f (range_with_len from len) ≡ kept
rising_read f [] from zero rising within same = refl
rising_read f (k ∷ ks) from zero rising within same = absurd (let w = within.0.0 in let v = within.0.1 in omega (arith, w, v))
rising_read f [] from (suc len) rising within same =
    read_none f [] from len (same from (omega arith) (omega arith)) (rising_read f [] (from + 1) len tt tt (λ row lo hi. same row (omega arith) (omega arith)))
rising_read f (k ∷ ks) from (suc len) rising within same =
    read_step f k ks from len rising within same (λ w s. rising_read f ks (from + 1) len rising.1 w s) (λ w s. rising_read f (k ∷ ks) (from + 1) len rising w s)

-- what is kept of a booking that opens

items_back : (given : Bool) (items : List Item) → map placed (map (booked given) items) ≡ items
items_back given [] = refl
items_back given (i ∷ is) = ap (λ js. i ∷ js) (items_back given is)

end_twice : (ph : Phase) (e : End) → end_in ph (end_in ph e) ≡ end_in ph e
end_twice Free e = refl
end_twice Making e = refl
end_twice Prebooked e = refl
end_twice Confirmed e = refl
end_twice Fulfilled e = refl
end_twice (Ending kind) e = refl
end_twice (Ended kind) e = refl

kept_same : (k : KeptBooking) → HasOwnEnd k → kept_as (opening_booking k) ≡ k
kept_same k own = λ i. record {
  row = k.row;
  generation = k.generation;
  phase = k.phase;
  retailer = k.retailer;
  limit = k.limit;
  total = k.total;
  items = items_back (is_ended k.phase) k.items i;
  end = (end_twice k.phase k.end ∙ sym own) i;
}

-- settled, and started
abbrev pub IsSettled : Phase → Type 0
IsSettled ph = (ph ≢ Free) × (is_owners ph ≡ false)

kept_settled : (ph : Phase) (b : Booking) → IsSettled ph → kept_in ph b ≡ Some (kept_as b)
kept_settled Free b s = absurd (s.0 refl)
kept_settled Making b s = absurd (let no : true ≡ false = s.1 in cc)
kept_settled Prebooked b s = refl
kept_settled Confirmed b s = refl
kept_settled Fulfilled b s = refl
kept_settled (Ending kind) b s = absurd (let no : true ≡ false = s.1 in cc)
kept_settled (Ended kind) b s = refl

pub all_settled : (legs : List ℕ) (rows : ℕ) (kept : List KeptBooking) → MayOpen legs rows kept → AllByRecursion (λ k. IsSettled k.phase) kept
all_settled legs rows kept may = All-both
    {P = λ k. IsSound (layout_with legs rows kept) (opening_booking k)} (λ k sound settled. (sound.started, settled)) kept
    (All-under_map (IsSound (layout_with legs rows kept)) opening_booking kept may.opening.well_formed.each)
    (All-under_map (λ (b : Booking). is_owners b.phase ≡ false) opening_booking kept may.opening.settled)

row_kept : (legs : List ℕ) (rows : ℕ) (kept : List KeptBooking) → MayOpen legs rows kept → (row : ℕ) → kept_of_row (opening_of kept) row ≡ kept_at kept row
row_kept legs rows kept may row = go (kept_at kept row) refl
  where
    go : (o : Option KeptBooking) → kept_at kept row ≡ o → kept_of_row (opening_of kept) row ≡ kept_at kept row
    go None e = ap (option_and_then (λ (b : Booking). kept_in b.phase b)) (present_none kept row may.rising e) ∙ sym e
    go (Some k) e =
        let settled = All-found (λ k. IsSettled k.phase) (at_row row) kept k e (all_settled legs rows kept may) in
        let own = All-found HasOwnEnd (at_row row) kept k e may.ends in
        ap (option_and_then (λ (b : Booking). kept_in b.phase b)) (present_found kept row k may.rising e)
        ∙ (kept_settled k.phase (opening_booking k) settled ∙ (ap Some (kept_same k own) ∙ sym e))

pub rows_within : (legs : List ℕ) (rows : ℕ) (kept : List KeptBooking) → MayOpen legs rows kept → AllByRecursion (Within 0 rows) kept
rows_within legs rows kept may =
    All-map {P = λ k. IsInRange (layout_with legs rows kept) (opening_booking k)} (λ k range. (let lo : 0 ≤ k.row = omega arith in lo, let r = range.row in let hi : k.row < 0 + rows = omega arith in hi)) kept
    (All-under_map (IsInRange (layout_with legs rows kept)) opening_booking kept may.opening.in_range)

pub kept_back : (legs : List ℕ) (rows : ℕ) (kept : List KeptBooking) → MayOpen legs rows kept → kept_bookings rows (opening_of kept) ≡ kept
kept_back legs rows kept may = rising_read (kept_of_row (opening_of kept)) kept 0 rows may.rising (rows_within legs rows kept may) (λ row lo hi. row_kept legs rows kept may row)

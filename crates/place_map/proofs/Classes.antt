-- The numbers of the places of a class, and those of a run among them.
use Rattle.std.proofs.Common.{◌≡◌, ℕ, zero, suc, ◌+◌, ◌-◌, ◌<◌, ◌≤◌, ◌⊎◌, inl, inr, ◌==◌, ◌&&◌, Bool, true, false, List, [], ◌∷◌, ◌++◌, length, take, drop, get_or, nat_lt, nat_le, ltb, if◌then◌else◌, refl, sym, ap, ◌∙◌, arith, append-nil, length-drop}
use Rattle.std.specs.Prelude.{All, bit_and}
use Rattle.std.specs.List.{filter, AllByRecursion}
use Rattle.std.specs.Int.Bits.{and_zero_r}
use Rattle.std.specs.List.Sorted.{IsPartitionPoint, IsPartitionedBy}
use Rattle.std.proofs.lemmas.Bool.Decides.{nat_tests}
use Rattle.std.proofs.lemmas.List.{get_or-drop, get_or_default}
use Rattle.std.proofs.lemmas.List.Elements.{All-nil, All-cons, All-head, All-tail, All-append}
use Rattle.std.proofs.lemmas.Option.{slice_get_within}
use Rattle.rail_ids.specs.declared.PlaceNo.{PlaceNo}
use Rattle.place_map.specs.declared.coach.Class.{Class}
use Rattle.place_map.specs.declared.coach.Class.TheVariants.{First, Second}
use Rattle.place_map.specs.declared.coach.Place.{Place}
use Rattle.place_map.specs.Seats.{Seats}
use Rattle.place_map.specs.Places.{run_number, places_from, group_size, coach_places}
use Rattle.place_map.specs.Candidates.{is_class, is_candidate, is_of_class, class_places_of, numbers_of, candidates_of, IsOfRun, AreRising}
use Rattle.place_map.specs.ByClass.{ByClass, with_numbers, numbers_up, is_between, AreByClass, no_place, has_traits}
use Rattle.place_map.proofs.Numbers.{numbers_of-none}
use Rattle.place_map.proofs.OwnPlaces.{filter_skip, filter_front}

-- rising numbers

from_least : (least : ℕ) (ns : List PlaceNo) → AreRising least ns → (i : ℕ) (d : PlaceNo) → i < length ns → least ≤ (get_or ns i d).0
from_least least [] h i d small = absurd (omega (arith, small))
from_least least (n ∷ ns) h zero d small = h.0
from_least least (n ∷ ns) h (suc i) d small = let low = from_least (n.0 + 1) ns h.1 i d (omega (arith, small)) in omega (arith, low, h.0)

numbers_up_to : (least : ℕ) (ns : List PlaceNo) → AreRising least ns → (i j : ℕ) (d : PlaceNo) → i ≤ j → j < length ns → (get_or ns i d).0 ≤ (get_or ns j d).0
numbers_up_to least [] h i j d le small = absurd (omega (arith, small))
numbers_up_to least (n ∷ ns) h zero zero d le small = omega arith
numbers_up_to least (n ∷ ns) h zero (suc j) d le small = let low = from_least (n.0 + 1) ns h.1 j d (omega (arith, small)) in omega (arith, low)
numbers_up_to least (n ∷ ns) h (suc i) zero d le small = absurd (omega (arith, le))
numbers_up_to least (n ∷ ns) h (suc i) (suc j) d le small = numbers_up_to (n.0 + 1) ns h.1 i j d (omega (arith, le)) (omega (arith, small))

pub split_by_number : (ns : List PlaceNo) (t : ℕ) → AreRising 0 ns → IsPartitionedBy (λ (n : PlaceNo). ltb n.0 t) ns
split_by_number ns t h i j d le small passes = let rise = numbers_up_to 0 ns h i j d le small in grind (arith, nat_tests)

pub rest_splits : (ns : List PlaceNo) (p t : ℕ) → AreRising 0 ns → IsPartitionedBy (λ (n : PlaceNo). ltb n.0 t) (drop p ns)
rest_splits ns p t h i j d le small passes =
    let size = length-drop p ns in
    let a = get_or-drop p ns i d in
    let b = get_or-drop p ns j d in
    ap (λ (n : PlaceNo). ltb n.0 t) a ∙ split_by_number ns t h (p + i) (p + j) d (omega (arith, le)) (omega (arith, small, size)) (sym (ap (λ (n : PlaceNo). ltb n.0 t) b) ∙ passes)

below_first : (first end a : ℕ) → ltb a first ≡ true → (nat_le first a && nat_lt a end) ≡ false
below_first first end a h = grind (arith, nat_tests)

past_end : (first end a : ℕ) → ltb a end ≡ false → (nat_le first a && nat_lt a end) ≡ false
past_end first end a h = grind (arith, nat_tests)

inside : (first end a : ℕ) → ltb a first ≡ false → ltb a end ≡ true → (nat_le first a && nat_lt a end) ≡ true
inside first end a h k = grind (arith, nat_tests)

-- what lies between two partition points
pub between_is : (ns rest : List PlaceNo) (first end p q : ℕ) → rest ≡ drop p ns → IsPartitionPoint (λ n. ltb n.0 first ≡ true) (λ n. ltb n.0 first ≡ false) ns p → IsPartitionPoint (λ n. ltb n.0 end ≡ true) (λ n. ltb n.0 end ≡ false) rest q
    → take q rest ≡ filter (is_between first end) ns
between_is ns rest first end p q is before after =
    let long : length rest ≡ length ns - p = ap length is ∙ length-drop p ns in
    let reads : (i : ℕ) (d : PlaceNo) → get_or rest i d ≡ get_or ns (p + i) d = λ i d. ap (λ (l : List PlaceNo). get_or l i d) is ∙ get_or-drop p ns i d in
    let not_before : (i : ℕ) (d : PlaceNo) → i < length rest → ltb (get_or rest i d).0 first ≡ false =
    λ i d within. ap (λ (n : PlaceNo). ltb n.0 first) (reads i d) ∙ before.1 (p + i) d (omega arith) (omega (arith, within, long)) in
    filter_front (is_between first end) q rest
    (λ i d small within. inside first end (get_or rest i d).0 (not_before i d within) (after.0 i d (omega arith) small))
    (λ i d from small. past_end first end (get_or rest i d).0 (after.1 i d from small))
    ∙ ap (λ (l : List PlaceNo). filter (is_between first end) l) is
    ∙ filter_skip (is_between first end) p ns (λ i d small within. below_first first end (get_or ns i d).0 (before.0 i d (omega arith) small))

-- a test of numbers that is one of places

numbers_filter : (w : PlaceNo → Bool) (q passes : Place → Bool) (k : ℕ) (places : List Place) → ((i : ℕ) (d : Place) → i < length places → w (record { 0 = k + i }) ≡ q (get_or places i d))
    → filter w (numbers_of passes k places) ≡ numbers_of (λ p. q p && passes p) k places
numbers_filter w q passes k [] h = refl
numbers_filter w q passes k (p ∷ places) h =
    let later = numbers_filter w q passes (k + 1) places (λ i d small. let e : k + 1 + i ≡ k + suc i = omega arith in ap (λ (m : ℕ). w (record { 0 = m })) e ∙ h (suc i) d (omega (arith, small))) in
    let here : w (record { 0 = k }) ≡ q p = let e : k ≡ k + 0 = omega arith in ap (λ (m : ℕ). w (record { 0 = m })) e ∙ h 0 p (omega arith) in
    two (passes p) (q p) (numbers_of passes (k + 1) places) (numbers_of (λ p. q p && passes p) (k + 1) places) here later
  where
    two : (b c : Bool) (old new : List PlaceNo) → w (record { 0 = k }) ≡ c → filter w old ≡ new → filter w (if b then (record { 0 = k }) ∷ old else old) ≡ (if c && b then (record { 0 = k }) ∷ new else new)
    two true true old new e later = rw e (ap (λ (l : List PlaceNo). (record { 0 = k }) ∷ l) later)
    two true false old new e later = rw e later
    two false true old new e later = later
    two false false old new e later = later

numbers_agree : (p q : Place → Bool) → ((x : Place) → p x ≡ q x) → (k : ℕ) (places : List Place) → numbers_of p k places ≡ numbers_of q k places
numbers_agree p q same k [] = refl
numbers_agree p q same k (x ∷ places) =
    ap (λ (b : Bool). if b then (record { 0 = k }) ∷ numbers_of p (k + 1) places else numbers_of p (k + 1) places) (same x)
    ∙ ap (λ (l : List PlaceNo). if q x then (record { 0 = k }) ∷ l else l) (numbers_agree p q same (k + 1) places)

le_or_lt : (a b : ℕ) → (a ≤ b) ⊎ (b < a)
le_or_lt zero b = inl (omega arith)
le_or_lt (suc a) zero = inr (omega arith)
le_or_lt (suc a) (suc b) = next (le_or_lt a b)
  where
    next : (a ≤ b) ⊎ (b < a) → (suc a ≤ suc b) ⊎ (suc b < suc a)
    next (inl l) = inl (omega (arith, l))
    next (inr l) = inr (omega (arith, l))

of_earlier : (first end i a run : ℕ) → i < first → nat_lt a run ≡ true → (nat_le first i && nat_lt i end) ≡ (a == run)
of_earlier first end i a run l h = let e : (a == run) ≡ false = grind (arith, nat_tests) in let f : (nat_le first i && nat_lt i end) ≡ false = grind (arith, nat_tests) in f ∙ sym e

of_later : (first end i a run : ℕ) → end ≤ i → nat_le a run ≡ false → (nat_le first i && nat_lt i end) ≡ (a == run)
of_later first end i a run l h = let e : (a == run) ≡ false = grind (arith, nat_tests) in let f : (nat_le first i && nat_lt i end) ≡ false = grind (arith, nat_tests) in f ∙ sym e

of_own : (first end i a run : ℕ) → first ≤ i → i < end → nat_lt a run ≡ false → nat_le a run ≡ true → (nat_le first i && nat_lt i end) ≡ (a == run)
of_own first end i a run l m h k = let e : (a == run) ≡ true = grind (arith, nat_tests) in let f : (nat_le first i && nat_lt i end) ≡ true = grind (arith, nat_tests) in f ∙ sym e

-- the places of the run are those with a number between its first and the next run's
run_between : (run first n : ℕ) (places rest : List Place) → rest ≡ drop first places → first ≤ length places
    → IsPartitionPoint (λ p. nat_lt (run_number p) run ≡ true) (λ p. nat_lt (run_number p) run ≡ false) places first
    → IsPartitionPoint (λ p. nat_le (run_number p) run ≡ true) (λ p. nat_le (run_number p) run ≡ false) rest n
    → (i : ℕ) (d : Place) → i < length places → is_between first (first + n) (record { 0 = 0 + i }) ≡ (run_number (get_or places i d) == run)
run_between run first n places rest is fits before after i d small =
    let e : 0 + i ≡ i = omega arith in
    ap (λ (m : ℕ). is_between first (first + n) (record { 0 = m })) e ∙ by_first (le_or_lt first i)
  where
    reads : first ≤ i → get_or rest (i - first) d ≡ get_or places i d
    reads le = let e : first + (i - first) ≡ i = omega (arith, le) in ap (λ (l : List Place). get_or l (i - first) d) is ∙ get_or-drop first places (i - first) d ∙ ap (λ (m : ℕ). get_or places m d) e

    size : length rest ≡ length places - first
    size = ap length is ∙ length-drop first places

    by_end : first ≤ i → ((first + n) ≤ i) ⊎ (i < (first + n)) → is_between first (first + n) (record { 0 = i }) ≡ (run_number (get_or places i d) == run)
    by_end le (inl past) = of_later first (first + n) i (run_number (get_or places i d)) run past (ap (λ (p : Place). nat_le (run_number p) run) (sym (reads le)) ∙ after.1 (i - first) d (omega (arith, past)) (omega (arith, small, size, le)))
    by_end le (inr within) = of_own first (first + n) i (run_number (get_or places i d)) run le within (before.1 i d le small)
        (ap (λ (p : Place). nat_le (run_number p) run) (sym (reads le)) ∙ after.0 (i - first) d (omega arith) (omega (arith, within, le)))

    by_first : (first ≤ i) ⊎ (i < first) → is_between first (first + n) (record { 0 = i }) ≡ (run_number (get_or places i d) == run)
    by_first (inl le) = by_end le (le_or_lt (first + n) i)
    by_first (inr less) = of_earlier first (first + n) i (run_number (get_or places i d)) run less (before.0 i d (omega arith) less)

pub class_places_is : (run first n : ℕ) (class : Class) (places rest : List Place) (numbers : List PlaceNo) → rest ≡ drop first places → first ≤ length places
    → IsPartitionPoint (λ p. nat_lt (run_number p) run ≡ true) (λ p. nat_lt (run_number p) run ≡ false) places first
    → IsPartitionPoint (λ p. nat_le (run_number p) run ≡ true) (λ p. nat_le (run_number p) run ≡ false) rest n
    → numbers ≡ numbers_of (λ p. is_class p.class class) 0 places → filter (is_between first (first + n)) numbers ≡ class_places_of run class places
class_places_is run first n class places rest numbers is fits before after all =
    ap (λ (l : List PlaceNo). filter (is_between first (first + n)) l) all
    ∙ numbers_filter (is_between first (first + n)) (λ p. run_number p == run) (λ p. is_class p.class class) 0 places (run_between run first n places rest is fits before after)

and_true : (b : Bool) → b ≡ (b && true)
and_true true = refl
and_true false = refl

untraited : (run : ℕ) (class : Class) (p : Place) → is_of_class run class p ≡ is_candidate run class 0 p
untraited run class p = ap (λ (b : Bool). p.run.0 == run && b) (and_true (is_class p.class class) ∙ ap (λ (b : Bool). is_class p.class class && b) none)
  where
    none : true ≡ (bit_and p.traits 0 == 0)
    none = ap (λ (n : ℕ). n == 0) (sym (and_zero_r p.traits))

-- without wanted traits the candidates are the places of the class
pub class_places_untraited : (run : ℕ) (class : Class) (places : List Place) → class_places_of run class places ≡ candidates_of run class 0 places
class_places_untraited run class places = numbers_agree (is_of_class run class) (is_candidate run class 0) (untraited run class) 0 places

and_last : (t r c : Bool) → (t && (r && c)) ≡ (r && (c && t))
and_last true true true = refl
and_last true true false = refl
and_last true false c = refl
and_last false true true = refl
and_last false true false = refl
and_last false false c = refl

-- those of them with the wanted traits are the candidates
pub with_traits_is : (run : ℕ) (class : Class) (wanted : ℕ) (places : List Place) → filter (has_traits wanted places) (class_places_of run class places) ≡ candidates_of run class wanted places
with_traits_is run class wanted places =
    numbers_filter (has_traits wanted places) traits (is_of_class run class) 0 places
    (λ i d small. let e : 0 + i ≡ i = omega arith in ap (λ (m : ℕ). traits (get_or places m no_place)) e ∙ ap traits (get_or_default places i no_place d small))
    ∙ numbers_agree (λ p. traits p && is_of_class run class p) (is_candidate run class wanted) (λ p. and_last (traits p) (p.run.0 == run) (is_class p.class class)) 0 places
  where
    traits : Place → Bool
    traits p = bit_and p.traits wanted == wanted

pub numbers_within : (run : ℕ) (places : List Place) (ns : List PlaceNo) → AllByRecursion (IsOfRun run places) ns → All (λ n. n.0 < length places) ns
numbers_within run places [] h = All-nil (λ n. n.0 < length places)
numbers_within run places (n ∷ ns) h = All-cons (λ n. n.0 < length places) n ns (slice_get_within places n.0 h.0.0 h.0.1) (numbers_within run places ns h.1)

-- further places

numbers_up_next : (from n : ℕ) → numbers_up from (suc n) ≡ numbers_up from n ++ (record { 0 = from + n }) ∷ []
numbers_up_next from zero = let e : from ≡ from + 0 = omega arith in ap (λ (m : ℕ). one m) e
  where
    one : ℕ → List PlaceNo
    one m = (record { 0 = m }) ∷ []
numbers_up_next from (suc n) = let e : from + 1 + n ≡ from + suc n = omega arith in
    ap (λ (l : List PlaceNo). (record { 0 = from }) ∷ l) (numbers_up_next (from + 1) n ∙ ap (λ (m : ℕ). numbers_up (from + 1) n ++ (record { 0 = m }) ∷ []) e)

pub numbers_up_more : (from n : ℕ) → numbers_up from (n + 1) ≡ numbers_up from n ++ (record { 0 = from + n }) ∷ []
numbers_up_more from n = let e : n + 1 ≡ suc n = omega arith in ap (numbers_up from) e ∙ numbers_up_next from n

numbers_of-append : (passes : Place → Bool) (k : ℕ) (xs ys : List Place) → numbers_of passes k (xs ++ ys) ≡ numbers_of passes k xs ++ numbers_of passes (k + length xs) ys
numbers_of-append passes k [] ys = let e : k ≡ k + 0 = omega arith in ap (λ (m : ℕ). numbers_of passes m ys) e
numbers_of-append passes k (x ∷ xs) ys =
    let later = numbers_of-append passes (k + 1) xs ys in
    let e : k + 1 + length xs ≡ k + suc (length xs) = omega arith in
    split (passes x) (numbers_of passes (k + 1) (xs ++ ys)) (numbers_of passes (k + 1) xs) (numbers_of passes (k + suc (length xs)) ys)
    (later ∙ ap (λ (m : ℕ). numbers_of passes (k + 1) xs ++ numbers_of passes m ys) e)
  where
    split : (b : Bool) (whole front back : List PlaceNo) → whole ≡ front ++ back → (if b then (record { 0 = k }) ∷ whole else whole) ≡ (if b then (record { 0 = k }) ∷ front else front) ++ back
    split true whole front back e = ap (λ (l : List PlaceNo). (record { 0 = k }) ∷ l) e
    split false whole front back e = e

numbers_of-all : (passes : Place → Bool) (k : ℕ) (places : List Place) → All (λ p. passes p ≡ true) places → numbers_of passes k places ≡ numbers_up k (length places)
numbers_of-all passes k [] h = refl
numbers_of-all passes k (p ∷ places) h =
    ap (λ (b : Bool). if b then (record { 0 = k }) ∷ numbers_of passes (k + 1) places else numbers_of passes (k + 1) places) (All-head (λ p. passes p ≡ true) p places h)
    ∙ ap (λ (l : List PlaceNo). (record { 0 = k }) ∷ l) (numbers_of-all passes (k + 1) places (All-tail (λ p. passes p ≡ true) p places h))

AreOfClass-places_from : (run coach : ℕ) (class : Class) (traits number n : ℕ) → All (λ p. p.class ≡ class) (places_from run coach class traits number n)
AreOfClass-places_from run coach class traits number zero = All-nil (λ p. p.class ≡ class)
AreOfClass-places_from run coach class traits number (suc n) = All-cons (λ p. p.class ≡ class) _ _ refl (AreOfClass-places_from run coach class traits (number + 1) n)

pub AreOfClass-coach_places : (run coach : ℕ) (class : Class) (groups : List Seats) → All (λ p. p.class ≡ class) (coach_places run coach class groups)
AreOfClass-coach_places run coach class [] = All-nil (λ p. p.class ≡ class)
AreOfClass-coach_places run coach class (g ∷ groups) =
    All-append (λ p. p.class ≡ class) _ _ (AreOfClass-places_from run coach class g.traits g.first (group_size g)) (AreOfClass-coach_places run coach class groups)

more_of : (class other : Class) (places fresh : List Place) (b : Bool) → All (λ p. p.class ≡ other) fresh → is_class other class ≡ b → numbers_of (λ p. is_class p.class class) 0 (places ++ fresh)
    ≡ numbers_of (λ p. is_class p.class class) 0 places ++ (if b then numbers_up (length places) (length fresh) else [])
more_of class other places fresh true of is =
    let e : 0 + length places ≡ length places = omega arith in
    numbers_of-append (λ p. is_class p.class class) 0 places fresh
    ∙ ap (λ (m : ℕ). numbers_of (λ p. is_class p.class class) 0 places ++ numbers_of (λ p. is_class p.class class) m fresh) e
    ∙ ap (λ (l : List PlaceNo). numbers_of (λ p. is_class p.class class) 0 places ++ l) (numbers_of-all (λ p. is_class p.class class) (length places) fresh (λ i d small. ap (λ (c : Class). is_class c class) (of i d small) ∙ is))
more_of class other places fresh false of is =
    numbers_of-append (λ p. is_class p.class class) 0 places fresh
    ∙ ap (λ (l : List PlaceNo). numbers_of (λ p. is_class p.class class) 0 places ++ l) (numbers_of-none (λ p. is_class p.class class) (0 + length places) fresh (λ i d small. ap (λ (c : Class). is_class c class) (of i d small) ∙ is))

-- the numbers of each class with those of further places, all of one class
pub by_class_more : (class : Class) (places fresh : List Place) (n : ByClass) → All (λ p. p.class ≡ class) fresh → AreByClass places n → AreByClass (places ++ fresh) (with_numbers class (numbers_up (length places) (length fresh)) n)
by_class_more First places fresh n of h First = ap (λ (l : List PlaceNo). l ++ numbers_up (length places) (length fresh)) (h First) ∙ sym (more_of First First places fresh true of refl)
by_class_more First places fresh n of h Second = h Second ∙ sym (append-nil _) ∙ sym (more_of Second First places fresh false of refl)
by_class_more Second places fresh n of h First = h First ∙ sym (append-nil _) ∙ sym (more_of First Second places fresh false of refl)
by_class_more Second places fresh n of h Second = ap (λ (l : List PlaceNo). l ++ numbers_up (length places) (length fresh)) (h Second) ∙ sym (more_of Second Second places fresh true of refl)

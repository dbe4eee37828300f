-- What a run's new places meet: only the run's own places, which stand last.
use Rattle.std.proofs.Common.{◌≡◌, ℕ, zero, suc, ◌+◌, ◌-◌, ◌<◌, ◌≤◌, ◌==◌, ◌&&◌, ◌||◌, Bool, true, false, List, [], ◌∷◌, ◌++◌, All, length, drop, get_or, cond, sum_by, min, nat_lt, if◌then◌else◌, Option, Some, refl, sym, ap, ap₂, ◌∙◌, arith, append_assoc, append-nil, length-append, length-drop, Err}
use Rattle.std.specs.List.Sorted.{IsPartitionPoint}
use Rattle.std.proofs.lemmas.Bool.Decides.{nat_tests}
use Rattle.std.proofs.lemmas.List.Elements.{All-nil, All-cons, All-head, All-tail, All-append, All-push, All-get_or}
use Rattle.std.proofs.lemmas.List.Concat.{flat_map-cons}
use Rattle.std.proofs.lemmas.List.Folds.{list_any-append}
use Rattle.std.proofs.lemmas.List.Sums.{sum_by-cons, sum_by-append}
use Rattle.std.proofs.lemmas.List.Sorted.{IsNonDecreasingBy-push}
use Rattle.place_map.specs.declared.coach.Class.{Class}
use Rattle.place_map.specs.declared.coach.Place.{Place}
use Rattle.place_map.specs.Seats.{Seats}
use Rattle.place_map.specs.declared.coach.PlaceFault.TheVariants.{TooManyPlaces}
use Rattle.place_map.specs.Places.{run_number, places_from, group_places, group_size, coach_places, is_same_place, has_place, first_repeat, count_in_run, are_too_many, unless_repeated, with_places, EndsWithRun, AreByRun}

abbrev pub AreOfRun : ℕ → List Place → Type 0
AreOfRun run places = All (λ p. run_number p ≡ run) places

AreOfRun-places_from : (run coach : ℕ) (class : Class) (traits number n : ℕ) → AreOfRun run (places_from run coach class traits number n)
AreOfRun-places_from run coach class traits number zero = All-nil _
AreOfRun-places_from run coach class traits number (suc n) = All-cons (λ p. run_number p ≡ run) _ _ refl (AreOfRun-places_from run coach class traits (number + 1) n)

pub AreOfRun-coach_places : (run coach : ℕ) (class : Class) (groups : List Seats) → AreOfRun run (coach_places run coach class groups)
AreOfRun-coach_places run coach class [] = All-nil _
AreOfRun-coach_places run coach class (g ∷ groups) =
    All-append (λ p. run_number p ≡ run) _ _ (AreOfRun-places_from run coach class g.traits g.first (group_size g)) (AreOfRun-coach_places run coach class groups)

length-places_from : (run coach : ℕ) (class : Class) (traits number n : ℕ) → length (places_from run coach class traits number n) ≡ n
length-places_from run coach class traits number zero = refl
length-places_from run coach class traits number (suc n) = let h = length-places_from run coach class traits (number + 1) n in omega arith

pub length-coach_places : (run coach : ℕ) (class : Class) (groups : List Seats) → length (coach_places run coach class groups) ≡ sum_by group_size groups
length-coach_places run coach class [] = refl
length-coach_places run coach class (g ∷ groups) =
    ap length (flat_map-cons (group_places run coach class) g groups)
    ∙ length-append (group_places run coach class g) (coach_places run coach class groups)
    ∙ ap₂ (λ (m n : ℕ). m + n) (length-places_from run coach class g.traits g.first (group_size g)) (length-coach_places run coach class groups)
    ∙ sym (sum_by-cons group_size g groups)

-- counting a run

is_run : (p : Place) (run : ℕ) → run_number p ≡ run → (run_number p == run) ≡ true
is_run p run e = grind (arith, nat_tests)

is_other : (p : Place) (run : ℕ) → (run_number p ≡ run → ⊥) → (run_number p == run) ≡ false
is_other p run e = grind (arith, nat_tests)

abbrev one_in_run : ℕ → Place → ℕ
one_in_run run p = cond (run_number p == run) 1 0

count-cons : (run : ℕ) (p : Place) (places : List Place) (b : Bool) → (run_number p == run) ≡ b → count_in_run run (p ∷ places) ≡ cond b 1 0 + count_in_run run places
count-cons run p places b e = sum_by-cons (one_in_run run) p places ∙ ap (λ (t : Bool). cond t 1 0 + count_in_run run places) e

count_in_run-whole : (run : ℕ) (places : List Place) → AreOfRun run places → count_in_run run places ≡ length places
count_in_run-whole run [] h = refl
count_in_run-whole run (p ∷ places) h =
    let rest = count_in_run-whole run places (All-tail (λ p. run_number p ≡ run) p places h) in
    count-cons run p places true (is_run p run (All-head (λ p. run_number p ≡ run) p places h)) ∙ omega (arith, rest)

count_in_run-append : (run : ℕ) (xs ys : List Place) → count_in_run run (xs ++ ys) ≡ count_in_run run xs + count_in_run run ys
count_in_run-append run xs ys = sum_by-append (one_in_run run) xs ys

-- a run's places stand last, from this one on
pub record StandLast (run first : ℕ) (places : List Place) : Type 0 where
  pub within : first ≤ length places
  pub earlier : (i : ℕ) (d : Place) → i < first → run_number (get_or places i d) ≡ run → ⊥
  pub last : (i : ℕ) (d : Place) → first ≤ i → i < length places → run_number (get_or places i d) ≡ run

pub StandLast-from_split : (run first : ℕ) (places : List Place) → first ≤ length places → EndsWithRun run places
    → IsPartitionPoint (λ p. nat_lt (run_number p) run ≡ true) (λ p. nat_lt (run_number p) run ≡ false) places first → StandLast run first places
StandLast-from_split run first places within ends split = record {
  within = within;
  earlier = λ i d small e. let below = split.0 i d (omega arith) small in grind (arith, nat_tests);
  last = λ i d from small. let above = split.1 i d from small in let most = ends i d small in grind (arith, nat_tests);
}

pub count_in_run-last : (run first : ℕ) (places : List Place) → StandLast run first places → count_in_run run places ≡ length places - first
count_in_run-last run first [] h = omega arith
count_in_run-last run zero (p ∷ places) h = count_in_run-whole run (p ∷ places) (λ i d small. h.last i d (omega arith) small) ∙ omega arith
count_in_run-last run (suc n) (p ∷ places) h =
    let rest = count_in_run-last run n places (record { within = omega (arith, h.within); earlier = λ i d small. h.earlier (suc i) d (omega arith); last = λ i d from small. h.last (suc i) d (omega arith) (omega arith) }) in
    count-cons run p places false (is_other p run (h.earlier 0 p (omega arith))) ∙ omega (arith, rest)

-- looking for a place of the run

has_place-cons : (q p : Place) (places : List Place) → (run_number q ≡ run_number p → ⊥) → has_place (q ∷ places) p ≡ has_place places p
has_place-cons q p places h =
    ap (λ (b : Bool). (b && (q.coach == p.coach && q.number == p.number)) || has_place places p) (is_other q (run_number p) h)

pub has_place-last : (run first : ℕ) (places : List Place) (p : Place) → run_number p ≡ run → ((i : ℕ) (d : Place) → i < first → run_number (get_or places i d) ≡ run → ⊥) → has_place (drop first places) p ≡ has_place places p
has_place-last run zero places p is h = refl
has_place-last run (suc n) [] p is h = refl
has_place-last run (suc n) (q ∷ places) p is h =
    has_place-last run n places p is (λ i d small. h (suc i) d (omega arith)) ∙ sym (has_place-cons q p places (λ e. h 0 q (omega arith) (e ∙ is)))

first_repeat-same : (run : ℕ) (few all fresh : List Place) → ((p : Place) → run_number p ≡ run → has_place few p ≡ has_place all p) → AreOfRun run fresh → first_repeat few fresh ≡ first_repeat all fresh
first_repeat-same run few all [] same of = refl
first_repeat-same run few all (p ∷ rest) same of =
    ap₂ (λ (b : Bool) (o : Option Place). if b then Some p else o) (same p (All-head (λ p. run_number p ≡ run) p rest of))
    (first_repeat-same run (few ++ p ∷ []) (all ++ p ∷ []) rest
    (λ q is. list_any-append (is_same_place q) few (p ∷ []) ∙ ap (λ (b : Bool). b || has_place (p ∷ []) q) (same q is) ∙ sym (list_any-append (is_same_place q) all (p ∷ [])))
    (All-tail (λ p. run_number p ≡ run) p rest of))

pub first_repeat-last : (run first : ℕ) (places fresh : List Place) → StandLast run first places → AreOfRun run fresh → first_repeat (drop first places) fresh ≡ first_repeat places fresh
first_repeat-last run first places fresh h of = first_repeat-same run (drop first places) places fresh (λ p is. has_place-last run first places p is h.earlier) of

-- the limits, by the sizes alone
pub are_too_many-sizes : (run first : ℕ) (places fresh : List Place) (more : ℕ) → StandLast run first places → AreOfRun run fresh → more ≡ min (length fresh) 4_194_305
    → are_too_many run (places ++ fresh) ≡ (nat_lt 1200 (length places - first + more) || nat_lt 4_194_304 (length places + more))
are_too_many-sizes run first places fresh more h of is =
    let run_count : count_in_run run (places ++ fresh) ≡ length places - first + length fresh =
    count_in_run-append run places fresh ∙ ap₂ (λ (m n : ℕ). m + n) (count_in_run-last run first places h) (count_in_run-whole run fresh of) in
    sizes (count_in_run run (places ++ fresh)) (length (places ++ fresh)) (length places - first) (length places) (length fresh) more run_count (length-append places fresh) is
  where
    sizes : (count all a b n m : ℕ) → count ≡ a + n → all ≡ b + n → m ≡ min n 4_194_305 → (nat_lt 1200 count || nat_lt 4_194_304 all) ≡ (nat_lt 1200 (a + m) || nat_lt 4_194_304 (b + m))
    sizes count all a b n m c l is = ap₂ (λ (x y : Bool). x || y) (one 1200 count a n m (omega arith) c is) (one 4_194_304 all b n m (omega arith) l is)
      where
        one : (t count a n m : ℕ) → t < 4_194_305 → count ≡ a + n → m ≡ min n 4_194_305 → nat_lt t count ≡ nat_lt t (a + m)
        one t count a n m small c is = grind (arith, nat_tests)

-- order

pub AreByRun-append : (run : ℕ) (places fresh : List Place) → AreByRun places → EndsWithRun run places → AreOfRun run fresh → AreByRun (places ++ fresh) × EndsWithRun run (places ++ fresh)
AreByRun-append run places [] by ends of = nothing_more places by ends
  where
    nothing_more : (places : List Place) → AreByRun places → EndsWithRun run places → AreByRun (places ++ []) × EndsWithRun run (places ++ [])
    nothing_more places by ends = rw (append-nil places) (by, ends)
AreByRun-append run places (p ∷ fresh) by ends of =
    let is = All-head (λ p. run_number p ≡ run) p fresh of in
    let step = AreByRun-append run (places ++ p ∷ []) fresh
    (IsNonDecreasingBy-push run_number places p by (λ d some. let low = All-get_or (λ p. run_number p ≤ run) places (length places - 1) d (omega arith) ends in omega (arith, is)))
    (All-push (λ p. run_number p ≤ run) places p ends (omega (arith, is)))
    (All-tail (λ p. run_number p ≡ run) p fresh of) in
    rw (sym (append_assoc places (p ∷ []) fresh)) step

-- the three answers

abbrev pub is_over : ℕ → ℕ → ℕ → Bool
is_over in_run in_all more = nat_lt 1200 (in_run + more) || nat_lt 4_194_304 (in_all + more)

limits : (run first more : ℕ) (places others fresh : List Place) → StandLast run first places → AreOfRun run fresh → others ≡ drop first places → more ≡ min (length fresh) 4_194_305
    → are_too_many run (places ++ fresh) ≡ is_over (length others) (length places) more
limits run first more places others fresh h of is size =
    are_too_many-sizes run first places fresh more h of size
    ∙ ap (λ (n : ℕ). is_over n (length places) more) (sym (ap length is ∙ length-drop first places))

pub too_many : (run first more : ℕ) (places others fresh : List Place) → StandLast run first places → AreOfRun run fresh → others ≡ drop first places → more ≡ min (length fresh) 4_194_305
    → is_over (length others) (length places) more ≡ true → with_places run places fresh ≡ Err TooManyPlaces
too_many run first more places others fresh h of is size over =
    ap (λ (b : Bool). if b then Err TooManyPlaces else unless_repeated places fresh (first_repeat places fresh)) (limits run first more places others fresh h of is size ∙ over)

pub repeated : (run first more : ℕ) (places others fresh : List Place) (o : Option Place) → StandLast run first places → AreOfRun run fresh → others ≡ drop first places → more ≡ min (length fresh) 4_194_305
    → is_over (length others) (length places) more ≡ false → first_repeat others fresh ≡ o → with_places run places fresh ≡ unless_repeated places fresh o
repeated run first more places others fresh o h of is size over found =
    ap (λ (b : Bool). if b then Err TooManyPlaces else unless_repeated places fresh (first_repeat places fresh)) (limits run first more places others fresh h of is size ∙ over)
    ∙ ap (λ (r : Option Place). unless_repeated places fresh r) (sym (first_repeat-last run first places fresh h of) ∙ ap (λ (l : List Place). first_repeat l fresh) (sym is) ∙ found)

pub within_all : (in_run in_all more size : ℕ) → more ≡ min size 4_194_305 → is_over in_run in_all more ≡ false → in_all + size ≤ 4_194_304
within_all in_run in_all more size is over = let both = or_parts (nat_lt 1200 (in_run + more)) (nat_lt 4_194_304 (in_all + more)) over in grind (arith, nat_tests)
  where
    or_parts : (a b : Bool) → (a || b) ≡ false → b ≡ false
    or_parts true b e = absurd cc
    or_parts false b e = e

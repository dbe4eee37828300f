-- The present booking of a row: the one of the highest generation.
use Rattle.std.proofs.Common.{◌≡◌, ◌≢◌, ℕ, ◌+◌, ◌-◌, ◌<◌, ◌≤◌, ⊎_elim, max, Bool, true, false, ◌&&◌, cond, nat_eq, List, [], ◌∷◌, ◌++◌, map, Option, Some, None, IsSomeAnd, refl, sym, ap, ◌∙◌, subst, arith}
use Rattle.std.specs.List.{AllByRecursion}
use Rattle.std.specs.Option.{option_or}
use Rattle.std.proofs.lemmas.List.{map-append}
use Rattle.std.proofs.lemmas.Bool.{eqb-false, eqb-true, eq-eqb, ne_eqb, cases_eq}
use Rattle.history_model.specs.Phase.{is_ended}
use Rattle.history_model.specs.Lists.{Pairwise, Across}
use Rattle.history_model.specs.Booking.{Booking, State, key_of, stands_as, booking_at, next_in, next_generation, stands_in, present, change}
use Rattle.history_model.specs.Allowed.{MayStart}
use Rattle.history_model.specs.Apply.{started}
use Rattle.history_model.specs.Laws.{IsPresentOrEnded}
use Rattle.history_model.proofs.ListLemmas.{All-map, All-under_map, All-append, All-found, Across-first, Pairwise-across, Pairwise-right, find_after, map-changed, find-changed, find-changed_other, find-push, none_passes, split}

pub and_both : (a b : Bool) → (a && b) ≡ true → (a ≡ true) × (b ≡ true)
and_both true b e = (refl, e)
and_both false b e = absurd cc

-- keys

pub key_of_test : (row generation : ℕ) (b : Booking) → stands_as row generation b ≡ true → (b.row ≡ row) × (b.generation ≡ generation)
key_of_test row generation b t =
    let both = and_both (nat_eq b.row row) (nat_eq b.generation generation) t in
    (eqb-true b.row row both.0, eqb-true b.generation generation both.1)

pub test_of_key : (row generation : ℕ) (b : Booking) → b.row ≡ row → b.generation ≡ generation → stands_as row generation b ≡ true
test_of_key row generation b r g = rw (eq-eqb b.row row r, eq-eqb b.generation generation g) refl

other_row : (row generation : ℕ) (b : Booking) → (b.row ≡ row → ⊥) → stands_as row generation b ≡ false
other_row row generation b n = rw (ne_eqb b.row row n) refl

other_generation : (row generation : ℕ) (b : Booking) → (b.generation ≡ generation → ⊥) → stands_as row generation b ≡ false
other_generation row generation b n = rw (ne_eqb b.generation generation n) (and_false (nat_eq b.row row))
  where
    and_false : (a : Bool) → (a && false) ≡ false
    and_false true = refl
    and_false false = refl

pub key_at : (s : State) (row generation : ℕ) (b : Booking) → booking_at s row generation ≡ Some b → (b.row ≡ row) × (b.generation ≡ generation)
key_at s row generation b e = key_of_test row generation b (split (stands_as row generation) s b e).passes

own_generation : (b : Booking) (ks : List (ℕ × ℕ)) → b.generation + 1 ≤ next_in (key_of b ∷ ks) b.row
own_generation b ks = rw (eq-eqb b.row b.row refl) (omega arith)

pub next_above : (s : State) → AllByRecursion (λ b. b.generation + 1 ≤ next_generation s b.row) s
next_above [] = tt
next_above (b ∷ bs) = (own_generation b (map key_of bs), All-map (λ c le. omega (arith, le)) bs (next_above bs))

pub generation_below : (s : State) (row generation : ℕ) (b : Booking) → booking_at s row generation ≡ Some b → generation + 1 ≤ next_generation s row
generation_below s row generation b e =
    let key = key_at s row generation b e in
    let above : b.generation + 1 ≤ next_generation s b.row = All-found (λ c. c.generation + 1 ≤ next_generation s c.row) (stands_as row generation) s b e (next_above s) in
    rw (← key.0, ← key.1) above

-- the present booking

pub present_latest : (s : State) (row : ℕ) (b : Booking) → present s row ≡ Some b → (b.row ≡ row) × (b.generation + 1 ≡ next_generation s row)
present_latest s row b e =
    let key = key_at s row (next_generation s row - 1) b e in
    let below = generation_below s row (next_generation s row - 1) b e in
    (key.0, (let g = key.1 in omega (arith, g, below)))

pub present_key : (s : State) (row : ℕ) (b : Booking) → present s row ≡ Some b → booking_at s row b.generation ≡ Some b
present_key s row b e =
    let latest = present_latest s row b e in
    let same : b.generation ≡ next_generation s row - 1 = let l = latest.1 in omega (arith, l) in
    ap (booking_at s row) same ∙ e

pub key_present : (s : State) (row generation : ℕ) (b : Booking) → next_generation s row ≡ generation + 1 → booking_at s row generation ≡ Some b → present s row ≡ Some b
key_present s row generation b next e =
    let same : next_generation s row - 1 ≡ generation = omega (arith, next) in
    ap (booking_at s row) same ∙ e

-- where none is of the highest generation, none stands in the row
none_step : (b : Booking) (row rest n : ℕ) (t : Bool) → 0 < n → max (cond t (b.generation + 1) 0) rest ≡ n → (t && nat_eq b.generation (n - 1)) ≡ false → (rest ≡ n → ⊥) → ⊥
none_step b row rest n true pos e fails other = let differs = eqb-false b.generation (n - 1) fails in omega (arith, differs, other)
none_step b row rest n false pos e fails other = other (omega arith)

none_next : (s : State) (row n : ℕ) → next_generation s row ≡ n → 0 < n → AllByRecursion (λ b. stands_as row (n - 1) b ≡ false) s → ⊥
none_next [] row n e pos all = omega arith
none_next (b ∷ bs) row n e pos all = none_step b row (next_generation bs row) n (nat_eq b.row row) pos e all.0 (λ same. none_next bs row n same pos all.1)

pub free_next : (s : State) (row : ℕ) → present s row ≡ None → next_generation s row ≡ 0
free_next s row free = ⊎_elim (λ z. z) (λ some. absurd (none_next s row (next_generation s row) refl (let p : 0 < next_generation s row = omega arith in p) (none_passes (stands_in s row) s free))) (cases_eq (next_generation s row) 0)

some_none : {X : Type 0} {x : X} → Some x ≡ None → ⊥
some_none e = cc

pub none_of_free : (s : State) (row generation : ℕ) → next_generation s row ≡ 0 → booking_at s row generation ≡ None
none_of_free s row generation zero = go (booking_at s row generation) refl
  where
    go : (o : Option Booking) → booking_at s row generation ≡ o → booking_at s row generation ≡ None
    go None e = e
    go (Some b) e = let below = generation_below s row generation b e in absurd (omega (arith, below, zero))

pub free_of_next : (s : State) (row : ℕ) → next_generation s row ≡ 0 → present s row ≡ None
free_of_next s row zero = none_of_free s row (next_generation s row - 1) zero

-- a booking that hasn't ended is its row's present one
pub unended_present : (s : State) (row generation : ℕ) (b : Booking) → AllByRecursion (IsPresentOrEnded (map key_of s)) s → booking_at s row generation ≡ Some b → is_ended b.phase ≡ false → present s row ≡ Some b
unended_present s row generation b earlier e unended =
    let key = key_at s row generation b e in
    let either : IsPresentOrEnded (map key_of s) b = All-found (IsPresentOrEnded (map key_of s)) (stands_as row generation) s b e earlier in
    ⊎_elim
    (λ (top : b.generation + 1 ≡ next_generation s b.row). key_present s row generation b (sym (rw (← key.0, ← key.1) top)) e)
    (λ (ended : is_ended b.phase ≡ true). absurd (let no : false ≡ true = sym unended ∙ ended in cc))
    either

-- each booking of the list stands there by its key

apart_before : (front : State) (row generation : ℕ) → Across (λ (j k : ℕ × ℕ). j ≢ k) (map key_of front) ((row, generation) ∷ []) → AllByRecursion (λ b. stands_as row generation b ≡ false) front
apart_before [] row generation across = tt
apart_before (b ∷ bs) row generation across = (
  ⊎_elim
      (λ (here : b.row ≡ row). other_generation row generation b (λ same. across.0.0 (λ i. (here i, same i))))
      (λ (other : b.row ≡ row → ⊥). other_row row generation b other)
      (cases_eq b.row row),
  apart_before bs row generation across.1,
)

pub stands_there : (s front : State) (b : Booking) (rest : State) → Pairwise (λ (j k : ℕ × ℕ). j ≢ k) (map key_of s) → s ≡ front ++ b ∷ rest → booking_at s b.row b.generation ≡ Some b
stands_there s front b rest keys is =
    let parts : Pairwise (λ (j k : ℕ × ℕ). j ≢ k) (map key_of front ++ key_of b ∷ map key_of rest) = rw (ap (map key_of) is ∙ map-append key_of front (b ∷ rest)) at keys in
    let across = Across-first (λ (j k : ℕ × ℕ). j ≢ k) (map key_of front) (key_of b ∷ []) (map key_of rest) (Pairwise-across (λ (j k : ℕ × ℕ). j ≢ k) (map key_of front) (key_of b ∷ map key_of rest) parts) in
    ap (λ (t : State). booking_at t b.row b.generation) is
    ∙ find_after (stands_as b.row b.generation) front b rest (apart_before front b.row b.generation across) (test_of_key b.row b.generation b refl refl)

-- bookings of one key are one
pub same_key : (s : State) (row : ℕ) (p : Booking) → present s row ≡ Some p → Pairwise (λ (j k : ℕ × ℕ). j ≢ k) (map key_of s) → AllByRecursion (λ b. b.row ≡ row → b.generation + 1 ≡ next_generation s row → b.phase ≡ p.phase) s
same_key s row p e keys =
    let at = split (stands_in s row) s p e in
    let latest = present_latest s row p e in
    let apart : Pairwise (λ (j k : ℕ × ℕ). j ≢ k) (map key_of at.before ++ key_of p ∷ map key_of at.after) = rw (ap (map key_of) at.is ∙ map-append key_of at.before (p ∷ at.after)) at keys in
    let later : AllByRecursion (λ (b : Booking). key_of p ≢ key_of b) at.after = All-under_map (λ (k : ℕ × ℕ). key_of p ≢ k) key_of at.after (Pairwise-right (λ (j k : ℕ × ℕ). j ≢ k) (map key_of at.before) (key_of p ∷ map key_of at.after) apart).0 in
    subst (λ (xs : List Booking). AllByRecursion (λ b. b.row ≡ row → b.generation + 1 ≡ next_generation s row → b.phase ≡ p.phase) xs) (sym at.is) (All-append (λ (b : Booking). b.row ≡ row → b.generation + 1 ≡ next_generation s row → b.phase ≡ p.phase) at.before (p ∷ at.after)
    (All-map (λ b no here top. absurd (let yes : stands_in s row b ≡ true = rw (eq-eqb b.row row here, eq-eqb b.generation (next_generation s row - 1) (omega arith)) refl in let bad : true ≡ false = sym yes ∙ no in cc)) at.before at.fails)
    (λ _ _. refl, All-map (λ b no here top. absurd (no (same_pair p.row p.generation b.row b.generation (latest.0 ∙ sym here) (let l = latest.1 in let g : p.generation ≡ b.generation = omega (arith, l, top) in g)))) at.after later))
  where
    same_pair : (a b c d : ℕ) → a ≡ c → b ≡ d → ◌≡◌ {A = ℕ × ℕ} (a, b) (c, d)
    same_pair a b c d e f = cc

-- a change of one booking

pub same_test : (q j : ℕ) (f : Booking → Booking) (x : Booking) → key_of (f x) ≡ key_of x → stands_as q j (f x) ≡ stands_as q j x
same_test q j f x same = ap (λ (k : ℕ × ℕ). nat_eq k.0 q && nat_eq k.1 j) same

pub next-changed : (s : State) (row q : ℕ) (f : Booking → Booking) → ((x : Booking) → key_of (f x) ≡ key_of x) → next_generation (change s row f) q ≡ next_generation s q
next-changed s row q f same = ap (λ (ks : List (ℕ × ℕ)). next_in ks q) (map-changed key_of (stands_in s row) f same s)

found-changed : (s : State) (row : ℕ) (f : Booking → Booking) (b : Booking) → ((x : Booking) → key_of (f x) ≡ key_of x) → present s row ≡ Some b → booking_at (change s row f) row (next_generation s row - 1) ≡ Some (f b)
found-changed s row f b same e = find-changed (stands_in s row) f (λ x. same_test row (next_generation s row - 1) f x (same x)) s b e

pub present-changed : (s : State) (row : ℕ) (f : Booking → Booking) (b : Booking) → ((x : Booking) → key_of (f x) ≡ key_of x) → present s row ≡ Some b → present (change s row f) row ≡ Some (f b)
present-changed s row f b same e = ap (λ (n : ℕ). booking_at (change s row f) row (n - 1)) (next-changed s row row f same) ∙ found-changed s row f b same e

-- the same, by the key
pub key-changed : (s : State) (row : ℕ) (f : Booking → Booking) (b : Booking) → ((x : Booking) → key_of (f x) ≡ key_of x) → present s row ≡ Some b → booking_at (change s row f) row b.generation ≡ Some (f b)
key-changed s row f b same e =
    let l = (present_latest s row b e).1 in
    let g : b.generation ≡ next_generation s row - 1 = omega (arith, l) in
    ap (booking_at (change s row f) row) g ∙ found-changed s row f b same e

pub key-changed_other : (s : State) (row q j : ℕ) (f : Booking → Booking) → ((x : Booking) → key_of (f x) ≡ key_of x) → (q ≡ row → j ≡ next_generation s row - 1 → ⊥) → booking_at (change s row f) q j ≡ booking_at s q j
key-changed_other s row q j f same other =
    find-changed_other (stands_in s row) (stands_as q j) f apart (λ x. same_test q j f x (same x)) s
  where
    apart : (x : Booking) → stands_in s row x ≡ true → stands_as q j x ≡ false
    apart x here =
        let key = key_of_test row (next_generation s row - 1) x here in
        ⊎_elim
        (λ (same_row : q ≡ row). other_generation q j x (λ e. other same_row (sym e ∙ key.1)))
        (λ (n : q ≡ row → ⊥). other_row q j x (λ e. n (sym e ∙ key.0)))
        (cases_eq q row)

pub present-changed_other : (s : State) (row q : ℕ) (f : Booking → Booking) → ((x : Booking) → key_of (f x) ≡ key_of x) → q ≢ row → present (change s row f) q ≡ present s q
present-changed_other s row q f same other =
    ap (λ (n : ℕ). booking_at (change s row f) q (n - 1)) (next-changed s row q f same) ∙ key-changed_other s row q (next_generation s q - 1) f same (λ e _. other e)

-- a start

pub next-push : (ks : List (ℕ × ℕ)) (k : ℕ × ℕ) (q : ℕ) → next_in (ks ++ k ∷ []) q ≡ max (next_in ks q) (cond (nat_eq k.0 q) (k.1 + 1) 0)
next-push [] k q = omega arith
next-push (j ∷ ks) k q = omega (arith, next-push ks k q)

pub next_of_start : (s : State) (row generation : ℕ) → MayStart s row generation → next_generation s row ≡ generation
next_of_start s row generation may = ⊎_elim
    (λ free. free_next s row free.1 ∙ sym free.0)
    (λ again. let f = on_row (present s row) again.1 in sym (present_latest s row f.0 f.1).1 ∙ sym f.2.1)
    may
  where
    on_row : (o : Option Booking) → IsSomeAnd o (λ b. (is_ended b.phase ≡ true) × (generation ≡ b.generation + 1)) → (b : Booking) × (o ≡ Some b) × ((is_ended b.phase ≡ true) × (generation ≡ b.generation + 1))
    on_row None h = absurd h
    on_row (Some b) h = (b, refl, h)

pub next-started : (s : State) (row generation desk : ℕ) (words : List ℕ) → next_generation s row ≡ generation → next_generation (s ++ started row generation desk words ∷ []) row ≡ generation + 1
next-started s row generation desk words next =
    ap (λ (ks : List (ℕ × ℕ)). next_in ks row) (map-append key_of s (started row generation desk words ∷ []))
    ∙ (next-push (map key_of s) (row, generation) row ∙ rw (eq-eqb row row refl) (let m : max (next_generation s row) (generation + 1) ≡ generation + 1 = omega (arith, next) in m))

pub next-started_other : (s : State) (row generation desk : ℕ) (words : List ℕ) (q : ℕ) → (q ≡ row → ⊥) → next_generation (s ++ started row generation desk words ∷ []) q ≡ next_generation s q
next-started_other s row generation desk words q other =
    ap (λ (ks : List (ℕ × ℕ)). next_in ks q) (map-append key_of s (started row generation desk words ∷ []))
    ∙ (next-push (map key_of s) (row, generation) q ∙ rw (ne_eqb row q (λ e. other (sym e))) (let m : max (next_generation s q) 0 ≡ next_generation s q = omega arith in m))

or_none : {X : Type 0} (o : Option X) → option_or o None ≡ o
or_none None = refl
or_none (Some x) = refl

not_yet : (s : State) (row generation : ℕ) → next_generation s row ≡ generation → booking_at s row generation ≡ None
not_yet s row generation next = go (booking_at s row generation) refl
  where
    go : (o : Option Booking) → booking_at s row generation ≡ o → booking_at s row generation ≡ None
    go None e = e
    go (Some b) e = let below = generation_below s row generation b e in absurd (omega (arith, below, next))

-- the row's present booking is the started one
pub present-started : (s : State) (row generation desk : ℕ) (words : List ℕ) → MayStart s row generation → present (s ++ started row generation desk words ∷ []) row ≡ Some (started row generation desk words)
present-started s row generation desk words may =
    let new : Booking = started row generation desk words in
    let next : next_generation s row ≡ generation = next_of_start s row generation may in
    key_present (s ++ new ∷ []) row generation new (next-started s row generation desk words next)
    (find-push (stands_as row generation) s new ∙ rw (not_yet s row generation next, eq-eqb row row refl, eq-eqb generation generation refl) refl)

pub present-started_other : (s : State) (row generation desk : ℕ) (words : List ℕ) (q : ℕ) → (q ≡ row → ⊥) → present (s ++ started row generation desk words ∷ []) q ≡ present s q
present-started_other s row generation desk words q other =
    let new : Booking = started row generation desk words in
    ap (λ (n : ℕ). booking_at (s ++ new ∷ []) q (n - 1)) (next-started_other s row generation desk words q other)
    ∙ (find-push (stands_in s q) s new ∙ rw (other_row q (next_generation s q - 1) new (λ e. other (sym e))) (or_none (present s q)))

-- a booking that was there is there
pub key-started : (s : State) (new : Booking) (q j : ℕ) (b : Booking) → booking_at s q j ≡ Some b → booking_at (s ++ new ∷ []) q j ≡ Some b
key-started s new q j b e = find-push (stands_as q j) s new ∙ rw e refl

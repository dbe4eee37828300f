-- The rows over a drill's history: how many are started, and how many bookings are sealed.
use Rattle.std.proofs.Common.{◌≡◌, ◌∙◌, ◌+◌, ◌-◌, ◌<◌, ◌≤◌, max, ℕ, zero, suc, List, [], ◌∷◌, ◌++◌, Bool, true, false, cond, nat_eq, length, Option, Some, IsSome, is_some, inl, inr, refl, sym, ap, subst, ⊎_elim, arith}
use Rattle.std.specs.Prelude.{◌&&◌, find}
use Rattle.std.specs.Option.{option_map_or}
use Rattle.std.proofs.lemmas.Bool.{cases_eq, ne_eqb}
use Rattle.std.proofs.lemmas.List.{length-append}
use mathlib.Core.List.{IsPrefix}
use Rattle.history_model.specs.declared.entry.Entry.{Entry}
use Rattle.history_model.specs.declared.entry.Step.{Step}
use Rattle.history_model.specs.declared.entry.Step.TheVariants.{Look, Take, Give, Start, SawRow, Note, Seal, Turn, LostTurn, Close, Met}
use Rattle.history_model.specs.declared.phase.Phase.{Phase}
use Rattle.history_model.specs.declared.phase.Phase.TheVariants.{Free, Making, Prebooked, Confirmed, Fulfilled, Ending, Ended}
use Rattle.history_model.specs.Phase.{is_live, is_ended}
use Rattle.history_model.specs.Lists.{change_first}
use Rattle.history_model.specs.Booking.{Booking, Layout, State, key_of, next_generation, present, phase_of_row, change, stands_as, stands_in, most_items}
use Rattle.history_model.specs.Allowed.{IsAllowedStep, IsMadeBy, MayNote, IsSealable, MaySealAs, MayStart}
use Rattle.history_model.specs.Apply.{apply, apply_step, started, words_of_row, item_taken, noted, in_phase}
use Rattle.history_model.specs.History.{IsLegalFrom, state_after, state_of}
use Rattle.history_model.proofs.Keeping.{found}
use Rattle.history_model.proofs.Generations.{present-changed, present-changed_other, present-started, present-started_other}
use Rattle.booking_rows.specs.Starts.{IsLeastFree}
use Rattle.host_drill.specs.Totals.{count_below, one_if, sold_of}
use Rattle.host_drill.specs.Parts.{is_start}
use Rattle.host_drill.proofs.Counting.{one_is_few}
use Rattle.host_drill.proofs.Sums.{count_same, count_more, count_all, count_none}
use Rattle.host_drill.proofs.Effects.{IsOfDrill, is_seal}
use Rattle.host_drill.proofs.Occupancy.{steps_in, AllOfDrill}

length_step : {X : Type 0} (f : X → X) (x : X) (xs ys : List X) (t : Bool) → length ys ≡ length xs → length (cond t (f x ∷ xs) (x ∷ ys)) ≡ suc (length xs)
length_step f x xs ys true same = refl
length_step f x xs ys false same = ap suc same

length_changed : {X : Type 0} (p : X → Bool) (f : X → X) (xs : List X) → length (change_first p f xs) ≡ length xs
length_changed p f [] = refl
length_changed p f (x ∷ xs) = length_step f x xs (change_first p f xs) (p x) (length_changed p f xs)

none_more : (n m : ℕ) → m ≡ n → m ≡ n + 0
none_more n m e = let f : m ≡ n + 0 = omega (arith, e) in f

-- a start adds a booking, and no other step does
rows_step : (s : State) (d : ℕ) (st : Step) → length (apply_step s d st) ≡ length s + one_if (is_start st)
rows_step s d (Start row generation) = length-append s (started row generation d (words_of_row s row) ∷ [])
rows_step s d (Take row place span) = none_more (length s) _ (length_changed (stands_in s row) _ s)
rows_step s d (Give row item) = none_more (length s) _ (length_changed (stands_in s row) _ s)
rows_step s d (Note row w value) = none_more (length s) _ (length_changed (stands_in s row) _ s)
rows_step s d (Seal row phase) = none_more (length s) _ (length_changed (stands_in s row) _ s)
rows_step s d (Turn row from to moment amount successor) = none_more (length s) _ (length_changed (stands_in s row) _ s)
rows_step s d (Close row) = none_more (length s) _ (length_changed (stands_in s row) _ s)
rows_step s d (Look place half shown) = none_more (length s) _ refl
rows_step s d (SawRow row w value) = none_more (length s) _ refl
rows_step s d (LostTurn row wanted shown) = none_more (length s) _ refl
rows_step s d Met = none_more (length s) _ refl

pub rows_after : (s : State) (es : List Entry) → length (state_after s es) ≡ length s + steps_in is_start es
rows_after s [] = let e : length s ≡ length s + 0 = omega arith in e
rows_after s (e ∷ es) =
    let one = rows_step s e.desk e.step in
    let rest = rows_after (apply s e) es in
    let f : length (state_after (apply s e) es) ≡ length s + (one_if (is_start e.step) + steps_in is_start es) = omega (arith, one, rest) in f

pub steps-append : (test : Step → Bool) (xs ys : List Entry) → steps_in test (xs ++ ys) ≡ steps_in test xs + steps_in test ys
steps-append test [] ys = let e : steps_in test ys ≡ 0 + steps_in test ys = omega arith in e
steps-append test (x ∷ xs) ys =
    let rest = steps-append test xs ys in
    let e : one_if (test x.step) + steps_in test (xs ++ ys) ≡ (one_if (test x.step) + steps_in test xs) + steps_in test ys = omega (arith, rest) in e

-- tests that agree at all numbers but one
count_beside : (f h : ℕ → Bool) (at n : ℕ) → ((k : ℕ) → (k ≡ at → ⊥) → f k ≡ h k) → count_below f n ≤ count_below h n + 1
count_beside f h at zero same = let e : 0 ≤ 0 + 1 = omega arith in e
count_beside f h at (suc n) same = ⊎_elim last (λ (other : n ≡ at → ⊥). earlier other (count_beside f h at n same)) (cases_eq n at)
  where
    last : n ≡ at → count_below f n + one_if (f n) ≤ (count_below h n + one_if (h n)) + 1
    last here =
        let before = count_same h f n (λ k less. same k (λ (e : k ≡ at). let g : ⊥ = omega (arith, less, here, e) in g)) in
        let one = one_is_few (f n) in
        let e : count_below f n + one_if (f n) ≤ (count_below h n + one_if (h n)) + 1 = omega (arith, before, one) in e

    earlier : (n ≡ at → ⊥) → count_below f n ≤ count_below h n + 1 → count_below f n + one_if (f n) ≤ (count_below h n + one_if (h n)) + 1
    earlier other before =
        let here : one_if (f n) ≡ one_if (h n) = ap one_if (same n other) in
        let e : count_below f n + one_if (f n) ≤ (count_below h n + one_if (h n)) + 1 = omega (arith, before, here) in e

-- a booking of another row is not seen
present_behind : (b : Booking) (bs : State) (k : ℕ) → (b.row ≡ k → ⊥) → present (b ∷ bs) k ≡ present bs k
present_behind b bs k other =
    let next : next_generation (b ∷ bs) k ≡ next_generation bs k =
    ap (λ (t : Bool). max (cond t (b.generation + 1) 0) (next_generation bs k)) (ne_eqb b.row k other) ∙ omega arith in
    let n = next_generation bs k - 1 in
    ap (λ (m : ℕ). find (stands_as k (m - 1)) (b ∷ bs)) next
    ∙ ap (λ (t : Bool). cond (t && nat_eq b.generation n) (Some b) (find (stands_as k n) bs)) (ne_eqb b.row k other)

-- no more rows are in use than there are bookings
in_use_few : (s : State) (n : ℕ) → count_below (λ row. is_some (present s row)) n ≤ length s
in_use_few [] n = let none = count_none (λ row. is_some (present [] row)) n (λ _ _. refl) in let e : count_below (λ row. is_some (present [] row)) n ≤ 0 = omega (arith, none) in e
in_use_few (b ∷ bs) n =
    let rest = in_use_few bs n in
    let here = count_beside (λ row. is_some (present (b ∷ bs) row)) (λ row. is_some (present bs row)) b.row n
    (λ k other. ap is_some (present_behind b bs k (λ e. other (sym e)))) in
    let e : count_below (λ row. is_some (present (b ∷ bs) row)) n ≤ suc (length bs) = omega (arith, rest, here) in e

-- where all rows below n are in use, there are n bookings
pub in_use_all : (s : State) (n : ℕ) → ((row : ℕ) → row < n → IsSome (present s row)) → n ≤ length s
in_use_all s n all =
    let few = in_use_few s n in
    let whole = count_all (λ row. is_some (present s row)) n all in
    let e : n ≤ length s = omega (arith, few, whole) in e

-- so not all rows are in use where fewer than they are were started
pub a_row_is_free : (g : Layout) (history seen : List Entry) → g.opening ≡ [] → IsPrefix seen history → steps_in is_start history < g.rows
    → IsLeastFree (state_of g seen) g.rows → ⊥
a_row_is_free g history seen opening (rest, whole) few full =
    let bookings = in_use_all (state_of g seen) g.rows full in
    let started = rows_after g.opening seen in
    let none : length g.opening ≡ 0 = ap length opening in
    let all : steps_in is_start seen + steps_in is_start rest ≡ steps_in is_start history = sym (steps-append is_start seen rest) ∙ ap (steps_in is_start) whole in
    let e : ⊥ = omega (arith, bookings, started, none, all, few) in e

-- a seal makes a live booking, and nothing else makes or unmakes one

abbrev phase_in : Option Booking → Phase
phase_in o = option_map_or (λ b. b.phase) o Free

ended_unlive : (p : Phase) → is_ended p ≡ true → is_live p ≡ false
ended_unlive Free t = refl
ended_unlive Making t = refl
ended_unlive Prebooked t = absurd (let no : false ≡ true = t in cc)
ended_unlive Confirmed t = absurd (let no : false ≡ true = t in cc)
ended_unlive Fulfilled t = absurd (let no : false ≡ true = t in cc)
ended_unlive (Ending k) t = refl
ended_unlive (Ended k) t = refl

-- a row that may be started has no live booking
startable_unlive : (s : State) (row generation : ℕ) → MayStart s row generation → is_live (phase_of_row s row) ≡ false
startable_unlive s row generation (inl (first, none)) = ap (λ (o : Option Booking). is_live (phase_in o)) none
startable_unlive s row generation (inr (few, on)) =
    let b = found (present s row) (λ x. (is_ended x.phase ≡ true) × (generation ≡ x.generation + 1)) on in
    ap (λ (o : Option Booking). is_live (phase_in o)) b.1 ∙ ended_unlive b.0.phase b.2.0

start_unlive : (s : State) (row generation d : ℕ) (words : List ℕ) (q : ℕ) → MayStart s row generation
    → is_live (phase_of_row (s ++ started row generation d words ∷ []) q) ≡ is_live (phase_of_row s q)
start_unlive s row generation d words q may = ⊎_elim
    (λ (here : q ≡ row). subst (λ (k : ℕ). is_live (phase_of_row (s ++ started row generation d words ∷ []) k) ≡ is_live (phase_of_row s k)) (sym here)
    (ap (λ (o : Option Booking). is_live (phase_in o)) (present-started s row generation d words may) ∙ sym (startable_unlive s row generation may)))
    (λ (other : q ≡ row → ⊥). ap (λ (o : Option Booking). is_live (phase_in o)) (present-started_other s row generation d words q other))
    (cases_eq q row)

none_sold : (s t : State) (rows : ℕ) → ((q : ℕ) → is_live (phase_of_row t q) ≡ is_live (phase_of_row s q)) → sold_of t rows ≡ sold_of s rows + 0
none_sold s t rows same = none_more (sold_of s rows) (sold_of t rows) (count_same (λ q. is_live (phase_of_row s q)) (λ q. is_live (phase_of_row t q)) rows (λ q _. same q))

kept_phase : (s : State) (row : ℕ) (f : Booking → Booking) (b : Booking) → present s row ≡ Some b → ((x : Booking) → key_of (f x) ≡ key_of x) → (f b).phase ≡ b.phase
    → (q : ℕ) → phase_of_row (change s row f) q ≡ phase_of_row s q
kept_phase s row f b at rows same q = ⊎_elim
    (λ (here : q ≡ row). subst (λ (k : ℕ). phase_of_row (change s row f) k ≡ phase_of_row s k) (sym here)
    (ap phase_in (present-changed s row f b rows at) ∙ (same ∙ sym (ap phase_in at))))
    (λ (other : q ≡ row → ⊥). ap phase_in (present-changed_other s row q f rows other))
    (cases_eq q row)

sealed_more : (s : State) (row : ℕ) (phase : Phase) (b : Booking) (rows : ℕ) → row < rows → present s row ≡ Some b → b.phase ≡ Making → phase ≡ Prebooked
    → sold_of (change s row (in_phase phase)) rows ≡ sold_of s rows + 1
sealed_more s row phase b rows within at making sealed =
    count_more (λ q. is_live (phase_of_row s q)) (λ q. is_live (phase_of_row (change s row (in_phase phase)) q)) row rows within
    (ap (λ (o : Option Booking). is_live (phase_in o)) at ∙ ap is_live making)
    (ap (λ (o : Option Booking). is_live (phase_in o)) (present-changed s row (in_phase phase) b (λ _. refl) at) ∙ ap is_live sealed)
    (λ q other. ap (λ (o : Option Booking). is_live (phase_in o)) (present-changed_other s row q (in_phase phase) (λ _. refl) other))

sold_step : (g : Layout) (s : State) (d : ℕ) (st : Step) → IsAllowedStep g s d st → IsOfDrill st → sold_of (apply_step s d st) g.rows ≡ sold_of s g.rows + one_if (is_seal st)
sold_step g s d (Start row generation) may drill = none_sold s _ g.rows (λ q. start_unlive s row generation d (words_of_row s row) q may.1)
sold_step g s d (Take row place span) may drill =
    let made = found (present s row) (λ b. IsMadeBy d b × (length b.items < most_items)) may.2 in
    none_sold s _ g.rows (λ q. ap is_live (kept_phase s row (item_taken place span) made.0 made.1 (λ _. refl) refl q))
sold_step g s d (Note row w value) may drill =
    let made = found (present s row) (MayNote d w) may.1 in
    none_sold s _ g.rows (λ q. ap is_live (kept_phase s row (noted w value) made.0 made.1 (λ _. refl) refl q))
sold_step g s d (Seal row phase) may drill =
    let made = found (present s row) (λ b. IsMadeBy d b × IsSealable b × MaySealAs s d b phase) may.1 in
    sealed_more s row phase made.0 g.rows may.0 made.1 made.2.0.0 drill
sold_step g s d (Give row item) may drill = absurd drill
sold_step g s d (Turn row from to moment amount successor) may drill = absurd drill
sold_step g s d (Close row) may drill = absurd drill
sold_step g s d (Look place half shown) may drill = none_sold s _ g.rows (λ q. refl)
sold_step g s d (SawRow row w value) may drill = none_sold s _ g.rows (λ q. refl)
sold_step g s d (LostTurn row wanted shown) may drill = none_sold s _ g.rows (λ q. refl)
sold_step g s d Met may drill = none_sold s _ g.rows (λ q. refl)

-- as many rows are live as were sealed
pub sold_after : (g : Layout) (s : State) (es : List Entry) → IsLegalFrom g s es → AllOfDrill es → sold_of (state_after s es) g.rows ≡ sold_of s g.rows + steps_in is_seal es
sold_after g s [] legal drill = let e : sold_of s g.rows ≡ sold_of s g.rows + 0 = omega arith in e
sold_after g s (e ∷ es) legal drill =
    let one = sold_step g s e.desk e.step legal.0 drill.0 in
    let rest = sold_after g (apply s e) es legal.1 drill.1 in
    let f : sold_of (state_after (apply s e) es) g.rows ≡ sold_of s g.rows + (one_if (is_seal e.step) + steps_in is_seal es) = omega (arith, one, rest) in f

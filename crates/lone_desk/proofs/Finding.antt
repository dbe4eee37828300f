-- One place wanted of all: the least that is free.
use Rattle.std.proofs.Common.{◌≡◌, ◌≢◌, ℕ, zero, suc, ◌+◌, ◌<◌, ◌≤◌, List, [], ◌∷◌, ◌++◌, length, refl, sym, ap, ◌∙◌, subst, ⊎_elim, arith, append_assoc, append-nil, length-append}
use Rattle.std.specs.List.{AllByRecursion, flat_map, range_with_len}
use Rattle.std.proofs.lemmas.Bool.{cases_eq}
use Rattle.std.proofs.lemmas.List.{nil_from_length}
use mathlib.Core.List.{map-append}
use Rattle.leg_masks.specs.Interval.{Interval, items_at, PlacedSpan as Item}
use Rattle.history_model.specs.declared.entry.Step.{Step}
use Rattle.history_model.specs.Lists.{Pairwise}
use Rattle.history_model.specs.Booking.{Layout, State}
use Rattle.history_model.specs.History.{IsLegalFrom}
use Rattle.history_model.proofs.ListLemmas.{All-left, All-right, Pairwise-left}
use Rattle.hold_core.specs.declared.tries.Outcome.{Outcome}
use Rattle.hold_core.specs.declared.tries.Outcome.TheVariants.{Won, Refused, Contended}
use Rattle.hold_core.specs.declared.adds.Added.{Added}
use Rattle.hold_core.specs.declared.adds.Added.TheVariants as added
use Rattle.hold_core.specs.Tries.{Try}
use Rattle.hold_core.specs.Places.{Adds, EndsWith, IsAdding, items_won, place_won, places_won, tried}
use Rattle.hold_core.proofs.Adding.{items_by_place}
use Rattle.lone_desk.specs.Lone.{entries_of}
use Rattle.lone_desk.specs.Decided.{EndsBy, IsDecided, IsFreeAt, FindsFirst}
use Rattle.lone_desk.proofs.Looking.{tries_decided}

-- numbers in order

above : (p a n : ℕ) → p < a → AllByRecursion (λ q. p ≢ q) (range_with_len a n)
above p a zero less = tt
above p a (suc n) less = (λ e. omega (arith, e, less), above p (a + 1) n (omega (arith, less)))

pub numbers_apart : (a n : ℕ) → Pairwise (λ p q. p ≢ q) (range_with_len a n)
numbers_apart a zero = tt
numbers_apart a (suc n) = (above a (a + 1) n (omega arith), numbers_apart (a + 1) n)

pub at_number : (P : ℕ → Type 0) (a n : ℕ) → AllByRecursion P (range_with_len a n) → (q : ℕ) → a ≤ q → q < a + n → P q
at_number P a zero all q from below = absurd (omega (arith, from, below))
at_number P a (suc n) all q from below = ⊎_elim
    (λ (here : a ≡ q). subst P here all.0)
    (λ (other : a ≡ q → ⊥). at_number P (a + 1) n all.1 q (omega (arith, from, other)) (omega (arith, below)))
    (cases_eq a q)

-- a number among them, by those before it
pub numbers_split : (a n : ℕ) (xs : List ℕ) (p : ℕ) (left : List ℕ) → xs ++ p ∷ left ≡ range_with_len a n
    → (p ≡ a + length xs) × (p < a + n) × (xs ≡ range_with_len a (length xs))
numbers_split a zero [] p left e = absurd cc
numbers_split a zero (x ∷ xs) p left e = absurd cc
numbers_split a (suc n) [] p left e =
    let here : p ≡ a = cc in
    (omega (arith, here), omega (arith, here), refl)
numbers_split a (suc n) (x ∷ xs) p left e =
    let here : x ≡ a = cc in
    let rest : xs ++ p ∷ left ≡ range_with_len (a + 1) n = cc in
    let more = numbers_split (a + 1) n xs p left rest in
    (omega (arith, more.0), omega (arith, more.1), ap (λ (k : ℕ). k ∷ xs) here ∙ ap (λ (l : List ℕ). a ∷ l) more.2)

-- where no item is won, each try was refused

refused_by : (P : Type 0) (place : ℕ) (o : Outcome) (rest : List ℕ) → EndsBy P o → length (place_won place o ++ rest) ≡ 0 → (¬ P) × (length rest ≡ 0)
refused_by P place Won rest ends none = absurd (omega (arith, none))
refused_by P place Refused rest ends none = (ends, none)
refused_by P place Contended rest ends none = absurd ends

all_refused : (s : State) (span : Interval) (ts : List Try) → AllByRecursion (IsDecided s span) ts → length (places_won ts) ≡ 0
    → AllByRecursion (λ p. ¬ IsFreeAt s span p) (tried ts)
all_refused s span [] all none = tt
all_refused s span (t ∷ ts) all none =
    let here = refused_by (IsFreeAt s span t.place) t.place t.outcome (places_won ts) all.0.ends none in
    (here.0, all_refused s span ts all.1 here.1)

places_won-append : (xs ys : List Try) → places_won (xs ++ ys) ≡ places_won xs ++ places_won ys
places_won-append [] ys = refl
places_won-append (t ∷ xs) ys = ap (λ (l : List ℕ). place_won t.place t.outcome ++ l) (places_won-append xs ys) ∙ sym (append_assoc (place_won t.place t.outcome) (places_won xs) (places_won ys))

-- what a call tries is a front of its candidates
front_tried : (span : Interval) (count : ℕ) (candidates : List ℕ) (tries : List Try) (answer : Added) → IsAdding span count candidates tries answer → (left : List ℕ) × (candidates ≡ tried tries ++ left)
front_tried span count candidates tries added.All adding = adding.2
front_tried span count candidates tries (added.NoPlace n) adding = ([], adding.3 ∙ sym (append-nil (tried tries)))
front_tried span count candidates tries (added.Contended place) adding = adding.2

-- The tries of a call that adds places among unlike candidates end by what was free before it.
pub adds_decided : (g : Layout) (s : State) (desk row k count : ℕ) (span : Interval) (candidates : List ℕ) (answer : Added) (won : List Item) (steps : List Step) → span.to ≤ 126
    → Pairwise (λ p q. p ≢ q) candidates → IsLegalFrom g s (entries_of desk steps) → (did : Adds row k span count candidates answer won steps) → AllByRecursion (IsDecided s span) did.tries
adds_decided g s desk row k count span candidates answer won steps fits apart legal did =
    let front = front_tried span count candidates did.tries answer did.adding in
    tries_decided g s desk row k span did.tries fits did.each
    (Pairwise-left (λ p q. p ≢ q) (tried did.tries) front.0 (subst (Pairwise (λ p q. p ≢ q)) front.1 apart))
    (subst (λ (es : List Step). IsLegalFrom g s (entries_of desk es)) did.steps legal)

-- so none of them is contended
pub none_contended : (s : State) (span : Interval) (tries : List Try) → AllByRecursion (IsDecided s span) tries → EndsWith tries Contended → ⊥
none_contended s span tries all ends =
    let decided : AllByRecursion (IsDecided s span) (ends.before ++ ends.last ∷ []) = subst (AllByRecursion (IsDecided s span)) ends.are all in
    let final : IsDecided s span ends.last = (All-right (IsDecided s span) ends.before (ends.last ∷ []) decided).0 in
    subst (EndsBy (IsFreeAt s span ends.last.place)) ends.ends final.ends

first_won : (s : State) (span : Interval) (places : ℕ) (tries : List Try) (won : List Item) (left : List ℕ) → (ends : EndsWith tries Won)
    → length (places_won tries) ≡ 1 → won ≡ items_won span tries → range_with_len 0 places ≡ tried tries ++ left → AllByRecursion (IsDecided s span) tries
    → FindsFirst s span places added.All won
first_won s span places tries won left ends one is at all =
    let before = ends.before in
    let last = ends.last in
    let p = last.place in
    let decided : AllByRecursion (IsDecided s span) (before ++ last ∷ []) = subst (AllByRecursion (IsDecided s span)) ends.are all in
    let final : IsDecided s span last = (All-right (IsDecided s span) before (last ∷ []) decided).0 in
    let counted : places_won tries ≡ places_won before ++ p ∷ [] =
    ap places_won ends.are ∙ (places_won-append before (last ∷ []) ∙ ap (λ (o : Outcome). places_won before ++ (place_won p o ++ [])) ends.ends) in
    let none : length (places_won before) ≡ 0 = only (length (places_won before)) (sym (length-append (places_won before) (p ∷ [])) ∙ (sym (ap length counted) ∙ one)) in
    let places_are : places_won tries ≡ p ∷ [] = counted ∙ ap (λ (l : List ℕ). l ++ p ∷ []) (nil_from_length (places_won before) none) in
    let line : tried before ++ p ∷ left ≡ range_with_len 0 places =
    sym (append_assoc (tried before) (p ∷ []) left) ∙ (ap (λ (l : List ℕ). l ++ left) (sym (map-append (λ (t : Try). t.place) before (last ∷ [])))
    ∙ (ap (λ (ts : List Try). tried ts ++ left) (sym ends.are) ∙ sym at)) in
    let split = numbers_split 0 places (tried before) p left line in
    let refused : AllByRecursion (λ q. ¬ IsFreeAt s span q) (range_with_len 0 (length (tried before))) =
    subst (AllByRecursion (λ q. ¬ IsFreeAt s span q)) split.2
    (all_refused s span before (All-left (IsDecided s span) before (last ∷ []) decided) none) in (
      p,
      is ∙ (items_by_place span tries ∙ (ap (flat_map (items_at span)) places_are ∙ append-nil (items_at span p))),
      omega (arith, split.1),
      subst (EndsBy (IsFreeAt s span p)) ends.ends final.ends,
      λ lower below. at_number (λ q. ¬ IsFreeAt s span q) 0 (length (tried before)) refused lower (omega arith) (omega (arith, below, split.0)),
    )
  where
    only : (n : ℕ) → n + 1 ≡ 1 → n ≡ 0
    only n e = omega (arith, e)

-- What a lone desk finds that wants one place of all.
pub finds_first : (g : Layout) (s : State) (desk row k : ℕ) (span : Interval) (places : ℕ) (answer : Added) (won : List Item) (steps : List Step) → span.to ≤ 126
    → IsLegalFrom g s (entries_of desk steps) → Adds row k span 1 (range_with_len 0 places) answer won steps → FindsFirst s span places answer won
finds_first g s desk row k span places added.All won steps fits legal did =
    let a = did.adding in
    first_won s span places did.tries won a.2.0 a.0 a.1 did.items a.2.1
    (adds_decided g s desk row k 1 span (range_with_len 0 places) added.All won steps fits (numbers_apart 0 places) legal did)
finds_first g s desk row k span places (added.NoPlace n) won steps fits legal did =
    let a = did.adding in
    let none : length (places_won did.tries) ≡ 0 = omega (arith, a.1, a.2) in
    let all = adds_decided g s desk row k 1 span (range_with_len 0 places) (added.NoPlace n) won steps fits (numbers_apart 0 places) legal did in (
      did.items ∙ (items_by_place span did.tries ∙ ap (flat_map (items_at span)) (nil_from_length (places_won did.tries) none)),
      λ place below.
          at_number (λ q. ¬ IsFreeAt s span q) 0 places
          (subst (AllByRecursion (λ q. ¬ IsFreeAt s span q)) (sym a.3) (all_refused s span did.tries all none)) place (omega arith) (omega (arith, below)),
    )
finds_first g s desk row k span places (added.Contended p) won steps fits legal did =
    none_contended s span did.tries
    (adds_decided g s desk row k 1 span (range_with_len 0 places) (added.Contended p) won steps fits (numbers_apart 0 places) legal did) did.adding.0.0

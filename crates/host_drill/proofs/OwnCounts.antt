-- What is counted over a history is the sum over its desks.
use Rattle.std.proofs.Common.{◌≡◌, ◌∙◌, ◌+◌, ◌<◌, ◌≤◌, ℕ, zero, suc, List, [], ◌∷◌, Bool, true, false, cond, ◌&&◌, eqb, map, refl, sym, ap, ⊎_elim, eq-eqb, arith}
use Rattle.std.specs.List.{AllByRecursion}
use Rattle.std.proofs.lemmas.Bool.{cases_lt}
use Rattle.std.proofs.Math.Bool.{and-false, and-true}
use Rattle.std.proofs.Math.Numerals.{add-one}
use Rattle.history_model.specs.declared.entry.Entry.{Entry}
use Rattle.history_model.specs.declared.entry.Step.{Step}
use Rattle.history_model.specs.History.{entry, own}
use Rattle.history_model.proofs.Seen.{none_own}
use Rattle.host_drill.specs.Totals.{one_if}
use Rattle.host_drill.proofs.Sums.{sum_below, sum_same, sum_both, sum_is, sum_zero}
use Rattle.host_drill.proofs.Occupancy.{steps_in}

-- the sum over n numbers from k on
abbrev pub sum_from : (ℕ → ℕ) → ℕ → ℕ → ℕ
sum_from f k zero = 0
sum_from f k (suc n) = f k + sum_from f (k + 1) n

sums_meet : (f : ℕ → ℕ) (k n : ℕ) → sum_below f k + sum_from f k n ≡ sum_below f (k + n)
sums_meet f k zero = let e : sum_below f k + 0 ≡ sum_below f k = omega arith in e ∙ ap (sum_below f) (let e : k ≡ k + 0 = omega arith in e)
sums_meet f k (suc n) =
    let rest : sum_below f (k + 1) + sum_from f (k + 1) n ≡ sum_below f (k + 1 + n) = sums_meet f (k + 1) n in
    let next : sum_below f (k + 1) ≡ sum_below f k + f k = ap (sum_below f) (add-one k) in
    let e : sum_below f k + (f k + sum_from f (k + 1) n) ≡ sum_below f (k + 1 + n) = omega (arith, rest, next) in
    e ∙ ap (sum_below f) (let e : k + 1 + n ≡ k + suc n = omega arith in e)

own_step : (test : Step → Bool) (e : Entry) (o : List Entry) (c : Bool) → steps_in test (cond c (e ∷ o) o) ≡ one_if (test e.step && c) + steps_in test o
own_step test e o true = let f = ap one_if (and-true (test e.step)) in let g : one_if (test e.step) + steps_in test o ≡ one_if (test e.step && true) + steps_in test o = omega (arith, f) in g
own_step test e o false = let f = ap one_if (and-false (test e.step)) in let g : steps_in test o ≡ one_if (test e.step && false) + steps_in test o = omega (arith, f) in g

by_desks : (test : Step → Bool) (n : ℕ) (h : List Entry) → ((k : ℕ) → n ≤ k → own h k ≡ []) → steps_in test h ≡ sum_below (λ d. steps_in test (own h d)) n
by_desks test n [] none = sym (sum_zero (λ d. 0) n (λ k less. refl))
by_desks test n (e ∷ es) none =
    let rest = by_desks test n es (λ k past. (none_own k e es (none k past)).1) in
    let split = sum_same (λ d. steps_in test (own (e ∷ es) d)) (λ d. one_if (test e.step && eqb e.desk d) + steps_in test (own es d)) n (λ d less. own_step test e (own es d) (eqb e.desk d)) in
    let both = sum_both (λ d. one_if (test e.step && eqb e.desk d)) (λ d. steps_in test (own es d)) n in
    let one = sum_is (test e.step) e.desk n within in
    let f : one_if (test e.step) + steps_in test es ≡ sum_below (λ d. steps_in test (own (e ∷ es) d)) n = omega (arith, rest, split, both, one) in f
  where
    within : e.desk < n
    within = ⊎_elim (λ (less : e.desk < n). less) (λ (past : n ≤ e.desk). absurd ((none_own e.desk e es (none e.desk past)).0 refl)) (cases_lt e.desk n)

-- over the first desk and so many others, where no others have entries
pub over_desks : (test : Step → Bool) (n : ℕ) (h : List Entry) → ((k : ℕ) → n < k → own h k ≡ []) → steps_in test h ≡ steps_in test (own h 0) + sum_from (λ d. steps_in test (own h d)) 1 n
over_desks test n h none =
    let all = by_desks test (1 + n) h (λ k past. none k (let e : n < k = omega (arith, past) in e)) in
    let meet = sums_meet (λ d. steps_in test (own h d)) 1 n in
    let e : steps_in test h ≡ steps_in test (own h 0) + sum_from (λ d. steps_in test (own h d)) 1 n = omega (arith, all, meet) in e

-- what is so of each desk's entries is so of all, and the other way round

first_all : (P : Entry → Type 0) (e : Entry) (o : List Entry) (c : Bool) → c ≡ true → AllByRecursion P (cond c (e ∷ o) o) → P e
first_all P e o true is all = all.0
first_all P e o false is all = absurd cc

rest_all : (P : Entry → Type 0) (e : Entry) (o : List Entry) (c : Bool) → AllByRecursion P (cond c (e ∷ o) o) → AllByRecursion P o
rest_all P e o true all = all.1
rest_all P e o false all = all

pub all_of_desks : (P : Entry → Type 0) (h : List Entry) → ((d : ℕ) → AllByRecursion P (own h d)) → AllByRecursion P h
all_of_desks P [] each = tt
all_of_desks P (e ∷ es) each = (
  first_all P e (own es e.desk) (eqb e.desk e.desk) (eq-eqb e.desk e.desk refl) (each e.desk),
  all_of_desks P es (λ d. rest_all P e (own es d) (eqb e.desk d) (each d)),
)

one_more : (P : Entry → Type 0) (e : Entry) (o : List Entry) (c : Bool) → P e → AllByRecursion P o → AllByRecursion P (cond c (e ∷ o) o)
one_more P e o true p all = (p, all)
one_more P e o false p all = all

pub all_of_own : (P : Entry → Type 0) (h : List Entry) (d : ℕ) → AllByRecursion P h → AllByRecursion P (own h d)
all_of_own P [] d all = tt
all_of_own P (e ∷ es) d all = one_more P e (own es d) (eqb e.desk d) all.0 (all_of_own P es d all.1)

-- the entries of a desk's steps

pub all_of_steps : (P : Step → Type 0) (d : ℕ) (sts : List Step) → AllByRecursion (λ e. P e.step) (map (entry d) sts) → AllByRecursion P sts
all_of_steps P d [] all = tt
all_of_steps P d (st ∷ sts) all = (all.0, all_of_steps P d sts all.1)

pub all_of_entries : (P : Step → Type 0) (d : ℕ) (sts : List Step) → AllByRecursion P sts → AllByRecursion (λ e. P e.step) (map (entry d) sts)
all_of_entries P d [] all = tt
all_of_entries P d (st ∷ sts) all = (all.0, all_of_entries P d sts all.1)

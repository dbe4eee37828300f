-- Counts and sums over the numbers below a bound.
use Rattle.std.proofs.Common.{◌≡◌, ◌∙◌, ◌+◌, ◌<◌, ◌≤◌, ℕ, zero, suc, Bool, true, false, ◌==◌, ◌&&◌, refl, sym, ap, ⊎_elim, arith}
use Rattle.std.proofs.lemmas.Bool.{cases_eq, eq-eqb, ne_eqb}
use Rattle.std.proofs.Math.Bool.{and-false, and-true}
use Rattle.host_drill.specs.Totals.{count_below, one_if}
use Rattle.host_drill.proofs.Counting.{count_few, one_is_few}

pub count_same : (f g : ℕ → Bool) (n : ℕ) → ((k : ℕ) → k < n → g k ≡ f k) → count_below g n ≡ count_below f n
count_same f g zero same = refl
count_same f g (suc n) same =
    let before = count_same f g n (λ k less. same k (let e : k < suc n = omega (arith, less) in e)) in
    let here : one_if (g n) ≡ one_if (f n) = ap one_if (same n (let e : n < suc n = omega arith in e)) in
    let e : count_below g n + one_if (g n) ≡ count_below f n + one_if (f n) = omega (arith, before, here) in e

-- one number more passes
pub count_more : (f g : ℕ → Bool) (at n : ℕ) → at < n → f at ≡ false → g at ≡ true → ((k : ℕ) → (k ≡ at → ⊥) → g k ≡ f k) → count_below g n ≡ count_below f n + 1
count_more f g at zero less was is same = absurd (let e : ⊥ = omega (arith, less) in e)
count_more f g at (suc n) less was is same =
    ⊎_elim last (λ (other : n ≡ at → ⊥). earlier other (count_more f g at n (let e : at < n = omega (arith, less, other) in e) was is same)) (cases_eq n at)
  where
    last : n ≡ at → count_below g n + one_if (g n) ≡ (count_below f n + one_if (f n)) + 1
    last here =
        let before = count_same f g n (λ k less. same k (λ (e : k ≡ at). let f : ⊥ = omega (arith, less, here, e) in f)) in
        let now : one_if (g n) ≡ 1 = ap (λ (k : ℕ). one_if (g k)) here ∙ ap one_if is in
        let then : one_if (f n) ≡ 0 = ap (λ (k : ℕ). one_if (f k)) here ∙ ap one_if was in
        let e : count_below g n + one_if (g n) ≡ (count_below f n + one_if (f n)) + 1 = omega (arith, before, now, then) in e

    earlier : (n ≡ at → ⊥) → count_below g n ≡ count_below f n + 1 → count_below g n + one_if (g n) ≡ (count_below f n + one_if (f n)) + 1
    earlier other before =
        let here : one_if (g n) ≡ one_if (f n) = ap one_if (same n other) in
        let e : count_below g n + one_if (g n) ≡ (count_below f n + one_if (f n)) + 1 = omega (arith, before, here) in e

pub count_all : (f : ℕ → Bool) (n : ℕ) → ((k : ℕ) → k < n → f k ≡ true) → count_below f n ≡ n
count_all f zero all = refl
count_all f (suc n) all =
    let before = count_all f n (λ k less. all k (let e : k < suc n = omega (arith, less) in e)) in
    let here : one_if (f n) ≡ 1 = ap one_if (all n (let e : n < suc n = omega arith in e)) in
    let e : count_below f n + one_if (f n) ≡ suc n = omega (arith, before, here) in e

pub count_none : (f : ℕ → Bool) (n : ℕ) → ((k : ℕ) → k < n → f k ≡ false) → count_below f n ≡ 0
count_none f zero none = refl
count_none f (suc n) none =
    let before = count_none f n (λ k less. none k (let e : k < suc n = omega (arith, less) in e)) in
    let here : one_if (f n) ≡ 0 = ap one_if (none n (let e : n < suc n = omega arith in e)) in
    let e : count_below f n + one_if (f n) ≡ 0 = omega (arith, before, here) in e

-- not all pass where one does not
pub count_gap : (f : ℕ → Bool) (at n : ℕ) → at < n → f at ≡ false → count_below f n < n
count_gap f at zero less out = absurd (let e : ⊥ = omega (arith, less) in e)
count_gap f at (suc n) less out =
    ⊎_elim last (λ (other : n ≡ at → ⊥). earlier (one_is_few (f n)) (count_gap f at n (let e : at < n = omega (arith, less, other) in e) out)) (cases_eq n at)
  where
    last : n ≡ at → count_below f n + one_if (f n) < suc n
    last here =
        let before = count_few f n in
        let now : one_if (f n) ≡ 0 = ap (λ (k : ℕ). one_if (f k)) here ∙ ap one_if out in
        let e : count_below f n + one_if (f n) < suc n = omega (arith, before, now) in e

    earlier : one_if (f n) ≤ 1 → count_below f n < n → count_below f n + one_if (f n) < suc n
    earlier few before = let e : count_below f n + one_if (f n) < suc n = omega (arith, before, few) in e

-- the sum over the numbers below n
abbrev pub sum_below : (ℕ → ℕ) → ℕ → ℕ
sum_below f zero = 0
sum_below f (suc n) = sum_below f n + f n

pub sum_same : (f g : ℕ → ℕ) (n : ℕ) → ((k : ℕ) → k < n → f k ≡ g k) → sum_below f n ≡ sum_below g n
sum_same f g zero same = refl
sum_same f g (suc n) same =
    let before = sum_same f g n (λ k less. same k (let e : k < suc n = omega (arith, less) in e)) in
    let here = same n (let e : n < suc n = omega arith in e) in
    let e : sum_below f n + f n ≡ sum_below g n + g n = omega (arith, before, here) in e

pub sum_both : (f g : ℕ → ℕ) (n : ℕ) → sum_below (λ k. f k + g k) n ≡ sum_below f n + sum_below g n
sum_both f g zero = refl
sum_both f g (suc n) =
    let before = sum_both f g n in
    let e : sum_below (λ k. f k + g k) n + (f n + g n) ≡ (sum_below f n + f n) + (sum_below g n + g n) = omega (arith, before) in e

pub sum_zero : (f : ℕ → ℕ) (n : ℕ) → ((k : ℕ) → k < n → f k ≡ 0) → sum_below f n ≡ 0
sum_zero f zero none = refl
sum_zero f (suc n) none =
    let before = sum_zero f n (λ k less. none k (let e : k < suc n = omega (arith, less) in e)) in
    let here = none n (let e : n < suc n = omega arith in e) in
    let e : sum_below f n + f n ≡ 0 = omega (arith, before, here) in e

-- where all but one are 0
pub sum_one : (f : ℕ → ℕ) (at n : ℕ) → at < n → ((k : ℕ) → (k ≡ at → ⊥) → f k ≡ 0) → sum_below f n ≡ f at
sum_one f at zero less none = absurd (let e : ⊥ = omega (arith, less) in e)
sum_one f at (suc n) less none =
    ⊎_elim last (λ (other : n ≡ at → ⊥). earlier other (sum_one f at n (let e : at < n = omega (arith, less, other) in e) none)) (cases_eq n at)
  where
    last : n ≡ at → sum_below f n + f n ≡ f at
    last here =
        let before = sum_zero f n (λ k less. none k (λ (e : k ≡ at). let g : ⊥ = omega (arith, less, here, e) in g)) in
        let now : f n ≡ f at = ap f here in
        let e : sum_below f n + f n ≡ f at = omega (arith, before, now) in e

    earlier : (n ≡ at → ⊥) → sum_below f n ≡ f at → sum_below f n + f n ≡ f at
    earlier other before =
        let here = none n other in
        let e : sum_below f n + f n ≡ f at = omega (arith, before, here) in e

-- of the numbers below n one is k
pub sum_is : (b : Bool) (k n : ℕ) → k < n → sum_below (λ l. one_if (b && (k == l))) n ≡ one_if b
sum_is b k n less =
    sum_one (λ l. one_if (b && (k == l))) k n less (λ l other. ap (λ (c : Bool). one_if (b && c)) (ne_eqb k l (λ e. other (sym e))) ∙ ap one_if (and-false b))
    ∙ (ap (λ (c : Bool). one_if (b && c)) (eq-eqb k k refl) ∙ ap one_if (and-true b))

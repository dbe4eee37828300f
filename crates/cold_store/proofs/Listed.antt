-- What is read from numbers in rising order, where some give nothing.
use Rattle.std.proofs.Common.{◌≡◌, ℕ, zero, suc, ◌+◌, ◌<◌, ◌≤◌, ⊎_elim, Bool, true, false, cond, List, [], ◌∷◌, map, filter_map, find, length, Contains, Option, Some, None, refl, sym, ap, ◌∙◌, subst, arith}
use Rattle.std.specs.List.{AllByRecursion, cons_option, range_with_len}
use Rattle.std.proofs.lemmas.Bool.{cases_eq}
use Rattle.std.proofs.lemmas.List.{get_or-map, length-map}
use Rattle.history_model.specs.Lists.{Across, Pairwise}
use Rattle.history_model.proofs.ListLemmas.{All-both, All-found, All-map, All-of_map}

-- what holds of each
each_step : {X : Type 0} (P : X → Type 0) (o : Option X) (xs : List X) → ((x : X) → o ≡ Some x → P x) → AllByRecursion P xs → AllByRecursion P (cons_option o xs)
each_step P None xs first rest = rest
each_step P (Some x) xs first rest = (first x refl, rest)

pub each_read : {X : Type 0} (P : X → Type 0) (f : ℕ → Option X) (from len : ℕ) → ((n : ℕ) (x : X) → from ≤ n → n < from + len → f n ≡ Some x → P x) → AllByRecursion P (filter_map f (range_with_len from len))
each_read P f from zero each = tt
each_read P f from (suc len) each =
    each_step P (f from) (filter_map f (range_with_len (from + 1) len)) (λ x e. each from x (omega arith) (omega arith) e)
    (each_read P f (from + 1) len (λ n x lo hi e. each n x (omega arith) (omega arith) e))

-- what holds of each two
pairs_step : {X : Type 0} (R : X → X → Type 0) (o : Option X) (xs : List X) → ((x : X) → o ≡ Some x → AllByRecursion (R x) xs) → Pairwise R xs → Pairwise R (cons_option o xs)
pairs_step R None xs first rest = rest
pairs_step R (Some x) xs first rest = (first x refl, rest)

pub pairs_read : {X : Type 0} (R : X → X → Type 0) (f : ℕ → Option X) (from len : ℕ) → ((m n : ℕ) (x y : X) → from ≤ m → m < n → n < from + len → f m ≡ Some x → f n ≡ Some y → R x y) → Pairwise R (filter_map f (range_with_len from len))
pairs_read R f from zero each = tt
pairs_read R f from (suc len) each =
    pairs_step R (f from) (filter_map f (range_with_len (from + 1) len))
    (λ x e. each_read (R x) f (from + 1) len (λ n y lo hi d. each from n x y (omega arith) (omega arith) (omega arith) e d))
    (pairs_read R f (from + 1) len (λ m n x y lo mid hi d e. each m n x y (omega arith) mid (omega arith) d e))

-- each that is read is there
later : {X : Type 0} (o : Option X) (xs : List X) (x : X) → Contains xs x → Contains (cons_option o xs) x
later None xs x at = at
later (Some y) xs x (k, below, at) = (suc k, (omega arith), at)

first : {X : Type 0} (o : Option X) (xs : List X) (x : X) → o ≡ Some x → Contains (cons_option o xs) x
first None xs x e = absurd cc
first (Some y) xs x e = (0, (omega arith), (let same : y ≡ x = cc in same))

pub contains_read : {X : Type 0} (f : ℕ → Option X) (from len n : ℕ) (x : X) → from ≤ n → n < from + len → f n ≡ Some x → Contains (filter_map f (range_with_len from len)) x
contains_read f from zero n x lo hi e = absurd (omega arith)
contains_read f from (suc len) n x lo hi e = ⊎_elim
    (λ (here : n ≡ from). first (f from) (filter_map f (range_with_len (from + 1) len)) x (ap f (sym here) ∙ e))
    (λ (other : n ≡ from → ⊥). later (f from) (filter_map f (range_with_len (from + 1) len)) x (contains_read f (from + 1) len n x (omega (arith, other, lo)) (omega arith) e))
    (cases_eq n from)

pub contains_map : {X Y : Type 0} (f : X → Y) (xs : List X) (x : X) → Contains xs x → Contains (map f xs) (f x)
contains_map f xs x (k, below, at) = (k, (omega (arith, below, length-map xs f)), get_or-map f xs k x (f x) below ∙ ap f at)

-- no more than numbers
count_step : {X : Type 0} (o : Option X) (xs : List X) → length (cons_option o xs) ≤ suc (length xs)
count_step None xs = omega arith
count_step (Some x) xs = omega arith

pub count_read : {X : Type 0} (f : ℕ → Option X) (from len : ℕ) → length (filter_map f (range_with_len from len)) ≤ len
count_read f from zero = omega arith
count_read f from (suc len) =
    let rest = count_read f (from + 1) len in
    omega (arith, rest, count_step (f from) (filter_map f (range_with_len (from + 1) len)))

-- two that are found

pair_step : {X : Type 0} (R : X → X → Type 0) → ((x y : X) → R x y → R y x) → (p q : X → Bool) (z : X) (zs : List X) (x y : X) (t u : Bool) → (x ≡ y → ⊥) → cond t (Some z) (find p zs) ≡ Some x → cond u (Some z) (find q zs) ≡ Some y → AllByRecursion (R z) zs
    → (find p zs ≡ Some x → find q zs ≡ Some y → R x y) → R x y
pair_step R flip p q z zs x y true true other e f all rest = absurd (other (let same : x ≡ y = cc in same))
pair_step R flip p q z zs x y true false other e f all rest = let same : z ≡ x = cc in subst (λ v. R v y) same (All-found (R z) q zs y f all)
pair_step R flip p q z zs x y false true other e f all rest = let same : z ≡ y = cc in flip y x (subst (λ v. R v x) same (All-found (R z) p zs x e all))
pair_step R flip p q z zs x y false false other e f all rest = rest e f

pub pair_found : {X : Type 0} (R : X → X → Type 0) → ((x y : X) → R x y → R y x) → (p q : X → Bool) (xs : List X) (x y : X) → (x ≡ y → ⊥) → find p xs ≡ Some x → find q xs ≡ Some y → Pairwise R xs → R x y
pair_found R flip p q [] x y other e f all = absurd cc
pair_found R flip p q (z ∷ zs) x y other e f all = pair_step R flip p q z zs x y (p z) (q z) other e f all.0 (λ d c. pair_found R flip p q zs x y other d c all.1)

pub Across-flip : {X : Type 0} (R : X → X → Type 0) (xs ys : List X) → Across R xs ys → Across (λ y x. R x y) ys xs
Across-flip R [] ys h = all ys
  where
    all : {X : Type 0} (zs : List X) → AllByRecursion (λ _. Unit {0}) zs
    all [] = tt
    all (z ∷ zs) = (tt, all zs)
Across-flip R (x ∷ xs) ys h = All-both {P = R x} {Q = λ y. AllByRecursion (λ z. R z y) xs} (λ y p q. (p, q)) ys h.0 (Across-flip R xs ys h.1)

pub Across-both : {X Y : Type 0} (R : X → X → Type 0) (S : Y → Y → Type 0) (f : X → Y) → ((x y : X) → R x y → S (f x) (f y)) → (xs ys : List X) → Across R xs ys → Across S (map f xs) (map f ys)
Across-both R S f each [] ys h = tt
Across-both R S f each (x ∷ xs) ys h = (All-of_map (S (f x)) f ys (All-map (λ y p. each x y p) ys h.0), Across-both R S f each xs ys h.1)

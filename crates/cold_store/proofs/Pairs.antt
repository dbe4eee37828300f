-- Lemmas on Across and on lists of all, over any elements.
use Rattle.std.proofs.Common.{◌≡◌, List, [], ◌∷◌, ◌++◌, map, refl, subst}
use Rattle.std.specs.List.{AllByRecursion, flat_map}
use Rattle.history_model.specs.Lists.{Across, Pairwise}
use Rattle.history_model.proofs.ListLemmas.{Across-first, Across-parts, Across-second, All-append, All-left, All-map, All-of_map, All-right, All-under_map}

pub All-each : {X : Type 0} (P : X → Type 0) → ((x : X) → P x) → (xs : List X) → AllByRecursion P xs
All-each P f [] = tt
All-each P f (x ∷ xs) = (f x, All-each P f xs)

column : {X Y : Type 0} (R : X → Y → Type 0) (y : Y) (xs : List X) (ys : List Y) → AllByRecursion (λ x. AllByRecursion (R x) (y ∷ ys)) xs → AllByRecursion (λ x. R x y) xs × AllByRecursion (λ x. AllByRecursion (R x) ys) xs
column R y [] ys h = (tt, tt)
column R y (x ∷ xs) ys h = let r = column R y xs ys h.1 in ((h.0.0, r.0), (h.0.1, r.1))

pub Across-swap : {X Y : Type 0} (R : X → Y → Type 0) (xs : List X) (ys : List Y) → AllByRecursion (λ x. AllByRecursion (R x) ys) xs → AllByRecursion (λ y. AllByRecursion (λ x. R x y) xs) ys
Across-swap R xs [] h = tt
Across-swap R xs (y ∷ ys) h = let r = column R y xs ys h in (r.0, Across-swap R xs ys r.1)

-- all of the parts, and of all parts
pub All-parts : {X Y : Type 0} (P : Y → Type 0) (f : X → List Y) (xs : List X) → AllByRecursion P (flat_map f xs) → AllByRecursion (λ x. AllByRecursion P (f x)) xs
All-parts P f [] h = tt
All-parts P f (x ∷ xs) h = (All-left P (f x) (flat_map f xs) h, All-parts P f xs (All-right P (f x) (flat_map f xs) h))

pub All-joined : {X Y : Type 0} (P : Y → Type 0) (f : X → List Y) (xs : List X) → AllByRecursion (λ x. AllByRecursion P (f x)) xs → AllByRecursion P (flat_map f xs)
All-joined P f [] h = tt
All-joined P f (x ∷ xs) h = All-append P (f x) (flat_map f xs) h.0 (All-joined P f xs h.1)

-- pairs under maps
pub Pairwise-of_map : {X Y : Type 0} (R : Y → Y → Type 0) (f : X → Y) (xs : List X) → Pairwise (λ x y. R (f x) (f y)) xs → Pairwise R (map f xs)
Pairwise-of_map R f [] h = tt
Pairwise-of_map R f (x ∷ xs) h = (All-of_map (R (f x)) f xs h.0, Pairwise-of_map R f xs h.1)

pub Pairwise-under_map : {X Y : Type 0} (R : Y → Y → Type 0) (f : X → Y) (xs : List X) → Pairwise R (map f xs) → Pairwise (λ x y. R (f x) (f y)) xs
Pairwise-under_map R f [] h = tt
Pairwise-under_map R f (x ∷ xs) h = (All-under_map (R (f x)) f xs h.0, Pairwise-under_map R f xs h.1)

pub Pairwise-weaker : {X : Type 0} (R S : X → X → Type 0) → ((x y : X) → R x y → S x y) → (xs : List X) → Pairwise R xs → Pairwise S xs
Pairwise-weaker R S f [] h = tt
Pairwise-weaker R S f (x ∷ xs) h = (All-map (λ y. f x y) xs h.0, Pairwise-weaker R S f xs h.1)

-- what is not denied holds where each part is so
pub All-stable : {X : Type 0} (P : X → Type 0) → ((x : X) → ¬ (¬ P x) → P x) → (xs : List X) → ¬ (¬ AllByRecursion P xs) → AllByRecursion P xs
All-stable P f [] h = tt
All-stable P f (x ∷ xs) h = (f x (λ no. h (λ all. no all.0)), All-stable P f xs (λ no. h (λ all. no all.1)))

pub Pairwise-stable : {X : Type 0} (R : X → X → Type 0) → ((x y : X) → ¬ (¬ R x y) → R x y) → (xs : List X) → ¬ (¬ Pairwise R xs) → Pairwise R xs
Pairwise-stable R f [] h = tt
Pairwise-stable R f (x ∷ xs) h = (All-stable (R x) (f x) xs (λ no. h (λ all. no all.0)), Pairwise-stable R f xs (λ no. h (λ all. no all.1)))

-- one more at the end
pub Pairwise-push : {X : Type 0} (R : X → X → Type 0) (xs : List X) (y : X) → Pairwise R xs → AllByRecursion (λ x. R x y) xs → Pairwise R (xs ++ y ∷ [])
Pairwise-push R [] y h k = (tt, tt)
Pairwise-push R (x ∷ xs) y h k = (All-append (R x) xs (y ∷ []) h.0 (k.0, tt), Pairwise-push R xs y h.1 k.1)

pub Pairwise-pushed : {X : Type 0} (R : X → X → Type 0) (xs : List X) (y : X) → Pairwise R (xs ++ y ∷ []) → Pairwise R xs × AllByRecursion (λ x. R x y) xs
Pairwise-pushed R [] y h = (tt, tt)
Pairwise-pushed R (x ∷ xs) y h =
    let r = Pairwise-pushed R xs y h.1 in
    let a = All-right (R x) xs (y ∷ []) h.0 in
    ((All-left (R x) xs (y ∷ []) h.0, r.0), (a.0, r.1))

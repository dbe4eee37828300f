-- What holds of each element of a list.
use Rattle.std.proofs.Common.{◌≡◌, ℕ, zero, suc, Bool, true, false, List, [], ◌∷◌, ◌++◌, take, refl, if◌then◌else◌}
use Rattle.std.specs.List.{AllByRecursion, filter, flat_map, fold, list_all}

pub every_append : {X : Type 0} (P : X → Type 0) (xs ys : List X) → AllByRecursion P xs → AllByRecursion P ys → AllByRecursion P (xs ++ ys)
every_append P [] ys a b = b
every_append P (x ∷ xs) ys a b = (a.0, every_append P xs ys a.1 b)

pub every_flat : {X Y : Type 0} (P : X → Type 0) (Q : Y → Type 0) (f : X → List Y) → ((x : X) → P x → AllByRecursion Q (f x)) → (xs : List X) → AllByRecursion P xs → AllByRecursion Q (flat_map f xs)
every_flat P Q f each [] a = tt
every_flat P Q f each (x ∷ xs) a = every_append Q (f x) (flat_map f xs) (each x a.0) (every_flat P Q f each xs a.1)

pub every_filter : {X : Type 0} (P : X → Type 0) (p : X → Bool) (xs : List X) → AllByRecursion P xs → AllByRecursion P (filter p xs)
every_filter P p [] a = tt
every_filter P p (x ∷ xs) a = by_test (p x) (every_filter P p xs a.1)
  where
    by_test : (b : Bool) → AllByRecursion P (filter p xs) → AllByRecursion P (if b then x ∷ filter p xs else filter p xs)
    by_test true more = (a.0, more)
    by_test false more = more

pub every_take : {X : Type 0} (P : X → Type 0) (n : ℕ) (xs : List X) → AllByRecursion P xs → AllByRecursion P (take n xs)
every_take P zero xs a = tt
every_take P (suc n) [] a = tt
every_take P (suc n) (x ∷ xs) a = (a.0, every_take P n xs a.1)

pub every_fold : {X : Type 0} (P : X → Type 0) (f : List X → X → List X) → ((xs : List X) (x : X) → AllByRecursion P xs → P x → AllByRecursion P (f xs x)) → (xs acc : List X) → AllByRecursion P acc → AllByRecursion P xs
    → AllByRecursion P (fold f acc xs)
every_fold P f keeps [] acc a b = a
every_fold P f keeps (x ∷ xs) acc a b = every_fold P f keeps xs (f acc x) (keeps acc x a b.0) b.1

pub every_passes : {X : Type 0} (p : X → Bool) (xs : List X) → AllByRecursion (λ x. p x ≡ true) xs → list_all p xs ≡ true
every_passes p [] a = refl
every_passes p (x ∷ xs) a = rw (a.0, every_passes p xs a.1) refl

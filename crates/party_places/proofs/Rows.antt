-- Lists by their last element, and by their parts.
use Rattle.std.proofs.Common.{◌≡◌, ◌⊎◌, inl, inr, ℕ, List, [], ◌∷◌, ◌++◌, length, refl, ap, arith}
use Rattle.party_places.specs.Searches.{Looked, places_looked}

-- a list is empty, or has a last element
pub by_last : {X : Type 0} (xs : List X) → (xs ≡ []) ⊎ ((front : List X) × (last : X) × (xs ≡ front ++ last ∷ []))
by_last [] = inl refl
by_last {X} (x ∷ xs) = more (by_last xs)
  where
    more : (xs ≡ []) ⊎ ((front : List X) × (last : X) × (xs ≡ front ++ last ∷ [])) → (x ∷ xs ≡ []) ⊎ ((front : List X) × (last : X) × (x ∷ xs ≡ front ++ last ∷ []))
    more (inl none) = inr ([], x, ap (λ (l : List X). x ∷ l) none)
    more (inr (front, last, is)) = inr (x ∷ front, last, ap (λ (l : List X). x ∷ l) is)

some_last : {X : Type 0} (xs : List X) (x : X) → [] ≡ xs ++ x ∷ [] → ⊥
some_last [] x e = cc
some_last (y ∷ xs) x e = cc

some_first : {X : Type 0} (xs : List X) (x : X) → xs ++ x ∷ [] ≡ [] → ⊥
some_first [] x e = cc
some_first (y ∷ xs) x e = cc

-- equal lists have equal last elements
pub same_last : {X : Type 0} (xs ys : List X) (x y : X) → xs ++ x ∷ [] ≡ ys ++ y ∷ [] → (xs ≡ ys) × (x ≡ y)
same_last [] [] x y e = (refl, (let f : x ≡ y = cc in f))
same_last {X} [] (b ∷ ys) x y e = absurd (some_last ys y (let f : ◌≡◌ {A = List X} [] (ys ++ y ∷ []) = cc in f))
same_last {X} (a ∷ xs) [] x y e = absurd (some_first xs x (let f : xs ++ x ∷ [] ≡ [] = cc in f))
same_last {X} (a ∷ xs) (b ∷ ys) x y e =
    let first : a ≡ b = cc in
    let rest : xs ++ x ∷ [] ≡ ys ++ y ∷ [] = cc in
    let more = same_last xs ys x y rest in
    ((let f : a ∷ xs ≡ b ∷ ys = (λ i. first i ∷ more.0 i) in f), more.1)

-- equal lists have equal parts, where the first ones are of one length
pub same_parts : {X : Type 0} (a b c d : List X) → a ++ b ≡ c ++ d → length a ≡ length c → (a ≡ c) × (b ≡ d)
same_parts [] b [] d e n = (refl, e)
same_parts [] b (y ∷ c) d e n = absurd (omega (arith, n))
same_parts (x ∷ a) b [] d e n = absurd (omega (arith, n))
same_parts (x ∷ a) b (y ∷ c) d e n =
    let first : x ≡ y = cc in
    let rest : a ++ b ≡ c ++ d = cc in
    let more = same_parts a b c d rest (omega (arith, n)) in
    ((λ i. first i ∷ more.0 i), more.1)

-- the candidates looked at, split as their places are
pub split_looked : (looked : List Looked) (front back : List ℕ) → places_looked looked ≡ front ++ back
    → (a : List Looked) × (b : List Looked) × (looked ≡ a ++ b) × (places_looked a ≡ front) × (places_looked b ≡ back)
split_looked looked [] back e = ([], looked, refl, refl, e)
split_looked [] (p ∷ front) back e = absurd cc
split_looked (l ∷ looked) (p ∷ front) back e =
    let first : l.place ≡ p = cc in
    let rest : places_looked looked ≡ front ++ back = cc in
    let more = split_looked looked front back rest in (
      l ∷ more.0,
      more.1,
      ap (λ (ls : List Looked). l ∷ ls) more.2,
      (λ i. first i ∷ more.3 i),
      more.4,
    )

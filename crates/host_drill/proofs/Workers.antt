-- What is so of each worker of a list that grows or shrinks at its end.
use Rattle.std.proofs.Common.{◌<◌, ℕ, zero, suc, List, [], ◌∷◌, ◌++◌, length, arith}
use Rattle.host_drill.specs.Meeting.{EachAt}

pub each_push : {X : Type 0} (So : ℕ → X → Type 0) (xs : List X) (y : X) → EachAt So xs → So (length xs) y → EachAt So (xs ++ y ∷ [])
each_push So [] y all one zero d less = one
each_push So [] y all one (suc k) d less = absurd (let e : ⊥ = omega (arith, less) in e)
each_push So (x ∷ xs) y all one zero d less = all zero d (let e : 0 < suc (length xs) = omega arith in e)
each_push So (x ∷ xs) y all one (suc k) d less =
    each_push (λ i. So (suc i)) xs y (λ i e l. all (suc i) e (let f : suc i < suc (length xs) = omega (arith, l) in f)) one k d
    (let f : k < length (xs ++ y ∷ []) = omega (arith, less) in f)

pub each_front : {X : Type 0} (So : ℕ → X → Type 0) (xs : List X) (y : X) → EachAt So (xs ++ y ∷ []) → EachAt So xs × So (length xs) y
each_front So [] y all =
    ((λ k d less. absurd (let e : ⊥ = omega (arith, less) in e)), all 0 y (let e : 0 < 1 = omega arith in e))
each_front {X} So (x ∷ xs) y all =
    let behind = each_front (λ i. So (suc i)) xs y (λ i e l. all (suc i) e (let f : suc i < suc (length (xs ++ y ∷ [])) = omega (arith, l) in f)) in
    (go behind.0, behind.1)
  where
    go : EachAt (λ i. So (suc i)) xs → EachAt So (x ∷ xs)
    go behind zero d less = all zero d (let e : 0 < suc (length (xs ++ y ∷ [])) = omega arith in e)
    go behind (suc k) d less = behind k d (let f : k < length xs = omega (arith, less) in f)

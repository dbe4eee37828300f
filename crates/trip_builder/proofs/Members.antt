-- What is among a list that is put together from others, and that no element stands in it twice.
use Rattle.std.proofs.Common.{◌≡◌, ◌∙◌, ℕ, zero, suc, ◌<◌, arith, get_or, length, ◌⊎◌, inl, inr, ⊎_elim, Bool, true, false, List, [], ◌∷◌, ◌++◌, refl, sym, ap, subst, true≢false, if◌then◌else◌, ltb, ltb-true}
use Rattle.std.specs.List.{filter, flat_map}
use Rattle.trip_builder.specs.Best.{IsAmong, AreApart}

pub among_append : {X : Type 0} (xs ys : List X) (x : X) → IsAmong (xs ++ ys) x → IsAmong xs x ⊎ IsAmong ys x
among_append [] ys x is = inr is
among_append (y ∷ xs) ys x (inl e) = inl (inl e)
among_append (y ∷ xs) ys x (inr is) = ⊎_elim (λ here. inl (inr here)) (λ there. inr there) (among_append xs ys x is)

pub append_among : {X : Type 0} (xs ys : List X) (x : X) → IsAmong xs x ⊎ IsAmong ys x → IsAmong (xs ++ ys) x
append_among [] ys x (inl is) = absurd is
append_among [] ys x (inr is) = is
append_among (y ∷ xs) ys x (inl (inl e)) = inl e
append_among (y ∷ xs) ys x (inl (inr is)) = inr (append_among xs ys x (inl is))
append_among (y ∷ xs) ys x (inr is) = inr (append_among xs ys x (inr is))

pub among_filter : {X : Type 0} (p : X → Bool) (xs : List X) (x : X) → IsAmong (filter p xs) x → IsAmong xs x × (p x ≡ true)
among_filter p [] x is = absurd is
among_filter p (y ∷ xs) x is = by_test (p y) refl is (among_filter p xs x)
  where
    by_test : (b : Bool) → p y ≡ b → IsAmong (if b then y ∷ filter p xs else filter p xs) x → (IsAmong (filter p xs) x → IsAmong xs x × (p x ≡ true))
        → IsAmong (y ∷ xs) x × (p x ≡ true)
    by_test true e (inl here) more = (inl here, ap p (sym here) ∙ e)
    by_test true e (inr there) more = (inr (more there).0, (more there).1)
    by_test false e is more = (inr (more is).0, (more is).1)

pub filter_among : {X : Type 0} (p : X → Bool) (xs : List X) (x : X) → IsAmong xs x → p x ≡ true → IsAmong (filter p xs) x
filter_among p [] x is passes = absurd is
filter_among p (y ∷ xs) x is passes = by_test (p y) refl is (λ there. filter_among p xs x there passes)
  where
    by_test : (b : Bool) → p y ≡ b → IsAmong (y ∷ xs) x → (IsAmong xs x → IsAmong (filter p xs) x) → IsAmong (if b then y ∷ filter p xs else filter p xs) x
    by_test true e (inl here) more = inl here
    by_test true e (inr there) more = inr (more there)
    by_test false e (inl here) more = absurd (true≢false (sym passes ∙ (ap p (sym here) ∙ e)))
    by_test false e (inr there) more = more there

pub among_pieces : {X Y : Type 0} (f : X → List Y) (xs : List X) (t : Y) → IsAmong (flat_map f xs) t → (x : X) × (IsAmong xs x × IsAmong (f x) t)
among_pieces f [] t is = absurd is
among_pieces f (x ∷ xs) t is =
    ⊎_elim (λ here. (x, (inl refl, here))) (λ there. (let more = among_pieces f xs t there in (more.0, (inr more.1.0, more.1.1)))) (among_append (f x) (flat_map f xs) t is)

pub pieces_among : {X Y : Type 0} (f : X → List Y) (xs : List X) (x : X) (t : Y) → IsAmong xs x → IsAmong (f x) t → IsAmong (flat_map f xs) t
pieces_among f [] x t is has = absurd is
pieces_among f (y ∷ xs) x t (inl e) has = append_among (f y) (flat_map f xs) t (inl (subst (λ z. IsAmong (f z) t) (sym e) has))
pieces_among f (y ∷ xs) x t (inr is) has = append_among (f y) (flat_map f xs) t (inr (pieces_among f xs x t is has))

pub among_at : {X : Type 0} (xs : List X) (k : ℕ) (d : X) → k < length xs → IsAmong xs (get_or xs k d)
among_at [] k d h = absurd (omega (arith, h))
among_at (x ∷ xs) zero d h = inl refl
among_at (x ∷ xs) (suc k) d h = inr (among_at xs k d (omega (arith, h)))

pub at_among : {X : Type 0} (xs : List X) (x : X) → IsAmong xs x → (k : ℕ) × ((k < length xs) × (get_or xs k x ≡ x))
at_among [] x is = absurd is
at_among (y ∷ xs) x (inl e) = (0, (omega arith, e))
at_among (y ∷ xs) x (inr is) = let more = at_among xs x is in (suc more.0, (omega (arith, more.1.0), more.1.1))

-- ---- no element twice

pub apart_append : {X : Type 0} (xs ys : List X) → AreApart xs → AreApart ys → ((x : X) → IsAmong xs x → IsAmong ys x → ⊥) → AreApart (xs ++ ys)
apart_append [] ys a b none = b
apart_append (x ∷ xs) ys a b none =
    (λ is. ⊎_elim a.0 (none x (inl refl)) (among_append xs ys x is), apart_append xs ys a.1 b (λ z here there. none z (inr here) there))

pub apart_filter : {X : Type 0} (p : X → Bool) (xs : List X) → AreApart xs → AreApart (filter p xs)
apart_filter p [] a = tt
apart_filter p (x ∷ xs) a = by_test (p x) (apart_filter p xs a.1)
  where
    by_test : (b : Bool) → AreApart (filter p xs) → AreApart (if b then x ∷ filter p xs else filter p xs)
    by_test true more = (λ is. a.0 (among_filter p xs x is).0, more)
    by_test false more = more

pub apart_pieces : {X Y : Type 0} (f : X → List Y) (xs : List X) → ((x : X) → AreApart (f x)) → ((x y : X) (t : Y) → IsAmong (f x) t → IsAmong (f y) t → x ≡ y)
    → AreApart xs → AreApart (flat_map f xs)
apart_pieces f [] each tells a = tt
apart_pieces f (x ∷ xs) each tells a =
    apart_append (f x) (flat_map f xs) (each x) (apart_pieces f xs each tells a.1)
    (λ t here there. (let more = among_pieces f xs t there in a.0 (subst (IsAmong xs) (sym (tells x more.0 t here more.1.1)) more.1.0)))

pub found_among : {X : Type 0} (xs : List X) (k : ℕ) (x : X) → true ≡ ltb k (length xs) → x ≡ get_or xs k x → IsAmong xs x
found_among xs k x small is = subst (IsAmong xs) (sym is) (among_at xs k x (ltb-true k (length xs) (sym small)))

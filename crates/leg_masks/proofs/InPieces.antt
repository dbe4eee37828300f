-- The pieces of a span, one by one.
use Rattle.std.proofs.Common.{◌≡◌, suc, ⊎_elim, false, ℕ, ◌<◌, ◌≤◌, List, [], ◌∷◌, length, get_or, refl, sym, ap, ◌∙◌, subst, arith}
use Rattle.std.specs.List.{AllByRecursion}
use Rattle.leg_masks.specs.Interval.{Interval, IsPiece, pieces, is_piece}
use Rattle.leg_masks.proofs.HalfLegs.{pieces-whole, pieces-border, pieces_some, cases_piece}

at_first : (xs : List Interval) (d : Interval) → 1 ≤ length xs → (rest : List Interval) × (xs ≡ get_or xs 0 d ∷ rest)
at_first [] d l = absurd (omega arith)
at_first (x ∷ xs) d l = (xs, refl)

-- the first of the pieces, as it is read
pub first_is : (span x : Interval) (ps : List Interval) → ps ≡ pieces span → x ≡ get_or ps 0 x → (rest : List Interval) × (pieces span ≡ x ∷ rest)
first_is span x ps are is =
    let f = at_first ps x (subst (λ (l : List Interval). 1 ≤ length l) (sym are) (pieces_some span).0) in
    (f.0, sym are ∙ (f.1 ∙ ap (λ (y : Interval). y ∷ f.0) (sym is)))

pub head_same : (x y : Interval) (xs ys : List Interval) → x ∷ xs ≡ y ∷ ys → x ≡ y
head_same x y xs ys e = cc

tail_same : (x y : Interval) (xs ys : List Interval) → x ∷ xs ≡ y ∷ ys → xs ≡ ys
tail_same x y xs ys e = cc

-- one piece alone
pub none_left : (span x : Interval) (rest ps : List Interval) → ps ≡ pieces span → pieces span ≡ x ∷ rest → length ps ≡ 1 → rest ≡ []
none_left span x [] ps same are one = refl
none_left span x (y ∷ ys) ps same are one = absurd (too_many (length ps) (length ys) (ap length (same ∙ are)) one)
  where
    too_many : (n m : ℕ) → n ≡ suc (suc m) → n ≡ 1 → ⊥
    too_many n m e f = omega (arith, e, f)

-- the second of the pieces
pub record Second (span x y : Interval) : Type 0 where
  pub are : pieces span ≡ x ∷ y ∷ []
  pub piece : IsPiece y
  pub ends : y.to ≤ span.to

pub second_of : (span x y : Interval) (rest ps : List Interval) → ps ≡ pieces span → AllByRecursion IsPiece ps → pieces span ≡ x ∷ rest → (length ps ≡ 1 → ⊥) → y ≡ get_or ps 1 y → Second span x y
second_of span x y [] ps same all are more is = absurd (more (ap length (same ∙ are)))
second_of span x y (z ∷ zs) ps same all are more is =
    let two = pieces_some span in
    let l : length (pieces span) ≡ suc (suc (length zs)) = ap length are in
    let none : zs ≡ [] = nothing zs (let m : length zs ≤ 0 = omega (arith, two.1, l) in m) in
    let its : y ≡ z = is ∙ ap (λ (q : List Interval). get_or q 1 y) (same ∙ are) in
    let border : is_piece span ≡ false = ⊎_elim (λ (p : IsPiece span). absurd (let one : length (pieces span) ≡ 1 = ap length (pieces-whole span p) in omega (arith, one, l))) (λ (b : is_piece span ≡ false). b) (cases_piece span) in
    let last = head_same z _ zs [] (tail_same x _ (z ∷ zs) _ (sym are ∙ pieces-border span border)) in
    record {
      are = are ∙ ((λ i. x ∷ sym its i ∷ none i));
      piece = subst IsPiece (sym its) (subst (AllByRecursion IsPiece) (same ∙ are) all).1.0;
      ends = subst (λ (q : Interval). q.to ≤ span.to) (sym (its ∙ last)) (omega arith);
    }
  where
    nothing : (zs : List Interval) → length zs ≤ 0 → zs ≡ []
    nothing [] l = refl
    nothing (q ∷ qs) l = absurd (omega arith)

-- Clocks that tell nothing.
use Rattle.std.proofs.Common.{◌≡◌, ◌∙◌, ℕ, List, [], ◌∷◌, Option, None, length, map, refl, replicate, ap, subst}

-- what they tell is as often nothing as there are clocks
all_untold : {C R : Type 0} (told : C → Option R) → ((c : C) → told c ≡ None) → (clocks : List C) → map told clocks ≡ replicate (length clocks) None
all_untold told none [] = refl
all_untold {C} {R} told none (c ∷ clocks) =
    ap (λ (o : Option R). o ∷ map told clocks) (none c) ∙ ap (λ (l : List (Option R)). None ∷ l) (all_untold told none clocks)

pub untold : {C R : Type 0} (told : C → Option R) → ((c : C) → told c ≡ None) → (clocks : List C) (n : ℕ) → length clocks ≡ n
    → map told clocks ≡ replicate n None
untold told none clocks n many = subst (λ (k : ℕ). map told clocks ≡ replicate k None) many (all_untold told none clocks)

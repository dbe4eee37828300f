-- A list of three.
use Rattle.std.proofs.Common.{◌≡◌, ◌<◌, ◌≤◌, List, [], ◌∷◌, length, get_or, arith}

pub three : {X : Type 0} (ws : List X) (a b c : X) → 3 ≤ length ws → length ws < 4
    → a ≡ get_or ws 0 a → b ≡ get_or ws 1 b → c ≡ get_or ws 2 c → ws ≡ a ∷ b ∷ c ∷ []
three [] a b c low high p q r = absurd (omega (arith, low))
three (x ∷ []) a b c low high p q r = absurd (omega (arith, low))
three (x ∷ y ∷ []) a b c low high p q r = absurd (omega (arith, low))
three (x ∷ y ∷ z ∷ []) a b c low high p q r = cc
three (x ∷ y ∷ z ∷ w ∷ ws) a b c low high p q r = absurd (omega (arith, high))

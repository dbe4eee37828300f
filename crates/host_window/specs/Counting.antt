-- Which writes begin an answer.
use Rattle.std.specs.Prelude.{◌≡◌, ◌<◌, ◌-◌, ◌⊎◌, ℕ, Bool, true, false}

-- The bytes that were left of the answer under way, those of a write, and those of them that were taken; whether an
-- answer has begun with them; and the bytes that are left now.
abbrev pub Turns : ℕ → ℕ → ℕ → Bool → ℕ → Type 0
Turns left size taken true after = (left ≡ 0) × (0 < taken) × (after ≡ size - taken)
Turns left size taken false after = ((taken ≡ 0) × (after ≡ left)) ⊎ ((0 < left) × (after ≡ left - taken))

-- What is shown of a cut that is found kept.
use Rattle.std.specs.Prelude.{◌≤◌, ◌<◌, ℕ}

-- a cut of at least this number is kept
abbrev pub IsKeptTo : (ℕ → Type 0) → ℕ → Type 0
IsKeptTo kept cut = ∥ ((n : ℕ) × (cut ≤ n) × kept n) ∥₁

-- the same, where there is a cut to wait for
abbrev pub MayLeave : (ℕ → Type 0) → ℕ → Type 0
MayLeave kept cut = 0 < cut → IsKeptTo kept cut

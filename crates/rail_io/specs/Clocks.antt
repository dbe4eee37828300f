-- The readings of clocks that tell them.
use Rattle.std.specs.Prelude.{ℕ, zero, suc, ◌+◌, ◌*◌, min, List, [], ◌∷◌, ◌≡◌, Option, IfSome, IsSomeAnd}
use Rattle.rail_time.specs.Moments.{last_second}

-- the i-th reading from the next one on: each is the tick later, and none is after the last moment
abbrev pub script_reading : ℕ → ℕ → ℕ → ℕ
script_reading next tick i = min (next + i * tick) last_second

-- the i-th of the listed readings, of which the last is repeated
abbrev pub listed_reading : List ℕ → ℕ → ℕ
listed_reading [] i = 0
listed_reading (m ∷ []) i = m
listed_reading (m ∷ n ∷ rest) zero = m
listed_reading (m ∷ n ∷ rest) (suc i) = listed_reading (n ∷ rest) i

-- the readings without the first one
abbrev pub MovesUp : Option (ℕ → ℕ) → Option (ℕ → ℕ) → Type 0
MovesUp before after = IfSome before (λ readings. IsSomeAnd after (λ later. (i : ℕ) → later i ≡ readings (i + 1)))

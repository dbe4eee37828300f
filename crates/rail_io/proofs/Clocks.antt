-- How readings move up.
use Rattle.std.proofs.Common.{◌≡◌, ◌<◌, ℕ, zero, suc, ◌+◌, min, List, [], ◌∷◌, drop, length, ap, ◌∙◌, arith}
use Rattle.rail_time.specs.Moments.{last_second}
use Rattle.rail_io.specs.Clocks.{script_reading, listed_reading}

pub script_moves : (next tick i : ℕ) → script_reading (min (next + tick) last_second) tick i ≡ script_reading next tick (i + 1)
script_moves next tick i = omega arith

pub list_moves : (ms : List ℕ) (at i : ℕ) → at + 1 < length ms → listed_reading (drop (at + 1) ms) i ≡ listed_reading (drop at ms) (i + 1)
list_moves [] at i h = absurd (omega (arith, h))
list_moves (m ∷ []) zero i h = absurd (omega (arith, h))
list_moves (m ∷ n ∷ rest) zero i h = let e : suc i ≡ i + 1 = omega arith in ap (listed_reading (m ∷ n ∷ rest)) e
list_moves (m ∷ rest) (suc at) i h =
    let e : suc at + 1 ≡ suc (at + 1) = omega arith in
    ap (λ (n : ℕ). listed_reading (drop n (m ∷ rest)) i) e ∙ list_moves rest at i (omega (arith, h))

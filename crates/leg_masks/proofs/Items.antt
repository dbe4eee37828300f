-- The parts of an item's word.
use Rattle.std.proofs.Common.{◌≡◌, ℕ, ◌+◌, ◌*◌, ◌/◌, ◌%◌, ◌<◌, ◌≤◌, arith}
use Rattle.leg_masks.specs.Interval.{Interval, item_word}

pub parts_of : (p f t : ℕ) → f < 256 → t < 256 → ((p * 65536 + f * 256 + t) / 65536 ≡ p) × ((p * 65536 + f * 256 + t) / 256 % 256 ≡ f) × ((p * 65536 + f * 256 + t) % 256 ≡ t)
parts_of p f t a b = (omega arith, omega arith, omega arith)

-- one word has one item
pub one_item : (p q : ℕ) (a b : Interval) → a.from < a.to → a.to ≤ 126 → b.from < b.to → b.to ≤ 126 → item_word p a ≡ item_word q b → (p ≡ q) × (a ≡ b)
one_item p q a b u v x y e =
    let place : p ≡ q = omega arith in
    let from : a.from ≡ b.from = omega arith in
    let to : a.to ≡ b.to = omega arith in
    (place, λ i. record { from = from i; to = to i })

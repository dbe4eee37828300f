-- The largest price.
use Rattle.std.proofs.Common.{ℕ, ◌≡◌, ◌+◌, ◌*◌, ◌/◌, ◌≤◌, arith}
use Rattle.std.proofs.lemmas.Nat.{mul-le}
use Rattle.std.proofs.Math.Nat.{mul-le-mul_left}
use Rattle.tariff.specs.Prices.{FareAmounts, price_of}

-- an adult pays at most this
adult_bound : (base legs_amount : ℕ) → base ≤ 10_000_000 → legs_amount ≤ 10_000_000 * 126 → base + legs_amount ≤ 1_270_000_000
adult_bound base legs_amount b l = omega arith

half_bound : (p : ℕ) → p ≤ 1_270_000_000 → p * 5000 / 10000 ≤ 1_270_000_000
half_bound p h = omega arith

all_bound : (a k x y : ℕ) → a + k ≤ 8 → x ≤ a * 1_270_000_000 → y ≤ k * 1_270_000_000 → x + y ≤ 10_160_000_000
all_bound a k x y few ax ky = omega arith

pub price_bound : (fare : FareAmounts) (legs adults children : ℕ) → fare.base ≤ 10_000_000 → fare.per_leg ≤ 10_000_000 → legs ≤ 126 → adults + children ≤ 8 → price_of fare legs adults children ≤ 10_160_000_000
price_bound fare legs adults children cheap cheap_leg far few =
    let adult = adult_bound fare.base (fare.per_leg * legs) cheap (mul-le fare.per_leg legs 10_000_000 126 cheap_leg far) in
    all_bound adults children _ _ few (mul-le-mul_left adults adult) (mul-le-mul_left children (half_bound _ adult))

pub is_at_most : (a b n : ℕ) → b ≤ n → a ≡ b → a ≤ n
is_at_most a b n h is = omega arith

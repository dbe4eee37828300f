-- What a segment costs.
use Rattle.std.specs.Prelude.{ℕ, ◌+◌, ◌*◌, ◌/◌}

-- how many legs are priced at once at most: those of the longest run
abbrev pub most_priced_legs : ℕ
most_priced_legs = 126

-- how many passengers are priced at once at most
abbrev pub most_priced_passengers : ℕ
most_priced_passengers = 8

-- the greatest price of a segment: eight adults on the longest run at the greatest fare
abbrev pub greatest_price : ℕ
greatest_price = 10_160_000_000

-- what contracts see of a fare
pub record FareAmounts : Type 0 where
  pub base : ℕ
  pub per_leg : ℕ

-- an adult pays the base and the amount for each leg
abbrev pub adult_price : FareAmounts → ℕ → ℕ
adult_price fare legs = fare.base + fare.per_leg * legs

-- a child pays half of that, rounded down
abbrev pub child_price : FareAmounts → ℕ → ℕ
child_price fare legs = adult_price fare legs * 5000 / 10000

abbrev pub price_of : FareAmounts → ℕ → ℕ → ℕ → ℕ
price_of fare legs adults children = adults * adult_price fare legs + children * child_price fare legs

-- A group of places, as contracts see it.
use Rattle.std.specs.Prelude.{ℕ}

-- one place for each number from the first to the last, all with these traits
pub record Seats : Type 0 where
  pub first : ℕ
  pub last : ℕ
  pub traits : ℕ

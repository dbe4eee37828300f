-- Numbered places of one run, each taken on spans of legs.
use Rattle.std.specs.Prelude.{◌≡◌, ℕ, ◌<◌, List, All}
use Rattle.leg_masks.specs.Interval.{Interval, Meet}

-- how many reservations one run can have
abbrev pub most_reservations : ℕ
most_reservations = 1_024

-- a place and the legs on which it is taken
pub record Held : Type 0 where
  pub place : ℕ
  pub span : Interval

-- the reservation takes the place on a leg of the span
abbrev pub Takes : Held → ℕ → Interval → Type 0
Takes one place span = (one.place ≡ place) × Meet one.span span

-- no reservation takes the place on a leg of the span
abbrev pub IsFree : List Held → ℕ → Interval → Type 0
IsFree held place span = All (λ one. Takes one place span → ⊥) held

-- the least place that is free on the span
pub record IsLeastFree (held : List Held) (places place : ℕ) (span : Interval) : Type 0 where
  pub known : place < places
  pub free : IsFree held place span
  pub least : (lower : ℕ) → lower < place → IsFree held lower span → ⊥

-- no place is free on the span
abbrev pub IsNoneFree : List Held → ℕ → Interval → Type 0
IsNoneFree held places span = (place : ℕ) → place < places → IsFree held place span → ⊥

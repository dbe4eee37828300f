-- The searches of a desk for free rows, over its life.
use Rattle.std.specs.Prelude.{◌≡◌, ℕ, ◌+◌, ◌-◌, ◌≤◌, List, ◌++◌, length}
use Rattle.history_model.specs.declared.entry.Step.{Step}
use Rattle.history_model.specs.declared.entry.Step.TheVariants.{Met}
use Rattle.claim_rule.specs.Rule.{BooksView, DeskView}
use Rattle.claim_rule.specs.Desks.{HasMet, IsOf, AddsSteps, Stepped}
use Rattle.booking_rows.specs.Starts.{Misses, misses_steps, AreMissesFrom}

-- Calls of a desk after each other, parts and meetings among them, and how many entries of its own came of its searches
-- for a free row. A search counts for at most the number of rows by which it moves on the first row that the desk has
-- not seen taken. A search for an ended booking may come after it, and isn't counted
pub data Searches (first : DeskView) : DeskView → ℕ → Type 0 where
  no_call : (desk : DeskView) (n : ℕ) → desk ≡ first → n ≡ 0 → Searches first desk n
  a_call : (old new : DeskView) (n : ℕ) (steps : List Step) → Searches first old n → AddsSteps old new steps
      → Searches first new n
  a_part : (old new : DeskView) (n : ℕ) → Searches first old n → Stepped Met old (record new { parted = old.parted })
      → Searches first new n
  a_meet : (old other new : DeskView) (n : ℕ) → Searches first old n → HasMet old other new → Searches first new n
  a_search : (old new : DeskView) (n many : ℕ) (steps rest : List Step) → Searches first old n
      → AddsSteps old new (steps ++ rest) → length steps ≤ new.past - old.past → many ≡ n + length steps
      → Searches first new many

-- however many searches a desk of these books has made, all of them together have at most one entry for each row
abbrev pub AreFew : Type 0
AreFew =
    (books : BooksView) (first last : DeskView) (n : ℕ) → IsOf books last → Searches first last n
    → n ≤ books.layout.rows

-- the misses of one search are at most as many as the rows from its first one on
abbrev pub MissesAreFew : Type 0
MissesAreFew =
    (from last : ℕ) (misses : Misses) → AreMissesFrom from last misses → length (misses_steps misses) ≤ last - from

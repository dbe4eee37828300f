-- Walls that are free for an export: no row and no place is held.
use Rattle.std.specs.Prelude.{◌≡◌, ◌⊎◌, ℕ, ◌+◌, ◌<◌, ◌≤◌, []}
use Rattle.std.specs.List.{AllByRecursion}
use Rattle.history_model.specs.declared.phase.Phase.TheVariants.{Making, Ending, Ended}
use Rattle.history_model.specs.declared.phase.EndKind.{EndKind}
use Rattle.history_model.specs.declared.phase.EndKind.TheVariants.{Exchange}
use Rattle.history_model.specs.Booking.{Booking, State, most_rows, next_generation, phase_at, successor_rows, successor_word}
use Rattle.history_model.specs.History.{own}
use Rattle.history_model.specs.Laws.{stage}
use Rattle.claim_rule.specs.Out.{AreSettled}
use Rattle.claim_rule.specs.Walls.{WallView}
use Rattle.cold_store.specs.Exports.{state_on}

-- the booking is made: it is sealed, or its row has one of a later generation
abbrev pub IsMade : State → ℕ → ℕ → Type 0
IsMade s row generation = (generation + 1 < next_generation s row) ⊎ (2 ≤ stage (phase_at s row generation))

-- the booking was turned to an exchange
abbrev pub IsExchanged : Booking → Type 0
IsExchanged b = (b.phase ≡ Ending Exchange) ⊎ (b.phase ≡ Ended Exchange)

-- where it was, its successor is made
abbrev pub HasSuccessor : State → Booking → Type 0
HasSuccessor s b =
    IsExchanged b → (row generation : ℕ) → row < successor_rows → b.end.successor ≡ successor_word row generation
    → IsMade s row generation

abbrev pub AreSucceeded : State → Type 0
AreSucceeded s = AllByRecursion (HasSuccessor s) s

-- The desks are between two calls of the service: none is ending a booking, and what one makes has no items. Each
-- exchange of theirs has its new booking, and so has each that the books opened with.
pub record IsTidyWall (w : WallView) : Type 0 where
  pub none_ending : AllByRecursion (λ b. (kind : EndKind) → b.phase ≡ Ending kind → ⊥) (state_on w)
  pub empty : AllByRecursion (λ b. b.phase ≡ Making → b.items ≡ []) (state_on w)
  pub settled : (desk : ℕ) → AreSettled (own w.history desk)
  pub succeeded : AreSucceeded w.layout.opening
  pub rows : w.layout.rows ≤ most_rows

-- What is shown of a cut that is kept.
use Rattle.std.proofs.Common.{◌≤◌, ◌<◌, ℕ, arith}
use mathlib.Core.Logic.{∥∥₁_map}
use Rattle.answer_gate.specs.Receipts.{IsKeptTo, MayLeave}

-- what is shown of a cut is shown of each before it
pub before : (kept : ℕ → Type 0) (last cut : ℕ) → MayLeave kept last → cut ≤ last → MayLeave kept cut
before kept last cut shown below some = ∥∥₁_map (shown (omega arith)) (λ it. (it.0, omega arith, it.2))

-- None so far is its own row's.
use Rattle.std.proofs.Common.{◌≢◌, ℕ, ◌<◌, get_or}
use Rattle.cold_store.specs.declared.draft.Follows.{Follows}
use Rattle.cold_store.proofs.draft.Draft.own_successor.Given as goal

abbrev pub invariant-loop-k : goal.invariant-loop-k
invariant-loop-k l = (j : ℕ) (x : Follows) → j < l.k → (get_or l.fn.self.follows j x).successor.row ≢ (get_or l.fn.self.follows j x).row

-- What turns do to a worker and its desk.
use Rattle.std.specs.Prelude.{◌≡◌, ◌<◌, ℕ, zero, suc, List, length, slice_index_or}
use mathlib.Core.List.{IsPrefix}
use Rattle.claim_rule.specs.Rule.{DeskView}

-- the desk stays the same one, has parted and joined no other, and what it had seen begins what it has seen
pub record KeepsDesk (old new : DeskView) : Type 0 where
  pub number : new.number ≡ old.number
  pub parted : new.parted ≡ old.parted
  pub joined : new.joined ≡ old.joined
  pub seen : IsPrefix old.seen new.seen

-- what one turn does, by the worker and the desk before it and after it
abbrev pub Doing : Type 0 → Type 1
Doing W = W → DeskView → W → DeskView → Type 0

-- this number of turns, one after the other, none of which ended the worker
abbrev pub GoesOn : {W : Type 0} → Doing W → (W → Type 0) → ℕ → W → DeskView → W → DeskView → Type 0
GoesOn does ended zero before old after new = (after ≡ before) × (new ≡ old)
GoesOn {W} does ended (suc turns) before old after new =
    (worker : W) × (desk : DeskView)
    × GoesOn does ended turns before old worker desk × does worker desk after new × (ended after → ⊥)

-- turns one after the other, the last of which alone ended the worker
pub record RunsToEnd {W : Type 0} (does : Doing W) (ended : W → Type 0) (before : W) (old : DeskView) (after : W)
    (new : DeskView) : Type 0 where
  pub turns : ℕ
  pub worker : W
  pub desk : DeskView
  pub on : GoesOn does ended turns before old worker desk
  pub last : does worker desk after new
  pub ends : ended after

-- so of the members of a crew, each before and after
abbrev pub EachMember : {M : Type 0} → (M → M → Type 0) → List M → List M → Type 0
EachMember so old new = (i : ℕ) (none : _) → i < length old → so (slice_index_or old i none) (slice_index_or new i none)

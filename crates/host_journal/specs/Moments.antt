-- The moments of a host that keeps a journal, and how one follows another.
use Rattle.std.specs.Prelude.{◌≡◌, ◌⊎◌, ◌<◌, ◌≤◌, ℕ, max, true, List, [], ◌∷◌, ◌++◌}
use Rattle.history_model.specs.declared.entry.Entry.{Entry}
use Rattle.claim_rule.specs.Out.{is_look}
use Rattle.answer_gate.specs.declared.state.Phase.TheVariants.{Looking}
use Rattle.answer_gate.specs.declared.state.Standing.{Standing}
use Rattle.answer_gate.specs.Standings.{HasRoom, Looked, entered, fresh, left}

-- a cut that was taken: its number, and the one history of all desks as it was when its looks began
pub record TakenCut : Type 0 where
  pub number : ℕ
  pub began : List Entry

-- A moment: the one history of all desks, how the gate stands, and the cuts that were taken, the last one first. With
-- it goes the number of the last cut that the journal has, with all before it, and of the last one that those who wait
-- have heard to be kept
pub record Moment : Type 0 where
  pub history : List Entry
  pub gate : Standing
  pub cuts : List TakenCut
  pub written : ℕ
  pub kept : ℕ

-- a desk looks; or it makes an entry of another kind, which it does only while somebody is inside
abbrev pub AddsEntry : Moment → Moment → Type 0
AddsEntry old new =
    (e : Entry) × ((is_look e.step ≡ true) ⊎ (0 < old.gate.inside))
    × (new ≡ record old { history = old.history ++ e ∷ [] })

-- one enters the gate; one leaves it, who was inside
abbrev pub Enters : Moment → Moment → Type 0
Enters old new = HasRoom old.gate × (new ≡ record old { gate = entered old.gate })

abbrev pub Leaves : Moment → Moment → Type 0
Leaves old new = (0 < old.gate.inside) × (new ≡ record old { gate = left old.gate })

-- a gate's other calls: who is inside, whether something changed, and what was taken stays, and no look begins
pub record Passes (old new : Standing) : Type 0 where
  pub inside : new.inside ≡ old.inside
  pub changed : new.changed ≡ old.changed
  pub taken : new.taken ≡ old.taken
  pub looking : new.phase ≡ Looking → old.phase ≡ Looking

abbrev pub MakesCall : Moment → Moment → Type 0
MakesCall old new = (gate : Standing) × Passes old.gate gate × (new ≡ record old { gate = gate })

-- the next cut is taken of a gate with nobody inside: its looks begin
abbrev pub TakesCut : Moment → Moment → Type 0
TakesCut old new =
    (old.gate.inside ≡ 0) × (number : ℕ) × Looked old.gate new.gate number
    × (new.cuts ≡ record { number = number; began = old.history } ∷ old.cuts) × (new.history ≡ old.history)
    × (new.written ≡ old.written) × (new.kept ≡ old.kept)

-- the journal has the cuts up to one that was taken
abbrev pub WritesCut : Moment → Moment → Type 0
WritesCut old new =
    (number : ℕ) × (old.written ≤ number) × (number ≤ old.gate.taken) × (new ≡ record old { written = number })

-- those who wait for a cut hear that the journal has it
abbrev pub TellsKept : Moment → Moment → Type 0
TellsKept old new = (number : ℕ) × (number ≤ old.written) × (new ≡ record old { kept = max old.kept number })

abbrev pub Follows : Moment → Moment → Type 0
Follows old new =
    AddsEntry old new ⊎ Enters old new ⊎ Leaves old new ⊎ MakesCall old new ⊎ TakesCut old new ⊎ WritesCut old new
    ⊎ TellsKept old new

-- each moment follows the one before, and the last is this one
abbrev pub LeadsTo : Moment → List Moment → Moment → Type 0
LeadsTo first [] last = last ≡ first
LeadsTo first (next ∷ more) last = Follows first next × LeadsTo next more last

-- A host begins: the gate is fresh, and the journal has what the books opened with, which counts as cut 0
pub record Begins (m : Moment) : Type 0 where
  pub gate : m.gate ≡ fresh
  pub cuts : m.cuts ≡ record { number = 0; began = m.history } ∷ []
  pub written : m.written ≡ 0
  pub kept : m.kept ≡ 0

-- What was written of a note.
use Rattle.std.specs.Prelude.{◌≡◌, ◌⊎◌, ℕ, List, [], ◌++◌, Option}
use Rattle.rail_io.specs.Faults.{Rose}
use Rattle.rail_io.specs.Told.{with_end}

-- a front of the note was written into the notes: all of it, unless these failed
pub record IsNoted (before after : Option (List ℕ)) (faults_before faults_after : ℕ) (text : List ℕ) : Type 0 where
  pub written : List ℕ
  pub left : List ℕ
  pub told : after ≡ with_end before written
  pub is : text ≡ written ++ left
  pub whole : (left ≡ []) ⊎ Rose faults_before faults_after

-- so of the notes themselves, before and after
abbrev pub TakesNote : {E : Type 0} → (E → Option (List ℕ)) → (E → ℕ) → E → E → List ℕ → Type 0
TakesNote told faults old new text = IsNoted (told old) (told new) (faults old) (faults new) text

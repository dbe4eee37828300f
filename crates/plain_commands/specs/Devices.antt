-- The devices of a command: what each tells and how often it has failed, before the call and after it.
use Rattle.std.specs.Prelude.{◌≡◌, ℕ, List, Option}
use Rattle.rail_io.specs.Faults.{Rose}
use Rattle.rail_io.specs.Told.{WritesWhere}
use Rattle.host_catalogue.specs.Files.{Files}
use Rattle.host_catalogue.specs.Noted.{TakesNote}
use Rattle.host_replay.specs.Input.{Told, told_of}

-- a source or a sink, as it was handed in and as it is left
pub record Stream (D : Type 0) : Type 0 where
  pub told : D → Option (List ℕ)
  pub faults : D → ℕ
  pub old : D
  pub new : D

-- and a shelf
pub record Shelf (D : Type 0) : Type 0 where
  pub told : D → Files
  pub faults : D → ℕ
  pub misses : D → ℕ
  pub old : D
  pub new : D

pub record Devices (F S K E : Type 0) : Type 0 where
  pub shelf : Shelf F
  pub input : Stream S
  pub output : Stream K
  pub notes : Stream E

-- what a source or a sink told before the call, and what it tells after it
abbrev pub before : {D : Type 0} → Stream D → Option (List ℕ)
before s = s.told s.old

abbrev pub after : {D : Type 0} → Stream D → Option (List ℕ)
after s = s.told s.new

-- the files of a shelf, where it tells them
abbrev pub files_of : {D : Type 0} → Shelf D → Files
files_of s = s.told s.old

-- what the input and the output tell, before and after
abbrev pub streams_of : {F S K E : Type 0} → Devices F S K E → Told
streams_of d = told_of (before d.input) (after d.input) (before d.output) (after d.output)

-- it failed in this call; or it didn't
abbrev pub HasFailed : {D : Type 0} → Stream D → Type 0
HasFailed s = Rose (s.faults s.old) (s.faults s.new)

abbrev pub IsSteady : {D : Type 0} → Stream D → Type 0
IsSteady s = s.faults s.new ≡ s.faults s.old

abbrev pub ShelfFailed : {D : Type 0} → Shelf D → Type 0
ShelfFailed s = Rose (s.faults s.old) (s.faults s.new)

-- a fact of a shelf's counts of faults and of misses, each before and after
abbrev pub OfShelf : {D : Type 0} → Shelf D → (ℕ → ℕ → ℕ → ℕ → Type 0) → Type 0
OfShelf s P = P (s.faults s.old) (s.faults s.new) (s.misses s.old) (s.misses s.new)

-- A failure of the source or the sink in this call is what this status says, and at every other status there was none.
pub record FailsAt {D : Type 0} (fault status : ℕ) (s : Stream D) : Type 0 where
  pub cause : status ≡ fault → HasFailed s
  pub steady : (status ≡ fault → ⊥) → IsSteady s

-- the notes took a front of this text: all of it, unless they failed
abbrev pub Takes : {D : Type 0} → Stream D → List ℕ → Type 0
Takes s text = TakesNote s.told s.faults s.old s.new text

-- Where the input and the output tell their bytes, and this holds, some bytes are written: this of those to come.
abbrev pub Writes : {F S K E : Type 0} → Type 0 → Devices F S K E → (List ℕ → List ℕ → Type 0) → Type 0
Writes Holds d Of = WritesWhere Holds (before d.input) (before d.output) (after d.output) Of

-- nothing is touched but the notes
pub record IsUntouched {F S K E : Type 0} (d : Devices F S K E) : Type 0 where
  pub unfetched : d.shelf.new ≡ d.shelf.old
  pub unread : d.input.new ≡ d.input.old
  pub unwritten : d.output.new ≡ d.output.old

-- What contracts see of an outbox.
use Rattle.std.specs.Prelude.{ℕ, List, [], ◌≡◌, ◌+◌, ◌≤◌, ◌<◌, ◌++◌, length, take, Option}
use Rattle.rail_io.specs.Told.{with_end}
use Rattle.host_io.specs.Wires.{Limits}
use Rattle.rail_io.specs.declared.sink.PushedBoth.{PushedBoth}
use Rattle.rail_io.specs.declared.sink.PushedBoth.TheVariants.{Took, Failed}

pub record OutboxView : Type 0 where
  -- the bytes that were taken and that the sink hasn't got
  pub held : List ℕ
  -- how many were taken since none was last held
  pub used : ℕ

-- the most bytes that it has room for
abbrev pub most_held : ℕ
most_held = 65536

-- there is room for the piece
abbrev pub Fits : OutboxView → List ℕ → Type 0
Fits o piece = o.used + length piece ≤ most_held

-- no more were taken than there is room for, and all the room is free again where none is held
abbrev pub IsInRoom : OutboxView → Type 0
IsInRoom o = (o.used ≤ most_held) × (o.held ≡ [] → o.used ≡ 0)

-- How many bytes went out, how many were taken, and for how many there is memory: the memory is that of its making, and
-- no byte that went out is kept where no other is.
abbrev pub Lies : ℕ → ℕ → ℕ → Type 0
Lies sent taken memory = (sent ≤ taken) × (taken ≤ most_held) × (most_held ≤ memory) × (sent ≡ taken → taken ≡ 0)

-- it holds the piece too, after all else
abbrev pub with_piece : OutboxView → List ℕ → OutboxView
with_piece o piece = record { held = o.held ++ piece; used = o.used + length piece }

-- what a call takes of a piece that goes out after others: its first bytes, or nothing
abbrev pub TakesSome : Option (List ℕ) → Option (List ℕ) → List ℕ → PushedBoth → Type 0
TakesSome before after piece (Took n) = (n ≤ length piece) × (after ≡ with_end before (take n piece))
TakesSome before after piece (Failed n) = (n < length piece) × (after ≡ with_end before (take n piece))

-- What a sink may show that stays the same while it takes bytes: those still to come from where it leads, how that is
-- set, and the cut that it is held for.
pub record Steady : Type 0 where
  pub incoming : Option (List ℕ)
  pub limits : Option Limits
  pub cut : ℕ

-- all that each take leaves as it was is as it was
abbrev pub Stays : {K : Type 0} → (K → List ℕ → K → Type 0) → K → K → Type 0
Stays {K} takes old new = (seen : K → Steady)
    → ((before after : K) → (bytes : List ℕ) → takes before bytes after → seen after ≡ seen before)
    → seen new ≡ seen old

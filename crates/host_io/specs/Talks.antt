-- What contracts see of a connection.
use Rattle.std.specs.Prelude.{◌≡◌, ◌⊎◌, ℕ, true, List, Option, None, Some, option_map, max}
use Rattle.rail_io.specs.Told.{with_end}
use Rattle.rail_io.specs.declared.keeper.Keeper as keeper
use Rattle.host_io.specs.declared.wire.Wire as wire
use Rattle.host_io.specs.declared.talk.Talk.{Talk}
use Rattle.host_io.specs.declared.pace.Pace.{Pace}
use Rattle.host_io.specs.Wires.{Limits}

-- the bytes that went out, where the stream tells them, and after them those that are held back
abbrev pub answered_by : {W K : Type 0} → {w : wire.Ghosts W} → {k : keeper.Ghosts K} → (W → Option (List ℕ))
    → Talk W K w k → Option (List ℕ)
answered_by outgoing t = with_end (outgoing t.sink.line.wire) t.outbox.held

-- what the connection tells that lies in a place: nothing where none lies there, or where the place doesn't tell it
abbrev pub told_by : {W K : Type 0} → {w : wire.Ghosts W} → {k : keeper.Ghosts K} → (W → Option (List ℕ))
    → Option (Option (Talk W K w k)) → Option (List ℕ)
told_by outgoing (Some (Some t)) = answered_by outgoing t
told_by outgoing (Some None) = None
told_by outgoing None = None

-- likewise the bytes that are still to come
abbrev pub came_by : {W K : Type 0} → {w : wire.Ghosts W} → {k : keeper.Ghosts K} → (W → Option (List ℕ))
    → Option (Option (Talk W K w k)) → Option (List ℕ)
came_by incoming (Some (Some t)) = incoming t.sink.line.wire
came_by incoming (Some None) = None
came_by incoming None = None

-- a stream whose reads may wait that long
abbrev pub limited : ℕ → Limits → Limits
limited limit l = record l { limit = limit }

abbrev pub limited_to : ℕ → Option Limits → Option Limits
limited_to limit told = option_map (limited limit) told

-- Reads may wait as long as the pace says from now on, where that has changed.
abbrev pub IsSetTo : Pace → Pace → Option Limits → Option Limits → Type 0
IsSetTo old new before after =
    (after ≡ limited_to new.limit before) ⊎ ((new.limit ≡ old.limit) × (after ≡ before))

-- a stream whose other side was told that no more comes, and whose reads may wait for a quarter of a second
abbrev pub at_its_end : Limits → Limits
at_its_end l = record { limit = 250; ended = true }

abbrev pub drained : Option Limits → Option Limits
drained told = option_map at_its_end told

-- This holds of what lies in a place before and after, and it lies there again. A place that is empty, or that doesn't
-- tell, stays so.
abbrev pub LiesAgain : {T : Type 0} → (T → T → Type 0) → Option (Option T) → Option (Option T) → Type 0
LiesAgain {T} Holds (Some (Some old)) after = (new : T) × (after ≡ Some (Some new)) × Holds old new
LiesAgain Holds (Some None) after = after ≡ Some None
LiesAgain Holds None after = after ≡ None

-- all that was answered went out, or a write has failed
abbrev pub WentOut : {W K : Type 0} → {w : wire.Ghosts W} → {k : keeper.Ghosts K} → (W → Option (List ℕ))
    → Talk W K w k → Talk W K w k → Type 0
WentOut outgoing old new = (new.failed ≡ true) ⊎ (outgoing new.sink.line.wire ≡ answered_by outgoing old)

-- These bytes are answered too, and the connection is held for the cut of this number from then on, or a write has
-- failed.
abbrev pub TakesFor : {W K : Type 0} → {w : wire.Ghosts W} → {k : keeper.Ghosts K} → (W → Option (List ℕ)) → ℕ
    → List ℕ → Talk W K w k → Talk W K w k → Type 0
TakesFor outgoing cut bytes old new =
    (answered_by outgoing new ≡ with_end (answered_by outgoing old) bytes)
    × ((new.failed ≡ true) ⊎ (new.sink.cut ≡ max old.sink.cut cut))

-- What calls of the system at a stream do, where the stream tells its bytes.
use Rattle.std.specs.Prelude.{◌≡◌, ◌≤◌, ℕ, Bool, true, List, length, take, Option, option_map, Result, Ok, Err}
use Rattle.std.specs.declared.io.Error.{Error}
use Rattle.rail_io.specs.Told.{with_front, with_end}

-- What a read takes: the first of the bytes still to come, or nothing.
abbrev pub Receives : Option (List ℕ) → Option (List ℕ) → List ℕ → Result ℕ Error → Type 0
Receives before after room (Ok n) = (n ≤ length room) × (before ≡ with_front (take n room) after)
Receives before after room (Err e) = after ≡ before

-- What a write sends: the first of the bytes, or nothing.
abbrev pub Sends : Option (List ℕ) → Option (List ℕ) → List ℕ → Result ℕ Error → Type 0
Sends before after piece (Ok n) = (n ≤ length piece) × (after ≡ with_end before (take n piece))
Sends before after piece (Err e) = after ≡ before

-- How a stream is set.
pub record Settings : Type 0 where
  -- whether its calls wait
  pub waits : Bool
  -- the milliseconds that a read may wait
  pub limit : ℕ
  -- whether the other side was told that no more comes
  pub ended : Bool

-- a call sets the stream so, or nothing
abbrev pub Sets : Option Settings → Option Settings → Option Settings → Result (Unit {0}) Error → Type 0
Sets before after wanted (Ok done) = after ≡ wanted
Sets before after wanted (Err e) = after ≡ before

abbrev pub with_waits : Bool → Settings → Settings
with_waits waits s = record s { waits = waits }

abbrev pub with_limit : ℕ → Settings → Settings
with_limit limit s = record s { limit = limit }

abbrev pub with_ended : Settings → Settings
with_ended s = record s { ended = true }

abbrev pub set_waits : Bool → Option Settings → Option Settings
set_waits waits told = option_map (with_waits waits) told

abbrev pub set_limit : ℕ → Option Settings → Option Settings
set_limit limit told = option_map (with_limit limit) told

abbrev pub set_ended : Option Settings → Option Settings
set_ended told = option_map with_ended told

-- what calls that send or receive leave as it is set, also those that change whether they wait
pub record Limits : Type 0 where
  pub limit : ℕ
  pub ended : Bool

abbrev pub limits_in : Settings → Limits
limits_in s = record { limit = s.limit; ended = s.ended }

abbrev pub limits_of : Option Settings → Option Limits
limits_of told = option_map limits_in told

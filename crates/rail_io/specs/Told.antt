-- What a source has left and what a sink has taken, where the object tells it.
use Rattle.std.specs.Prelude.{◌≡◌, ◌≤◌, ◌<◌, ◌⊎◌, ℕ, List, [], ◌++◌, length, take, Option, option_map, IfSome, ⊤, Some}
use Rattle.rail_io.specs.declared.source.Pulled.{Pulled}
use Rattle.rail_io.specs.declared.source.Pulled.TheVariants.{Got, End, Failed}
use Rattle.rail_io.specs.declared.sink.Pushed.{Pushed}
use Rattle.rail_io.specs.declared.sink.Pushed.TheVariants.{Took, Failed as SinkFailed}
use Rattle.rail_io.specs.declared.sink.PushedBoth.{PushedBoth}
use Rattle.rail_io.specs.declared.sink.PushedBoth.TheVariants.{Took as TookBoth, Failed as FailedBoth}

-- these bytes, and then those told
abbrev pub with_front : List ℕ → Option (List ℕ) → Option (List ℕ)
with_front front told = option_map (λ rest. front ++ rest) told

-- the bytes told, and then these
abbrev pub with_end : Option (List ℕ) → List ℕ → Option (List ℕ)
with_end told end = option_map (λ front. front ++ end) told

-- What a read gives: the first of the bytes still to come, or nothing.
abbrev pub Pulls : Option (List ℕ) → Option (List ℕ) → List ℕ → Pulled → Type 0
Pulls before after room (Got n) = (0 < n) × (n ≤ length room) × (before ≡ with_front (take n room) after)
Pulls before after room End = (after ≡ before) × IfSome before (λ left. left ≡ [])
Pulls before after room Failed = after ≡ before

-- What a write takes: the first of the piece, or nothing.
abbrev pub Pushes : Option (List ℕ) → Option (List ℕ) → List ℕ → Pushed → Type 0
Pushes before after piece (Took n) = (0 < n) × (n ≤ length piece) × (after ≡ with_end before (take n piece))
Pushes before after piece SinkFailed = after ≡ before

-- What a write of two pieces takes of them, one after the other: the first bytes, or nothing.
abbrev pub PushesBoth : Option (List ℕ) → Option (List ℕ) → List ℕ → PushedBoth → Type 0
PushesBoth before after pieces (TookBoth n) = (0 < n) × (n ≤ length pieces) × (after ≡ with_end before (take n pieces))
PushesBoth before after pieces (FailedBoth n) = (n < length pieces) × (after ≡ with_end before (take n pieces))

-- the bytes of a piece that a write took
abbrev pub taken_by : List ℕ → Pushed → List ℕ
taken_by piece (Took n) = take n piece
taken_by piece SinkFailed = []

-- the bytes of both pieces that a write of them took
abbrev pub both_taken_by : List ℕ → PushedBoth → List ℕ
both_taken_by pieces (TookBoth n) = take n pieces
both_taken_by pieces (FailedBoth n) = take n pieces

-- one call took these bytes, or one took a front of them and the next one the rest
abbrev pub TakesInTurn : {K : Type 0} → (K → List ℕ → K → Type 0) → K → List ℕ → K → Type 0
TakesInTurn {K} takes before bytes after =
    takes before bytes after
    ⊎ ((mid : K) × (front rest : List ℕ) × takes before front mid × takes mid rest after × (bytes ≡ front ++ rest))

-- the sink failed in it
abbrev pub HasFailed : PushedBoth → Type 0
HasFailed (TookBoth n) = ⊥
HasFailed (FailedBoth n) = ⊤

-- Where both tell their bytes, and this holds, some bytes are written: this of those to come.
abbrev pub WritesWhere : Type 0 → Option (List ℕ) → Option (List ℕ) → Option (List ℕ) → (List ℕ → List ℕ → Type 0)
    → Type 0
WritesWhere Holds input output sent Of =
    (stream before : List ℕ) → input ≡ Some stream → output ≡ Some before → Holds
    → (written : List ℕ) × (sent ≡ Some (before ++ written)) × Of stream written

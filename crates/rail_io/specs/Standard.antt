-- What a source and a sink over std hand on, where the reader and the writer tell their bytes.
use Rattle.std.specs.Prelude.{ℕ, List, Option, Some, IfSome}
use Rattle.rail_io.specs.Told.{Pulls, Pushes, PushesBoth}
use Rattle.rail_io.specs.declared.source.Pulled.{Pulled}
use Rattle.rail_io.specs.declared.sink.Pushed.{Pushed}
use Rattle.rail_io.specs.declared.sink.PushedBoth.{PushedBoth}

-- a read of a reader that told its bytes before
abbrev pub PullsTold : Option (List ℕ) → Option (List ℕ) → List ℕ → Pulled → Type 0
PullsTold before after room pulled = IfSome before (λ left. Pulls (Some left) after room pulled)

-- a write to a writer that told its bytes before
abbrev pub PushesTold : Option (List ℕ) → Option (List ℕ) → List ℕ → Pushed → Type 0
PushesTold before after piece pushed = IfSome before (λ taken. Pushes (Some taken) after piece pushed)

-- and of two pieces
abbrev pub PushesBothTold : Option (List ℕ) → Option (List ℕ) → List ℕ → PushedBoth → Type 0
PushesBothTold before after pieces pushed = IfSome before (λ taken. PushesBoth (Some taken) after pieces pushed)

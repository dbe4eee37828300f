-- What the adapters make of the system's answers.
use Rattle.std.specs.Prelude.{ℕ, zero, suc, Result, Ok, Err, length, leb, if◌then◌else◌, Vec}
use Rattle.std.specs.IoError.{error_kind}
use Rattle.std.specs.declared.alloc.Global.{Global}
use Rattle.std.specs.declared.io.Error.{Error}
use Rattle.std.specs.declared.io.ErrorKind.{ErrorKind}
use Rattle.std.specs.declared.io.ErrorKind.TheVariants.{NotFound, OutOfMemory}
use Rattle.rail_io.specs.declared.source.Pulled.{Pulled}
use Rattle.rail_io.specs.declared.source.Pulled.TheVariants as pulled
use Rattle.rail_io.specs.declared.sink.Pushed.{Pushed}
use Rattle.rail_io.specs.declared.sink.Pushed.TheVariants as pushed
use Rattle.rail_io.specs.declared.shelf.Fetched.{Fetched}
use Rattle.rail_io.specs.declared.shelf.Fetched.TheVariants as fetched

-- a read of that many bytes
abbrev pub pulled_by : Result ℕ Error → Pulled
pulled_by (Ok zero) = pulled.End
pulled_by (Ok (suc n)) = pulled.Got (suc n)
pulled_by (Err e) = pulled.Failed

-- a write of that many bytes
abbrev pub pushed_by : Result ℕ Error → Pushed
pushed_by (Ok zero) = pushed.Failed
pushed_by (Ok (suc n)) = pushed.Took (suc n)
pushed_by (Err e) = pushed.Failed

-- a file that can't be read, by the kind of error
abbrev pub refusal_by : ErrorKind → Fetched
refusal_by NotFound = fetched.Missing
refusal_by OutOfMemory = fetched.NoMemory
refusal_by _ = fetched.Failed

-- the bytes of a file, of which one more was read than there is room for
abbrev pub fetched_by : ℕ → Result (Vec ℕ Global) Error → Fetched
fetched_by room (Ok content) = if leb (length content.items) room then fetched.Got content else fetched.TooLarge
fetched_by room (Err e) = refusal_by (error_kind e)

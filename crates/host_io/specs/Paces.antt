-- How a connection's pace goes on.
use Rattle.std.specs.Prelude.{◌≡◌, ℕ, zero, suc, ◌*◌, ◌-◌, Bool, true, false, ◌==◌, if◌then◌else◌, Option, None, Some, IfSome, Result, Ok, Err}
use Rattle.std.specs.IoError.{error_kind}
use Rattle.std.specs.declared.io.Error.{Error}
use Rattle.std.specs.declared.io.ErrorKind.{ErrorKind}
use Rattle.std.specs.declared.io.ErrorKind.TheVariants.{Interrupted}
use Rattle.host_io.specs.declared.pace.Pace.{Pace}
use Rattle.host_io.specs.Tcp.{seconds_of, limit_of}

-- nothing has come
abbrev pub first_pace : Pace
first_pace = record { idle = true; begun = None; limit = 1000 * seconds_of true; sends = true }

-- whether a read that failed so says that nothing more comes
abbrev pub is_last : ErrorKind → Bool
is_last Interrupted = false
is_last _ = true

-- after a read that came to this
abbrev pub noted : Pace → Result ℕ Error → Pace
noted p (Ok zero) = record p { sends = false }
noted p (Ok (suc n)) = record p { idle = false }
noted p (Err e) = if is_last (error_kind e) then record p { sends = false } else p

-- the limit of the next read, whose request has taken these milliseconds, and whether it has changed
abbrev pub IsLimited : Pace → Pace → ℕ → Option ℕ → Type 0
IsLimited old new spent changed = (limit_of old.idle spent ≡ Some new.limit)
    × (new ≡ record old { limit = new.limit })
    × (changed ≡ (if new.limit == old.limit then None else Some new.limit))

-- The milliseconds that a request has taken, by what the watch read, where it tells it: none where nothing of it has
-- come, or where this is its first look.
abbrev pub IsSpent : Pace → Pace → Option ℕ → ℕ → Type 0
IsSpent old new now spent = (old.idle ≡ true → (new.begun ≡ None) × (spent ≡ 0))
    × (old.idle ≡ false → old.begun ≡ None → (spent ≡ 0) × IfSome now (λ read. new.begun ≡ Some read))
    × (old.idle ≡ false
    → IfSome old.begun (λ begun. (new.begun ≡ Some begun) × IfSome now (λ read. spent ≡ read - begun)))

-- likewise, where the request has taken what the watch says
abbrev pub IsAllowed : Pace → Pace → Option ℕ → Option ℕ → Type 0
IsAllowed old new now changed = (spent : ℕ) × IsSpent old new now spent
    × IsLimited (record old { begun = new.begun }) new spent changed

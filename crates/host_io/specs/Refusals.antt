-- What an accept makes of the system's errors.
use Rattle.std.specs.Prelude.{ℕ, Bool, ◌==◌, ◌||◌, ℤ, pos, negsuc, if◌then◌else◌, Option, None, Some}
use Rattle.host_io.specs.declared.refusals.AfterRefusal.{AfterRefusal}
use Rattle.host_io.specs.declared.refusals.AfterRefusal.TheVariants.{Fail, Again, Pause}

-- the number of the system's error, or 0 for one of our own
abbrev pub code_by : Option ℤ → ℕ
code_by None = 0
code_by (Some (pos code)) = code
code_by (Some (negsuc below)) = 0

-- the errors of Linux that say that a listener is gone: EBADF, EINVAL, ENOTSOCK and EOPNOTSUPP
abbrev pub is_gone : ℕ → Bool
is_gone code = code == 9 || code == 22 || code == 88 || code == 95

-- those that concern one connection alone: EINTR, EPROTO and ECONNABORTED
abbrev pub is_passing : ℕ → Bool
is_passing code = code == 4 || code == 71 || code == 103

abbrev pub after_refusal : ℕ → AfterRefusal
after_refusal code = if is_gone code then Fail else if is_passing code then Again else Pause

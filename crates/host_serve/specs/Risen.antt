-- Whether a count rose, as a test.
use Rattle.std.specs.Prelude.{ℕ, Bool, ◌-◌, ◌^◌, ◌==◌, ◌||◌, nat_lt}

-- the count is greater, or stands at its last value
abbrev pub has_risen : ℕ → ℕ → Bool
has_risen old new = nat_lt old new || new == 2 ^ 64 - 1

-- What the clock that counts makes of the system's readings, which are since 1970.
use Rattle.std.specs.Prelude.{ℕ, ◌-◌, ◌^◌, ◌/◌, min}
use Rattle.std.specs.Duration.{as_nanos}
use Rattle.std.specs.declared.time.Duration.{Duration}
use Rattle.rail_time.specs.Moments.{last_second}

-- its whole seconds, or the last moment where they are more
abbrev pub moment_by : Duration → ℕ
moment_by since = min (as_nanos since / 1_000_000_000) last_second

-- the nanoseconds from the first reading to the second, or 0 where that is earlier; at most the last value of 64 bits
abbrev pub nanoseconds_by : Duration → Duration → ℕ
nanoseconds_by before now = min (as_nanos now - as_nanos before) (2 ^ 64 - 1)

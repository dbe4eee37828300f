-- Moments as they stand in replies: RFC 3339 in UTC.
use Rattle.std.specs.Prelude.{ℕ, List}
use Rattle.rail_time.specs.Texts.{moment_text}

unfoldable pub time_text : ℕ → List ℕ
time_text m = moment_text m

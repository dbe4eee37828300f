use Rattle.std.proofs.Common.{◌<◌}
use Rattle.trip_builder.proofs.ahead.least_after.Given as goal

abbrev pub invariant-loop-changes : goal.invariant-loop-changes
invariant-loop-changes l = l.seconds < l.least

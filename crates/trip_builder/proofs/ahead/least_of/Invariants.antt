use Rattle.std.proofs.Common.{◌<◌}
use Rattle.trip_builder.proofs.ahead.least_of.Given as goal

abbrev pub invariant-loop-departure : goal.invariant-loop-departure
invariant-loop-departure l = l.seconds < l.least

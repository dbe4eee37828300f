use Rattle.std.proofs.Common.{◌≡◌, drop}
use Rattle.trip_builder.specs.Search.{has_run}
use Rattle.trip_builder.proofs.chain.has_run.Given as goal

abbrev pub invariant-loop-segment : goal.invariant-loop-segment
invariant-loop-segment l = has_run (drop l.segment-index l.segments) l.run.0 ≡ has_run l.segments l.run.0

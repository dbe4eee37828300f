use Rattle.std.proofs.Common.{ℕ, ◌<◌, get_or}
use Rattle.train_runs.specs.declared.segment.Segment.{Segment}
use Rattle.trip_builder.specs.Segments.{IsKnown}
use Rattle.trip_builder.proofs.ahead.are_known.Given as goal

abbrev pub invariant-loop-segment : goal.invariant-loop-segment
invariant-loop-segment l = (k : ℕ) → k < l.segment-index → (none : Segment) → IsKnown l.runs (get_or l.way k none)

-- Which segments are of a catalogue's runs.
use Rattle.std.specs.Prelude.{nat_lt, Bool, length}
use Rattle.train_runs.specs.declared.segment.Segment.{Segment}
use Rattle.train_runs.specs.Runs.{RunsView, stops_of}

-- the run exists and holds the span: it stops where the segment ends
abbrev pub is_of_runs : RunsView → Segment → Bool
is_of_runs r s = nat_lt s.span.to (length (stops_of r s.run.0))

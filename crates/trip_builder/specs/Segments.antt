-- The segments of all runs.
use Rattle.std.specs.Prelude.{ℕ, suc, zero, ◌+◌, ◌-◌, ◌<◌, List, [], ◌∷◌, ◌++◌, length, slice_index_or}
use Rattle.train_runs.specs.declared.segment.Segment.{Segment}
use Rattle.train_runs.specs.declared.run.Stop.{Stop}
use Rattle.train_runs.specs.Stops.{RunView, stop_at}
use Rattle.train_runs.specs.Runs.{RunsView, stops_of}

-- where and when a segment begins and ends
abbrev pub first_stop : RunsView → Segment → Stop
first_stop r s = stop_at (stops_of r s.run.0) s.span.from

abbrev pub last_stop : RunsView → Segment → Stop
last_stop r s = stop_at (stops_of r s.run.0) s.span.to

-- a stop of a run, and a later one of it
pub record IsKnown (r : RunsView) (s : Segment) : Type 0 where
  pub rises : s.span.from < s.span.to
  pub ends : s.span.to < length (stops_of r s.run.0)

abbrev pub segment : ℕ → ℕ → ℕ → Segment
segment run from to = record { run = record { 0 = run }; span = record { from = from; to = to } }

-- the segments of a run from one stop on, to n stops that begin with this one
abbrev pub segments_to : ℕ → ℕ → ℕ → ℕ → List Segment
segments_to run from to zero = []
segments_to run from to (suc n) = segment run from to ∷ segments_to run from (to + 1) n

-- the segments between n stops of a run that begin with this one: from each to all that come after it
abbrev pub segments_from : ℕ → ℕ → ℕ → List Segment
segments_from run from zero = []
segments_from run from (suc n) = segments_to run from (from + 1) n ++ segments_from run (from + 1) n

-- the segments of these runs, of which the first has this number
abbrev pub segments_of : ℕ → List RunView → List Segment
segments_of run [] = []
segments_of run (it ∷ rest) = segments_from run 0 (length it.stops) ++ segments_of (run + 1) rest

abbrev pub all_segments : RunsView → List Segment
all_segments r = segments_of 0 r.runs

abbrev pub no_segment : Segment
no_segment = segment 0 0 0

abbrev pub first_of : List Segment → Segment
first_of segments = slice_index_or segments 0 no_segment

abbrev pub last_of : List Segment → Segment
last_of segments = slice_index_or segments (length segments - 1) no_segment

-- The order of trips.
use Rattle.std.specs.Prelude.{ℕ, ◌==◌, ◌&&◌, nat_lt, Bool, true, false, List, [], ◌∷◌, length, if◌then◌else◌}
use Rattle.std.specs.List.{fold}
use Rattle.train_runs.specs.declared.segment.Segment.{Segment}
use Rattle.train_runs.specs.Runs.{RunsView}
use Rattle.trip_builder.specs.Segments.{first_stop, last_stop, first_of, last_of}

abbrev pub last_arrival : RunsView → List Segment → ℕ
last_arrival r trip = (last_stop r (last_of trip)).arrive

abbrev pub first_departure : RunsView → List Segment → ℕ
first_departure r trip = (first_stop r (first_of trip)).depart

abbrev pub is_same : Segment → Segment → Bool
is_same s t = s.run.0 == t.run.0 && (s.span.from == t.span.from && s.span.to == t.span.to)

-- by the run, then the first stop, then the last
abbrev pub is_lower : Segment → Segment → Bool
is_lower s t =
    if s.run.0 == t.run.0
    then (if s.span.from == t.span.from then nat_lt s.span.to t.span.to else nat_lt s.span.from t.span.from)
    else nat_lt s.run.0 t.run.0

-- the first two segments that differ decide; a list stands before its longer ones
abbrev pub are_lower : List Segment → List Segment → Bool
are_lower ss [] = false
are_lower [] (t ∷ ts) = true
are_lower (s ∷ ss) (t ∷ ts) = if is_same s t then are_lower ss ts else is_lower s t

-- the trip stands before all that begin so: of the first two segments that differ, its own is the lower
abbrev pub exceeds : List Segment → List Segment → Bool
exceeds [] trip = false
exceeds (s ∷ begun) [] = false
exceeds (s ∷ begun) (t ∷ trip) = if is_same t s then exceeds begun trip else is_lower t s

-- the one trip stands before the other: it arrives earlier, or then departs later, or then has fewer segments, or then
-- lower ones
abbrev pub stands_before : RunsView → List Segment → List Segment → Bool
stands_before r a b =
    if last_arrival r a == last_arrival r b then
    (if first_departure r a == first_departure r b then
    (if length a == length b then are_lower a b
    else nat_lt (length a) (length b))
    else nat_lt (first_departure r b) (first_departure r a))
    else nat_lt (last_arrival r a) (last_arrival r b)

-- a trip put into its place among sorted ones
abbrev pub sorted_in : RunsView → List (List Segment) → List Segment → List (List Segment)
sorted_in r [] trip = trip ∷ []
sorted_in r (first ∷ rest) trip =
    if stands_before r trip first then trip ∷ first ∷ rest else first ∷ sorted_in r rest trip

-- all trips in their order, each put into its place in turn
abbrev pub sorted : RunsView → List (List Segment) → List (List Segment)
sorted r trips = fold (sorted_in r) [] trips

-- The trips of a wish.
use Rattle.std.specs.Prelude.{ℕ, zero, suc, ◌+◌, ◌==◌, ◌&&◌, nat_le, Bool, true, false, not, List, [], ◌∷◌, ◌++◌, take, drop, slice_get}
use Rattle.std.specs.List.{filter, flat_map, list_any}
use Rattle.std.specs.Option.{option_map_or}
use Rattle.rail_ids.specs.declared.StationNo.{StationNo}
use Rattle.train_runs.specs.declared.segment.Segment.{Segment}
use Rattle.train_runs.specs.declared.run.Stop.{Stop}
use Rattle.train_runs.specs.Stations.{StationView}
use Rattle.train_runs.specs.Runs.{RunsView}
use Rattle.train_runs.specs.declared.wish.TripWish.{TripWish}
use Rattle.trip_builder.specs.Segments.{all_segments, first_stop, last_stop, last_of}
use Rattle.trip_builder.specs.Order.{sorted}

-- the longest wait between two trains, in seconds
abbrev pub longest_wait : ℕ
longest_wait = 14_400

abbrev pub most_trips : ℕ
most_trips = 16

-- the least time in seconds between an arrival and a departure at the station
abbrev pub change_at : RunsView → StationNo → ℕ
change_at r station = option_map_or (λ (s : StationView). s.change) (slice_get r.stations station.0) 0

-- the stop is the station's, and is left within the window, whose ends belong to it
abbrev pub leaves : StationNo → ℕ → ℕ → Stop → Bool
leaves station from to stop = stop.station.0 == station.0 && (nat_le from stop.depart && nat_le stop.depart to)

-- the segment departs where the wish begins, within its window
abbrev pub begins : RunsView → TripWish → Segment → Bool
begins r w s = leaves w.origin w.earliest w.latest (first_stop r s)

-- the segment departs where a train arrived: after the change time, and before the longest wait is over
abbrev pub connects : RunsView → Stop → Segment → Bool
connects r off s =
    leaves off.station (off.arrive + change_at r off.station) (off.arrive + longest_wait) (first_stop r s)

abbrev pub uses_run : List Segment → Segment → Bool
uses_run before s = list_any (λ b. b.run.0 == s.run.0) before

-- the segment is reached from the last of those before it, and none of them has its run
abbrev pub follows : RunsView → List Segment → Segment → Bool
follows r before s = connects r (last_stop r (last_of before)) s && not (uses_run before s)

-- each of the further segments follows those before it
abbrev pub is_chain : RunsView → List Segment → List Segment → Bool
is_chain r before [] = true
is_chain r before (s ∷ rest) = follows r before s && is_chain r (before ++ s ∷ []) rest

-- each of the segments but the first follows those before it
abbrev pub are_connected : RunsView → List Segment → Bool
are_connected r segments = is_chain r (take 1 segments) (drop 1 segments)

-- the last segment ends at the destination
abbrev pub arrives : RunsView → TripWish → List Segment → Bool
arrives r w trip = (last_stop r (last_of trip)).station.0 == w.destination.0

abbrev pub sets_out : RunsView → TripWish → List Segment → Bool
sets_out r w [] = false
sets_out r w (s ∷ rest) = begins r w s && is_chain r (s ∷ []) rest

abbrev pub is_trip : RunsView → TripWish → List Segment → Bool
is_trip r w trip = sets_out r w trip && arrives r w trip

-- the list, and all that go on with up to n further segments
abbrev pub longer : List Segment → ℕ → List Segment → List (List Segment)
longer segments zero before = before ∷ []
longer segments (suc n) before = before ∷ flat_map (λ s. longer segments n (before ++ s ∷ [])) segments

-- all lists of one to three segments
abbrev pub all_lists : List Segment → List (List Segment)
all_lists segments = flat_map (λ s. longer segments 2 (s ∷ [])) segments

-- the first sixteen of all trips, in their order
unfoldable pub trips_of : RunsView → TripWish → List (List Segment)
trips_of r w = take most_trips (sorted r (filter (is_trip r w) (all_lists (all_segments r))))

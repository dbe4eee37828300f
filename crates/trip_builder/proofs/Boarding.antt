-- The departures after a way, and the stops that their trains come to.
use Rattle.std.proofs.Common.{◌≡◌, ◌∙◌, ℕ, ◌<◌, true, false, not, List, length, refl, sym, ap, subst, arith, get_or, true≢false}
use Rattle.std.proofs.lemmas.List.Elements.{at_read}
use Rattle.rail_ids.specs.declared.StationNo.{StationNo}
use Rattle.train_runs.specs.declared.segment.Segment.{Segment}
use Rattle.train_runs.specs.declared.run.Stop.{Stop}
use Rattle.train_runs.specs.Stops.{no_stop, stop_at}
use Rattle.train_runs.specs.Runs.{RunsView, stops_of}
use Rattle.train_runs.specs.declared.departure.Departure.{Departure}
use Rattle.train_runs.specs.declared.wish.TripWish.{TripWish}
use Rattle.trip_builder.specs.Segments.{segment, first_stop}
use Rattle.trip_builder.specs.Trips.{leaves, uses_run}
use Rattle.trip_builder.specs.Search.{leaves_after, has_run, AreLeaving, Leaves, MayTake, AreDecided, AreDecidedWith}
use Rattle.trip_builder.proofs.StrictOrder.{one_segment}
use Rattle.trip_builder.proofs.Ways.{trip_goes_on, both_true}

pub used_up : (r : RunsView) (w : TripWish) (best : List (List Segment)) (way : List Segment) (more : ℕ) (s : Segment) → has_run way s.run.0 ≡ true → AreDecidedWith r w best way more s
used_up r w best way more s used rest e trip =
    let next = both_true (leaves_after r w way (first_stop r s)) (not (uses_run way s)) (trip_goes_on r w way s rest trip).next in
    absurd (true≢false (sym next.1 ∙ ap not used))

-- the segment of this run from this departure
abbrev ride_of : List Departure → ℕ → Departure → ℕ → Segment
ride_of ds k none to = segment (get_or ds k none).run.0 (get_or ds k none).stop to

-- what leaves within the window may be taken
pub taken_there : (r : RunsView) (w : TripWish) (way : List Segment) (station : StationNo) (from to : ℕ) (d : Departure) → Leaves r station from to d
    → ((stop : Stop) → leaves station from to stop ≡ leaves_after r w way stop) → has_run way d.run.0 ≡ false → MayTake r w way d
taken_there r w way station from to d is window fresh = record {
  further = is.further;
  leaves = sym (window (stop_at (stops_of r d.run.0) d.stop)) ∙ is.window;
  fresh = fresh;
}

-- each segment that goes on from the way is a ride from one of the departures of the window
pub all_covered : (r : RunsView) (w : TripWish) (best : List (List Segment)) (way : List Segment) (more : ℕ) (station : StationNo) (from to : ℕ) (ds : List Departure) (none : Departure)
    → AreLeaving r station from to ds → ((stop : Stop) → leaves station from to stop ≡ leaves_after r w way stop)
    → ((k : ℕ) → k < length ds → (to : ℕ) → AreDecidedWith r w best way more (ride_of ds k none to)) → AreDecided r w best way more
all_covered r w best way more station from to ds none leaving window each s rest e trip =
    let next = trip_goes_on r w way s rest trip in
    let known = next.known in
    let up = known.rises in
    let end = known.ends in
    let parts = both_true (leaves_after r w way (first_stop r s)) (not (uses_run way s)) next.next in
    let listed = leaving.every s.run.0 s.span.from (omega (arith, up, end)) (window (first_stop r s) ∙ parts.0) in
    let is : ride_of ds listed.place none s.span.to ≡ s = one_segment (ride_of ds listed.place none s.span.to) s (listed.run_is none, (listed.stop_is none, refl)) in
    subst (λ (x : Segment). AreDecidedWith r w best way more x) is (each listed.place listed.within s.span.to) rest e trip

pub stop_is : (r : RunsView) (run to : ℕ) (stops : List Stop) (stop : Stop) → stops ≡ stops_of r run → to < length stops → stop ≡ get_or stops to stop → get_or (stops_of r run) to no_stop ≡ stop
stop_is r run to stops stop same h is = subst (λ (xs : List Stop). get_or xs to no_stop ≡ stop) same (at_read stops (λ x. x ≡ stop) to stop h is refl no_stop)

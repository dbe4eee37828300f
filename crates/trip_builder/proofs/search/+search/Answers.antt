use Rattle.std.proofs.Common.{◌≡◌, ◌∙◌, ◌<◌, ℕ, suc, ◌+◌, ◌-◌, ◌++◌, ◌∷◌, [], List, length, length-append, ap, sym, subst, arith, get_or, inl, ⊎_elim}
use Rattle.std.proofs.lemmas.List.Elements.{at_read}
use Rattle.train_runs.specs.declared.run.Stop.{Stop}
use Rattle.train_runs.specs.declared.segment.Segment.{Segment}
use Rattle.train_runs.specs.declared.departure.Departure.{Departure}
use Rattle.train_runs.specs.Runs.{stops_of}
use Rattle.trip_builder.specs.Segments.{segment, last_stop}
use Rattle.trip_builder.specs.Search.{IsWay, Leaves, Grows, AreDecided, AreDecidedWith}
use Rattle.trip_builder.specs.Bounds.{never}
use Rattle.trip_builder.specs.Keeping.{IsSearch, IsOutdone}
use Rattle.trip_builder.specs.Shortest.{TakesAtLeast}
use Rattle.trip_builder.proofs.Ways.{way_taken, trip_goes_on}
use Rattle.trip_builder.proofs.Deciding.{same_grows, grows_on, stays_with, one_further, with_further, not_ridden}
use Rattle.trip_builder.proofs.Boarding.{all_covered, taken_there, stop_is}
use Rattle.trip_builder.proofs.Riding.{late_from, change_late, further_late}
use Rattle.trip_builder.proofs.Bounding.{window_hopeless}
use Rattle.trip_builder.proofs.Outdoing.{window_outdone}
use Rattle.trip_builder.proofs.search.+search.Goals as goal
use Rattle.trip_builder.proofs.search.+search.Goals.{go_on-then-may_lead+in_ok-ride, go_on-else-may_lead, ride-then-not-are_all_before+in_ok-go_on, ride-else-not-are_all_before}

pub go_on-returns-then-is_hopeless-clause-decided : goal.go_on-returns-then-is_hopeless-clause-decided
go_on-returns-then-is_hopeless-clause-decided t c =
    let r = c.args.runs.now in
    let w = c.args.wish.now in
    let way = c.args.way.now in
    let more = c.args.changes in
    let best = c.bound_long_search.new.found.best.trips.items in
    let win = c.window_of-window.result in
    let bound = c.of_leaving-bound.result in
    let search = c.in_ok-bound_long_search.ensures.search in
    let bounds = c.of_leaving-bound.ensures r w search.bounds in
    let window = c.window_of-window.ensures.window in
    ⊎_elim (λ (none : bound ≡ never). window_hopeless r w best way more win.station win.from win.to bound window bounds (inl none))
    (λ (outdone : IsOutdone r best bound way (more + 1)). window_outdone r w best way more win.station win.from win.to bound search.kept.are.order window bounds outdone)
    (c.is_hopeless.ensures w search c.if-is_hopeless.true)

pub go_on-returns-then-are_all_before-clause-decided : goal.go_on-returns-then-are_all_before-clause-decided
go_on-returns-then-are_all_before-clause-decided t c =
    let r = c.args.runs.now in
    let w = c.args.wish.now in
    let way = c.args.way.now in
    let best = c.loop-departure.found.best.trips.items in
    let win = c.window_of-window.result in
    let ds = c.leaving-departure-items.result.now in
    let d = c.departure-item.result in
    let i = c.loop-departure.departure-index in
    let least = c.least_from-least.result in
    let late = c.are_all_before.ensures r w c.loop-departure.invariant.search.kept c.if-are_all_before.true in
    let at : c.seconds.result ≡ (get_or ds i d).moment = c.seconds.ensures.value ∙ ap (λ (x : Departure). x.moment) c.departure-item.is in
    let search = c.in_ok-bound_long_search.ensures.search in
    let leaving = c.leaving-departure-items.ensures in
    all_covered r w best way c.args.changes win.station win.from win.to ds d leaving.leaving c.window_of-window.ensures.window
    (late_from r w best way c.args.changes win.station win.from win.to ds d i (c.seconds.result + least) least leaving.leaving (c.least_from-least.ensures.least r w leaving.rise search.shortest) late
    (omega (arith, at)) c.loop-departure.invariant.tried)

pub go_on-loop-departure-preserved : goal.go_on-loop-departure-preserved
go_on-loop-departure-preserved t c =
    let r = c.args.runs.now in
    let w = c.args.wish.now in
    let way = c.args.way.now in
    let more = c.args.changes in
    let old = c.args.found.now.best.trips.items in
    let best = c.loop-departure.found.best.trips.items in
    let ds = c.leaving-departure-items.result.now in
    let d = c.departure-item.result in
    let i = c.loop-departure.departure-index in
    let P : List (List Segment) → ℕ → Type 0 = (λ l k. (none : Departure) (to : ℕ) → AreDecidedWith r w l way more (segment (get_or ds k none).run.0 (get_or ds k none).stop to)) in
    let here : (l : List (List Segment)) → ((to : ℕ) → AreDecidedWith r w l way more (segment d.run.0 d.stop to)) → P l i =
    (λ l all. at_read ds (λ (x : Departure). (to : ℕ) → AreDecidedWith r w l way more (segment x.run.0 x.stop to)) i d c.loop-departure-test.true c.departure-item.is all) in
    elim c.if-may_lead.branch [
      | go_on-then-may_lead+in_ok-ride v ↦
          let new = v.ride.new.found.best.trips.items in
          record {
            grows = subst (λ b. Grows r w old b.best.trips.items) (sym v.found-is) (grows_on r w old best new c.loop-departure.invariant.grows v.in_ok-ride.ensures.grows);
            search = subst (IsSearch r w) (sym v.found-is) v.in_ok-ride.ensures.search;
            tried = subst (λ b. (k : ℕ) → k < i + 1 → P b.best.trips.items k) (sym v.found-is) (
                one_further (P new) i
                (λ k h none to. stays_with r w best new way more (segment (get_or ds k none).run.0 (get_or ds k none).stop to) v.in_ok-ride.ensures.grows (c.loop-departure.invariant.tried k h none to))
                (here new v.in_ok-ride.ensures.decided)
                );
          }
      | go_on-else-may_lead v ↦ record {
        grows = subst (λ b. Grows r w old b.best.trips.items) (sym v.found-is) c.loop-departure.invariant.grows;
        search = subst (IsSearch r w) (sym v.found-is) (let was = c.loop-departure.invariant.search in record { kept = was.kept; ends = was.ends; bounds = was.bounds; shortest = was.shortest });
        tried = subst (λ b. (k : ℕ) → k < i + 1 → P b.best.trips.items k) (sym v.found-is)
            (one_further (P best) i c.loop-departure.invariant.tried (here best (c.may_lead.ensures.decided v.if-may_lead.false)));
      }
    ]

pub go_on-ride-requires : goal.go_on-ride-requires
go_on-ride-requires t c =
    let r = c.args.runs.now in
    let w = c.args.wish.now in
    let win = c.window_of-window.result in
    let ds = c.leaving-departure-items.result.now in
    let i = c.loop-departure.departure-index in
    let d = c.departure-item.result in
    let was = c.loop-departure.invariant.search in
    let leaves = subst (Leaves r win.station win.from win.to) (sym c.departure-item.is) (c.leaving-departure-items.ensures.leaving.each i d c.loop-departure-test.true) in
    let taken = taken_there r w c.args.way.now win.station win.from win.to d leaves c.window_of-window.ensures.window
    (c.may_lead.ensures.fresh c.if-may_lead.true) in (
      omega (arith, c.decreases),
      (
        c.requires.few,
        (c.requires.way, (record { kept = was.kept; ends = was.ends; bounds = was.bounds; shortest = was.shortest }, (c.leaving-departure-items.ensures.rise, taken))),
      ),
    )

pub go_on-returns-clause-decided : goal.go_on-returns-clause-decided
go_on-returns-clause-decided t c =
    let r = c.args.runs.now in
    let w = c.args.wish.now in
    let win = c.window_of-window.result in
    let ds = c.leaving-departure-items.result.now in
    let ended = c.loop-departure-test.false in
    let none : Departure = record { moment = 0; run = record { 0 = 0 }; stop = 0 } in
    all_covered r w c.loop-departure.found.best.trips.items c.args.way.now c.args.changes win.station win.from win.to ds none c.leaving-departure-items.ensures.leaving c.window_of-window.ensures.window
    (λ k h to. c.loop-departure.invariant.tried k (omega (arith, h, ended)) none to)

pub ride-go_on-requires : goal.ride-go_on-requires
ride-go_on-requires t c =
    let r = c.args.runs.now in
    let w = c.args.wish.now in
    let way = c.args.way.now in
    let d = c.args.departure.now in
    let to = c.loop-to.to in
    let low = c.loop-to.auto.to in
    let high = c.loop-to-test.true in
    let some = c.if-changes-eq0.false in
    let longer = c.as_slice.ensures.value ∙ c.longer-way.ensures in
    let count : length c.as_slice.result.now ≡ length way + 1 = ap (λ (l : List Segment). length l) longer ∙ length-append way (segment d.run.0 d.stop to ∷ []) in (
      omega (arith, c.decreases, some),
      (
        omega (arith, count, c.requires.few, some),
        (
          subst (IsWay r w) (sym longer)
              (way_taken r w way d to c.requires.way c.requires.taken (omega (arith, low)) (subst (λ (xs : List Stop). to < length xs) c.stops_of-stops.ensures.stops (omega (arith, high)))),
          c.loop-to.invariant.search,
        ),
      ),
    )

pub ride-loop-to-init : goal.ride-loop-to-init
ride-loop-to-init t c =
    let r = c.args.runs.now in
    let w = c.args.wish.now in
    let way = c.args.way.now in
    let d = c.args.departure.now in
    let best = c.args.found.now.best.trips.items in
    let search = c.requires.search in
    record {
      grows = same_grows r w best search.kept.are;
      search = record { kept = search.kept; ends = search.ends; shortest = search.shortest; bounds = search.bounds };
      tried = λ k h. not_ridden r w best way c.args.changes (segment d.run.0 d.stop k) (λ known. (let up = known.rises in omega (arith, up, h)));
    }

pub ride-loop-to-preserved : goal.ride-loop-to-preserved
ride-loop-to-preserved t c =
    let r = c.args.runs.now in
    let w = c.args.wish.now in
    let way = c.args.way.now in
    let d = c.args.departure.now in
    let more = c.args.changes in
    let old = c.args.found.now.best.trips.items in
    let best = c.loop-to.found.best.trips.items in
    let to = c.loop-to.to in
    let s = segment d.run.0 d.stop to in
    let some = c.if-changes-eq0.false in
    let fewer : more ≡ suc (more - 1) = omega (arith, some) in
    let P : List (List Segment) → ℕ → Type 0 = (λ l k. AreDecidedWith r w l way more (segment d.run.0 d.stop k)) in
    elim c.if-not-are_all_before.branch [
      | ride-then-not-are_all_before+in_ok-go_on v ↦
          let new = v.go_on.new.found.best.trips.items in
          let longer : v.as_slice.result.now ≡ way ++ s ∷ [] = v.as_slice.ensures.value ∙ v.longer-way.ensures in
          let here = with_further r w new way (more - 1) more s fewer (subst (λ (t : List Segment). AreDecided r w new t (more - 1)) longer v.in_ok-go_on.ensures.decided) in
          record {
            grows = subst (λ b. Grows r w old b.best.trips.items) (sym v.found-is) (grows_on r w old best new c.loop-to.invariant.grows v.in_ok-go_on.ensures.grows);
            search = subst (IsSearch r w) (sym v.found-is) v.in_ok-go_on.ensures.search;
            tried = subst (λ b. (k : ℕ) → k < to + 1 → P b.best.trips.items k) (sym v.found-is)
                (one_further (P new) to (λ k h. stays_with r w best new way more (segment d.run.0 d.stop k) v.in_ok-go_on.ensures.grows (c.loop-to.invariant.tried k h)) here);
          }
      | ride-else-not-are_all_before v ↦
          let at : c.from.result ≡ to = c.from.ensures in
          let stop = c.index-stops-from.result in
          let there = stop_is r d.run.0 to c.stops_of-stops.result.now stop c.stops_of-stops.ensures.stops (omega (arith, c.loop-to-test.true))
          (c.index-stops-from.is ∙ ap (λ k. get_or c.stops_of-stops.result.now k stop) at) in
          let least = c.least_from-least.result in
          let off = ap (λ (x : Stop). x.arrive) there in
          let seen = ap (λ (x : Stop). x.arrive) c.index-stops-from.is in
          let value = c.seconds-arrive.ensures.value in
          let arrive : c.seconds-arrive.result ≡ (last_stop r s).arrive = omega (arith, off, seen, value) in
          let takes = subst (λ (x : Stop). TakesAtLeast r w (more - 1) x.station least) (sym there) (c.least_from-least.ensures.least r w c.requires.rise c.loop-to.invariant.search.shortest) in
          let late = c.are_all_before-in-loop-to.ensures r w c.loop-to.invariant.search.kept v.if-not-are_all_before.false in
          let here = change_late r w best way (more - 1) more least (c.seconds-arrive.result + least) s fewer takes late (omega (arith, arrive)) in
          record {
            grows = subst (λ b. Grows r w old b.best.trips.items) (sym v.found-is) c.loop-to.invariant.grows;
            search = subst (IsSearch r w) (sym v.found-is) c.loop-to.invariant.search;
            tried = subst (λ b. (k : ℕ) → k < to + 1 → P b.best.trips.items k) (sym v.found-is) (one_further (P best) to c.loop-to.invariant.tried here);
          }
    ]

pub ride-returns-clause-decided : goal.ride-returns-clause-decided
ride-returns-clause-decided t c =
    λ to rest e trip.
    (let r = c.args.runs.now in
    let d = c.args.departure.now in
    let known = (trip_goes_on r c.args.wish.now c.args.way.now (segment d.run.0 d.stop to) rest trip).known in
    let end = known.ends in
    let ended = c.loop-to-test.false in
    let few = c.stops_of-stops.ensures.few in
    let size : length c.stops_of-stops.result.now ≡ length (stops_of r d.run.0) = ap (λ (l : List Stop). length l) c.stops_of-stops.ensures.stops in
    c.loop-to.invariant.tried to (omega (arith, end, ended, few, size)) rest e trip)

pub ride-returns-then-are_all_before-clause-decided : goal.ride-returns-then-are_all_before-clause-decided
ride-returns-then-are_all_before-clause-decided t c =
    let r = c.args.runs.now in
    let w = c.args.wish.now in
    let way = c.args.way.now in
    let d = c.args.departure.now in
    let more = c.args.changes in
    let best = c.loop-to.found.best.trips.items in
    let to = c.loop-to.to in
    let some = c.if-changes-eq0.false in
    let fewer : more ≡ suc (more - 1) = omega (arith, some) in
    let stop = c.index-stops-from.result in
    let there = stop_is r d.run.0 to c.stops_of-stops.result.now stop c.stops_of-stops.ensures.stops (omega (arith, c.loop-to-test.true))
    (c.index-stops-from.is ∙ ap (λ k. get_or c.stops_of-stops.result.now k stop) c.from.ensures) in
    let off = ap (λ (x : Stop). x.arrive) there in
    let seen = ap (λ (x : Stop). x.arrive) c.index-stops-from.is in
    let value = c.seconds-arrive.ensures.value in
    let late = c.are_all_before.ensures r w c.loop-to.invariant.search.kept c.if-are_all_before.true in
    further_late r w best way (more - 1) more (c.seconds-arrive.result + 1) d to fewer c.requires.rise late (omega (arith, off, seen, value)) c.loop-to.invariant.tried

use Rattle.std.proofs.Common.{◌≡◌, ◌∙◌, ℕ, Bool, true, false, not, List, inl, refl, sym, subst, true≢false}
use Rattle.train_runs.specs.declared.segment.Segment.{Segment}
use Rattle.trip_builder.specs.Segments.{segment}
use Rattle.trip_builder.specs.Search.{AreDecidedFrom}
use Rattle.trip_builder.specs.Keeping.{IsOutdone}
use Rattle.trip_builder.proofs.Boarding.{used_up}
use Rattle.trip_builder.proofs.Bounding.{ride_hopeless}
use Rattle.trip_builder.proofs.Outdoing.{ride_outdone}
use Rattle.trip_builder.proofs.found.may_lead.Goals as goal

turned : (b : Bool) → not b ≡ false → b ≡ true
turned true e = refl
turned false e = absurd (true≢false e)

pub returns-then-misses-clause-decided : goal.returns-then-misses-clause-decided
returns-then-misses-clause-decided c =
    λ e. subst (λ (n : ℕ). AreDecidedFrom c.args.runs.now c.args.wish.now c.args.found.now.best.trips.items c.args.way.now n c.args.departure.now) (sym c.if-changes-eq0.true)
    (c.misses.ensures c.args.runs.now c.args.wish.now c.args.way.now c.requires.search c.if-misses.true)

pub returns-then-has_run-clause-decided : goal.returns-then-has_run-clause-decided
returns-then-has_run-clause-decided c =
    λ e to. used_up c.args.runs.now c.args.wish.now c.args.found.now.best.trips.items c.args.way.now c.args.changes (segment c.args.departure.now.run.0 c.args.departure.now.stop to) (sym c.has_run.ensures ∙ c.if-has_run.true)

pub returns-then-bound-clause-decided : goal.returns-then-bound-clause-decided
returns-then-bound-clause-decided c =
    λ e. ride_hopeless c.args.runs.now c.args.wish.now c.args.found.now.best.trips.items c.args.way.now c.args.changes c.of_ride-bound.result c.args.departure.now
    (c.of_ride-bound.ensures c.args.runs.now c.args.wish.now c.requires.search.bounds) (inl c.if-bound.true)

pub returns-in-Some-clause-decided : goal.returns-in-Some-clause-decided
returns-in-Some-clause-decided c =
    λ e.
    (let r = c.args.runs.now in
    let w = c.args.wish.now in
    let way = c.args.way.now in
    let d = c.args.departure.now in
    let best = c.args.found.now.best.trips.items in
    let begun = c.as_slice.ensures.value ∙ c.in-Some.ensures in
    let outdone = subst (λ (t : List Segment). IsOutdone r best c.of_ride-bound.result t c.args.changes) begun (c.outdo.ensures w c.requires.search.kept (turned c.outdo.result e)) in
    ride_outdone r w best way c.args.changes c.of_ride-bound.result d c.requires.search.kept.are.order (c.of_ride-bound.ensures r w c.requires.search.bounds) outdone)

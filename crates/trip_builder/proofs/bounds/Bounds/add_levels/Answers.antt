use Rattle.std.proofs.Common.{◌≡◌, ◌∙◌, length, List, refl, sym, ap, subst}
use Rattle.trip_builder.specs.Bounds.{AreRanks, AreRides, BoundsView, ReachView, AreBounds}
use Rattle.trip_builder.proofs.Bounding.{bounds_more}
use Rattle.trip_builder.proofs.Narrowing.{narrowed_ranks, narrowed_rides, narrowed_bounds}
use Rattle.trip_builder.proofs.bounds.Bounds.add_levels.Goals as goal

pub loop-changes-preserved : goal.loop-changes-preserved
loop-changes-preserved c =
    let r = c.args.runs.now in
    let w = c.args.wish.now in
    let was = c.loop-changes.invariant in
    let changes = c.loop-changes.changes in
    let wide = c.loop-changes.self in
    let narrow = c.narrow.new.self in
    let so = c.in_ok-narrow.ensures in
    let inside = c.self-in-loop-changes.inside in
    let rides = c.leave_far.new.self in
    let reach = c.in_ok-reach.reach in
    let old : BoundsView = record { ranks = inside.ranks; levels = inside.levels.items } in
    let new : BoundsView = record { ranks = inside.ranks; levels = c.push.new.self.items } in
    let back : narrow ≡ old = sym c.self-in-loop-changes.view_is in
    let size : length narrow.levels ≡ changes = ap (λ (l : List ReachView). length l) so.levels_are ∙ was.count in
    let count = subst (λ (b : BoundsView). length b.levels ≡ changes) back size in
    let ranks = subst (λ (b : BoundsView). AreRanks r w b.ranks) back (narrowed_ranks r w wide.ranks narrow.ranks so.narrowed was.ranks) in
    let are = subst (AreBounds r w) back (narrowed_bounds r w wide narrow so was.are) in
    let all = subst (λ n. AreRides r w wide.ranks n c.in_ok-rides.rides) was.count c.in_ok-rides.ensures in
    let its = c.leave_far.ensures r w wide.ranks changes (c.before-in-loop-changes.ensures r w c.in_ok-near.ensures) all in
    let own = subst (λ (b : BoundsView). AreRides r w b.ranks changes rides) back (narrowed_rides r w wide.ranks narrow.ranks changes rides so.narrowed its) in
    let more = bounds_more r w old new reach changes refl c.in_ok-push.ensures.items count are (c.in_ok-reach.ensures w ranks own) in
    record {
      count = more.0;
      ranks = ranks;
      are = more.1;
    }

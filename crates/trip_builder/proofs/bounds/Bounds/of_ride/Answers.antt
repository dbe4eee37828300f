use Rattle.std.proofs.Common.{◌≡◌, ◌∙◌, sym, ap, subst}
use Rattle.trip_builder.specs.Bounds.{RanksView, AreRanks, AreRides, BoundsView, ReachView}
use Rattle.trip_builder.proofs.Bounding.{looked_level}
use Rattle.trip_builder.proofs.bounds.Bounds.of_ride.Goals as goal

pub returns : goal.returns
returns c =
    λ r w are.
    (let b = c.args.self.now in
    let same : c.self.inside.ranks ≡ b.ranks = ap (λ (x : BoundsView). x.ranks) c.self.view_is in
    let reach = c.in-Some.reach.now in
    let its : c.reach.inside.rides ≡ reach.rides = ap (λ (x : ReachView). x.rides) c.reach.view_is in
    let changes = c.args.changes in
    let level = looked_level r w b c.deref.result.now changes reach (c.deref.ensures.value ∙ ap (λ (x : BoundsView). x.levels) c.self.view_is) c.in-Some.ensures.lookup.0 c.in-Some.ensures.lookup.1 are in
    let ranks = subst (AreRanks r w) (sym same) level.ranks in
    let rides = subst (λ (v : RanksView). AreRides r w v changes c.reach.inside.rides) (sym same) (subst (AreRides r w b.ranks changes) (sym its) level.rides) in
    λ s rest run from count leads fresh. c.arrival.ensures r w ranks s rest leads (c.firsts_of-two.ensures r w ranks rides s rest run from count leads) fresh)

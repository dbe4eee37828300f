use Rattle.std.proofs.Common.{◌≡◌, ◌∙◌, ◌+◌, ◌-◌, ◌<◌, ℕ, List, length, get_or, sym, ap, subst, arith}
use Rattle.std.proofs.lemmas.Result.{IfOk-weaker}
use Rattle.train_runs.specs.declared.wish.TripWish.{TripWish}
use Rattle.trip_builder.specs.declared.rides.Rides.{Rides}
use Rattle.train_runs.specs.Runs.{RunsView}
use Rattle.trip_builder.specs.Bounds.{RanksView, ReachView, BoundsView, AreRanks, AreRides, AreBounds, IsReach}
use Rattle.trip_builder.proofs.bounds.rides_of.Goals as goal

pub returns-then-count-eq0 : goal.returns-then-count-eq0
returns-then-count-eq0 c =
    let r = c.args.runs.now in
    let w = c.args.wish.now in
    let b = c.args.bounds.now in
    let v = c.bounds.inside.ranks in
    let same : v ≡ b.ranks = ap (λ (x : BoundsView). x.ranks) c.bounds.view_is in
    let none : length b.levels ≡ 0 = sym c.count-count.ensures ∙ c.if-count-eq0.true in
    IfOk-weaker c.last_rides.result (λ (rides : Rides). (w : TripWish) → AreRanks r w v → AreRides r w v 0 rides) (AreRides r w b.ranks (length b.levels))
    (λ rides its. subst (λ n. AreRides r w b.ranks n rides) (sym none) (subst (λ (x : RanksView). AreRides r w x 0 rides) same (its w (subst (AreRanks r w) (sym same) c.requires.ranks)))) c.last_rides.ensures

-- by the bounds with the most changes so far, those with one more
one_more : (r : RunsView) (w : TripWish) (v : RanksView) (b : BoundsView) (levels : List ReachView) (reach : ReachView) (count : ℕ) → v ≡ b.ranks → levels ≡ b.levels → count ≡ length b.levels → 0 < count
    → reach ≡ get_or levels (count - 1) reach → AreBounds r w b → (rides : Rides) → ((w : TripWish) (changes : ℕ) → IsReach r w v changes reach → AreRides r w v (changes + 1) rides)
    → AreRides r w b.ranks (length b.levels) rides
one_more r w v b levels reach count same as_levels size some read are rides its =
    let less = count - 1 in
    let whole : less + 1 ≡ length b.levels = omega (arith, size, some) in
    let is : reach ≡ get_or b.levels less reach = read ∙ ap (λ (l : List ReachView). get_or l less reach) as_levels in
    let one : IsReach r w v less reach = subst (λ (x : RanksView). IsReach r w x less reach) (sym same) (subst (IsReach r w b.ranks less) (sym is) (are less reach (omega (arith, size, some)))) in
    subst (λ n. AreRides r w b.ranks n rides) whole (subst (λ (x : RanksView). AreRides r w x (less + 1) rides) same (its w less one))

pub returns-then-count : goal.returns-then-count
returns-then-count c =
    let r = c.args.runs.now in
    let w = c.args.wish.now in
    let b = c.args.bounds.now in
    let v = c.bounds.inside.ranks in
    let reach = c.index-reach.result.now in
    let some = c.if-count-eq0.false in
    IfOk-weaker c.all_rides.result (λ (rides : Rides). (w : TripWish) (changes : ℕ) → IsReach r w v changes reach → AreRides r w v (changes + 1) rides) (AreRides r w b.ranks (length b.levels))
    (one_more r w v b c.bounds.inside.levels.items reach c.count-count.result (ap (λ (x : BoundsView). x.ranks) c.bounds.view_is) (ap (λ (x : BoundsView). x.levels) c.bounds.view_is) c.count-count.ensures (omega (arith, some))
    c.index-reach.ensures c.requires.bounds) c.all_rides.ensures

pub returns : goal.returns
returns c =
    let r = c.args.runs.now in
    let w = c.args.wish.now in
    let b = c.args.bounds.now in
    let v = c.bounds.inside.ranks in
    let reach = c.index-reach.result.now in
    let some = c.if-count-eq0.false in
    IfOk-weaker c.first_rides.result (λ (rides : Rides). (w : TripWish) (changes : ℕ) → IsReach r w v changes reach → AreRides r w v (changes + 1) rides) (AreRides r w b.ranks (length b.levels))
    (one_more r w v b c.bounds.inside.levels.items reach c.count-count.result (ap (λ (x : BoundsView). x.ranks) c.bounds.view_is) (ap (λ (x : BoundsView). x.levels) c.bounds.view_is) c.count-count.ensures (omega (arith, some))
    c.index-reach.ensures c.requires.bounds) c.first_rides.ensures

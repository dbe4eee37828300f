use Rattle.std.proofs.Common.{◌≡◌, ◌∙◌, ◌≤◌, ◌<◌, ℕ, List, length, get_or, sym, ap, subst}
use Rattle.trip_builder.specs.declared.board.Useful.{Useful}
use Rattle.trip_builder.specs.Bounds.{RanksView, no_rank, Precede, AreRanks, BoundsFresh, BoundsView, ReachView, BoundsWindow, unknown}
use Rattle.trip_builder.proofs.Bounding.{looked_level, firsts_found, leaving_fresh}
use Rattle.trip_builder.proofs.bounds.Bounds.of_leaving.Goals as goal

pub returns : goal.returns
returns c =
    λ r w are.
    (let b = c.args.self.now in
    let same : c.self.inside.ranks ≡ b.ranks = ap (λ (x : BoundsView). x.ranks) c.self.view_is in
    let reach = c.in-Some.reach.now in
    let boards : c.reach.inside.boards ≡ reach.boards = ap (λ (x : ReachView). x.boards) c.reach.view_is in
    let window = c.args.window.now in
    let early = c.firsts-early.result in
    let two = c.join-two.result in
    let level = looked_level r w b c.deref.result.now c.args.changes reach (c.deref.ensures.value ∙ ap (λ (x : BoundsView). x.levels) c.self.view_is) c.in-Some.ensures.lookup.0 c.in-Some.ensures.lookup.1 are in
    let firsts = firsts_found r w b.ranks c.args.changes reach window.station window.from window.to early c.late_ones.result two level
    (subst (λ (l : List (List Useful)). (none : List Useful) → window.station.0 < length l → BoundsWindow (get_or l window.station.0 none) window.from window.to early) boards c.firsts-early.ensures.known)
    (subst (λ (l : List (List Useful)). length l ≤ window.station.0 → early ≡ unknown) boards c.firsts-early.ensures.other)
    (subst (λ (v : RanksView). (rank : ℕ) → v.late ≤ rank → rank < no_rank → Precede c.late_ones.result rank) same c.late_ones.ensures) c.join-two.ensures.left c.join-two.ensures.right in
    leaving_fresh r w b.ranks c.args.changes c.args.way.now window.station window.from window.to c.arrival.result two firsts
    (subst (λ (v : RanksView). BoundsFresh r w v two c.args.way.now c.arrival.result) same (c.arrival.ensures r w (subst (AreRanks r w) (sym same) level.ranks))))

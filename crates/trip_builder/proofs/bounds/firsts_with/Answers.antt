use Rattle.std.proofs.Common.{◌≡◌, ◌≤◌, ◌<◌, List, length, get_or, ap, subst, arith}
use Rattle.rail_ids.specs.declared.StationNo.{StationNo}
use Rattle.trip_builder.specs.declared.board.Useful.{Useful}
use Rattle.trip_builder.specs.Bounds.{ReachView, PrecedeFrom, BoundsWindow, unknown}
use Rattle.trip_builder.proofs.Bounding.{rest_found, window_found}
use Rattle.trip_builder.proofs.bounds.firsts_with.Goals as goal

pub returns-then-precede_rest-clause-own : goal.returns-then-precede_rest-clause-own
returns-then-precede_rest-clause-own c =
    λ w v changes are late.
    (let r = c.args.runs.now in
    let off = c.args.off.now in
    let window = c.window_at-window.result in
    let boards = c.reach.inside.boards in
    let same : boards ≡ c.args.reach.now.boards = ap (λ (x : ReachView). x.boards) c.reach.view_is in
    let said = c.if-precede_rest.true in
    let from = c.window_at-window.ensures.from in
    let its : PrecedeFrom boards window.station.0 window.from c.args.firsts = (c.precede_rest.ensures.known said, c.precede_rest.ensures.rest said) in
    rest_found r w v changes c.args.reach.now off window.from c.args.firsts are late
    (subst (λ (x : StationNo). PrecedeFrom c.args.reach.now.boards x.0 window.from c.args.firsts) c.window_at-window.ensures.station (subst (λ (l : List (List Useful)). PrecedeFrom l window.station.0 window.from c.args.firsts) same its))
    (omega (arith, from)))

pub returns-clause-own : goal.returns-clause-own
returns-clause-own c =
    λ w v changes are late.
    (let r = c.args.runs.now in
    let off = c.args.off.now in
    let reach = c.args.reach.now in
    let window = c.window_at-window.result in
    let here = c.firsts-here.result in
    let same : c.reach.inside.boards ≡ reach.boards = ap (λ (x : ReachView). x.boards) c.reach.view_is in
    let from = c.window_at-window.ensures.from in
    let to = c.window_at-window.ensures.to in
    window_found r w v changes reach off window.from window.to c.args.firsts here c.join.result are late
    (subst (λ (x : StationNo). (none : List Useful) → x.0 < length reach.boards → BoundsWindow (get_or reach.boards x.0 none) window.from window.to here) c.window_at-window.ensures.station
    (subst (λ (l : List (List Useful)). (none : List Useful) → window.station.0 < length l → BoundsWindow (get_or l window.station.0 none) window.from window.to here) same c.firsts-here.ensures.known))
    (subst (λ (x : StationNo). length reach.boards ≤ x.0 → here ≡ unknown) c.window_at-window.ensures.station
    (subst (λ (l : List (List Useful)). length l ≤ window.station.0 → here ≡ unknown) same c.firsts-here.ensures.other))
    c.join.ensures.left c.join.ensures.right (omega (arith, from)) (omega (arith, to)))

use Rattle.std.proofs.Common.{◌≡◌, ◌∙◌, ◌++◌, ◌∷◌, [], List, sym, subst, arith}
use Rattle.train_runs.specs.declared.segment.Segment.{Segment}
use Rattle.trip_builder.specs.Segments.{segment}
use Rattle.trip_builder.specs.Best.{IsTrip, IsDecided}
use Rattle.trip_builder.specs.Search.{IsWay}
use Rattle.trip_builder.proofs.Ways.{way_taken}
use Rattle.trip_builder.proofs.Calling.{call_decided, late_call}
use Rattle.trip_builder.proofs.found.get_off.Goals as goal

pub returns-then-are_all_before-clause-decided : goal.returns-then-are_all_before-clause-decided
returns-then-are_all_before-clause-decided c =
    let r = c.args.runs.now in
    let w = c.args.wish.now in
    late_call r w c.args.found.now.best.trips.items c.args.way.now c.args.departure.now c.in-At.call c.in-At.ensures.value
    (c.are_all_before.ensures r w c.requires.search.kept c.if-are_all_before.true)

pub longer-way-requires-clause-stop : goal.longer-way-requires-clause-stop
longer-way-requires-clause-stop c = c.in-At.ensures.value.few

pub keep-requires-clause-way : goal.keep-requires-clause-way
keep-requires-clause-way c =
    let r = c.args.runs.now in
    let w = c.args.wish.now in
    let later = c.if-call-departure.false in
    subst (IsWay r w) (sym (c.as_slice.ensures.value ∙ c.longer-way.ensures))
    (way_taken r w c.args.way.now c.args.departure.now c.in-At.call.stop c.requires.way c.requires.taken (omega (arith, later)) c.in-At.ensures.value.within)

pub returns-clause-decided : goal.returns-clause-decided
returns-clause-decided c =
    let r = c.args.runs.now in
    let w = c.args.wish.now in
    let way = c.args.way.now in
    let d = c.args.departure.now in
    let new = c.keep.new.self.trips.items in
    let tried : c.as_slice.result.now ≡ way ++ segment d.run.0 d.stop c.in-At.call.stop ∷ [] = c.as_slice.ensures.value ∙ c.longer-way.ensures in
    call_decided r w new way d c.in-At.call c.in-At.ensures.value
    (λ up trip. (subst (λ (t : List Segment). IsTrip r w t → IsDecided r new t) tried c.in_ok-keep.ensures.decided) trip)

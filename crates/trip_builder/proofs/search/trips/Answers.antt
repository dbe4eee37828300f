use Rattle.std.proofs.Common.{◌∙◌, ◌<◌, List, [], length, subst, arith}
use Rattle.trip_builder.specs.Bounds.{ReachView}
use Rattle.trip_builder.specs.Search.{AreDecided}
use Rattle.trip_builder.proofs.Deciding.{best_of_all, one_further, stays_with}
use Rattle.trip_builder.proofs.Riding.{none_shortest}
use Rattle.trip_builder.proofs.search.trips.Goals as goal

pub loop-changes-init : goal.loop-changes-init
loop-changes-init c =
    let r = c.args.runs.now in
    let w = c.args.wish.now in
    record {
      search = record {
        kept = c.none.ensures r w;
        ends = c.in_ok-unknown.ensures r w;
        shortest = none_shortest r w c.blank.result c.blank.ensures;
        bounds = λ n none h. (let inside = subst (λ (l : List ReachView). n < length l) c.unknown-2.ensures h in absurd (omega (arith, inside)));
      };
      decided = λ n h. absurd (omega (arith, h));
    }

pub loop-changes-preserved : goal.loop-changes-preserved
loop-changes-preserved c =
    let r = c.args.runs.now in
    let w = c.args.wish.now in
    let old = c.loop-changes.found.best.trips.items in
    let timed = c.time_rides.new.found.best.trips.items in
    let new = c.go_on.new.found.best.trips.items in
    let was = c.loop-changes.invariant in
    record {
      search = c.in_ok-go_on.ensures.search;
      decided = one_further (λ n. AreDecided r w new [] n) c.loop-changes.changes
          (λ n h s. stays_with r w timed new [] n s c.in_ok-go_on.ensures.grows (stays_with r w old timed [] n s c.in_ok-time_rides.ensures.grows (was.decided n h s))) c.in_ok-go_on.ensures.decided;
    }

pub returns : goal.returns
returns c =
    let ended = c.loop-changes-test.false in
    c.into_trips.ensures ∙ best_of_all c.args.runs.now c.args.wish.now c.loop-changes.found.best.trips.items c.loop-changes.invariant.search.kept.are (λ n h. c.loop-changes.invariant.decided n (omega (arith, h, ended)))

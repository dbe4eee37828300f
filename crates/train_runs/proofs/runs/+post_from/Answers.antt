use Rattle.std.proofs.Common.{rules, tests, ◌+◌, ◌<◌, length, arith, ap}
use Rattle.std.proofs.lemmas.List.{length-set}
use Rattle.train_runs.specs.declared.run.Stop.{Stop}
use Rattle.train_runs.specs.Stops.{no_stop}
use Rattle.train_runs.proofs.Posting.{read_stop, behind_stop, step_stop, put_back}
use Rattle.train_runs.proofs.runs.+post_from.Goals as goal

pub post-requires-clause-behind : goal.post-requires-clause-behind
post-requires-clause-behind t c =
    let stop = c.index-stops-n.result in
    let same = c.stops-stops.ensures.value in
    let count = ap length same in
    let is = read_stop c.stops-stops.result.now c.args.run.now c.args.n stop same (omega (arith, count, c.requires.stops)) c.index-stops-n.is in
    let known = c.requires.known c.args.n no_stop c.requires.stops in
    let station = ap (λ (t : Stop). t.station.0) is in
    behind_stop c.args.runs.now c.args.run.now c.args.n stop.station _ stop is (c.requires.posted stop.station.0 c.index-boards-station.result (omega (arith, known, station)))

pub post_from-requires : goal.post_from-requires
post_from-requires t c =
    let stop = c.index-stops-n.result in
    let same = c.stops-stops.ensures.value in
    let count = ap length same in
    let is = read_stop c.stops-stops.result.now c.args.run.now c.args.n stop same (omega (arith, count, c.requires.stops)) c.index-stops-n.is in
    let known = c.requires.known c.args.n no_stop c.requires.stops in
    let station = ap (λ (t : Stop). t.station.0) is in
    let below : stop.station.0 < length c.args.boards.now = omega (arith, known, station) in
    let further : c.args.n + 1 < length c.args.run.now.stops = omega (arith, c.requires.stops, c.if-n-stops.false, count) in
    let size = length-set c.args.boards.now stop.station.0 c.post.new.self in (
      search (rules, tests),
      (
        step_stop c.args.runs.now c.args.run.now c.args.n c.in_ok-place.place c.args.boards.now stop c.index-boards-station.result c.post.new.self is further below
            c.in_ok-place.ensures.posted.0 c.in_ok-place.ensures.posted.1 c.post.ensures.in_order c.requires.posted,
        (
          (λ k d small. let fine = c.requires.known k d small in omega (arith, fine, size)),
          (further, (c.requires.few, c.requires.runs)),
        ),
      ),
    )

pub returns-in-Err-clause-kept : goal.returns-in-Err-clause-kept
returns-in-Err-clause-kept t c =
    let stop = c.index-stops-n.result in
    let same = c.stops-stops.ensures.value in
    let count = ap length same in
    let is = read_stop c.stops-stops.result.now c.args.run.now c.args.n stop same (omega (arith, count, c.requires.stops)) c.index-stops-n.is in
    let known = c.requires.known c.args.n no_stop c.requires.stops in
    let station = ap (λ (t : Stop). t.station.0) is in
    put_back c.args.boards.now c.post_from.new.boards stop.station.0 c.in_ok-place.place _ c.index-boards-station.result c.post.new.self c.index-boards-station-in-Err.result c.withdraw.new.self
    c.in-Err.ensures.kept (omega (arith, known, station)) c.in_ok-place.ensures.posted.0 c.in_ok-place.ensures.posted.1 c.withdraw.ensures

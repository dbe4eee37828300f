use Rattle.std.proofs.Common.{◌≡◌, ◌∙◌, true, get_or, length, sym, subst, arith}
use Rattle.std.proofs.lemmas.List.Elements.{at_read}
use Rattle.train_runs.specs.declared.run.Stop.{Stop}
use Rattle.train_runs.specs.Stops.{stop_at, no_stop}
use Rattle.trip_builder.proofs.Deciding.{one_further}
use Rattle.trip_builder.proofs.Reaching.{last_marked, least_is}
use Rattle.trip_builder.proofs.bounds.mark_run.Goals as goal

pub loop-stop-preserved : goal.loop-stop-preserved
loop-stop-preserved c =
    let stops = c.stops_of-stops.result.now in
    let new = c.mark.new.self.marks.items in
    let stop = c.loop-stop.stop in
    let was = c.loop-stop.invariant in
    let early = c.loop-stop-test.true in
    let least = c.min-count.ensures in
    record {
      rides = λ w ranks are. c.mark.ensures.rides c.args.runs.now w c.args.ranks.now 0 (was.rides w ranks are);
      kept = λ n holds. c.mark.ensures.kept n (was.kept n holds);
      marked = one_further (λ k. get_or new (stop_at stops k).station.0 true ≡ true) stop (λ k less. c.mark.ensures.kept (stop_at stops k).station.0 (was.marked k less))
          (at_read stops (λ (x : Stop). get_or new x.station.0 true ≡ true) stop c.index-stops-stop.result (omega (arith, early, least)) c.index-stops-stop.is
          (subst (λ (x : Stop). get_or new x.station.0 true ≡ true) (sym c.index-stops-stop.is) c.mark.ensures.marked) no_stop);
    }

pub returns-clause-marked : goal.returns-clause-marked
returns-clause-marked c =
    λ w ranks.
    (let r = c.args.runs.now in
    let v = c.args.ranks.now in
    let was = c.loop-stop.invariant in
    let ended = c.loop-stop-test.false in
    last_marked r w v c.args.run.0 c.from.result c.stops_of-stops.result.now c.loop-stop.rides.marks.items c.min-count.result c.stops_of-stops.ensures.stops
    (λ s is leads less. c.stop_of.ensures r w ranks s is leads less ∙ sym c.from.ensures) (least_is c.min-count.result c.from.result (length c.stops_of-stops.result.now) c.min-count.ensures)
    (λ k less. was.marked k (omega (arith, less, ended))))

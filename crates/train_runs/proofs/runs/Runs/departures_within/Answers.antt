use Rattle.std.proofs.Common.{[], subst}
use Rattle.train_runs.specs.Runs.{RunsView}
use Rattle.train_runs.specs.Departures.{AreDepartures}
use Rattle.train_runs.proofs.Posting.{looked_up, none_there}
use Rattle.train_runs.proofs.runs.Runs.departures_within.Goals as goal

pub returns-in-Some-clause-departures : goal.returns-in-Some-clause-departures
returns-in-Some-clause-departures g c =
    subst (λ (r : RunsView). AreDepartures r.runs c.args.station c.args.from c.args.to c.between.result.now) c.self.view_is
    (looked_up _ c.self.inside.boards.items c.deref.result.now c.args.station c.in-Some.board.now c.between.result.now c.args.from c.args.to c.self.invariant.2 c.deref.ensures.value
    c.in-Some.ensures.lookup.0 c.in-Some.ensures.lookup.1 c.between.ensures.window)

pub returns-in-None-clause-departures : goal.returns-in-None-clause-departures
returns-in-None-clause-departures g c =
    subst (λ (r : RunsView). AreDepartures r.runs c.args.station c.args.from c.args.to []) c.self.view_is
    (none_there _ c.self.inside.boards.items c.deref.result.now c.args.station c.args.from c.args.to c.self.invariant.0 c.self.invariant.2 c.deref.ensures.value c.in-None.ensures.lookup.0)

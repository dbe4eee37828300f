use Rattle.std.proofs.Common.{[], sym, subst}
use Rattle.train_runs.specs.Runs.{RunsView}
use Rattle.train_runs.specs.Departures.{AreExactly, IsDeparture}
use Rattle.train_runs.proofs.Posting.{whole_board, none_at_all}
use Rattle.train_runs.proofs.runs.Runs.all_departures.Goals as goal

pub returns-in-Some-clause-departures : goal.returns-in-Some-clause-departures
returns-in-Some-clause-departures c =
    subst (λ (r : RunsView). AreExactly (IsDeparture r.runs c.args.station) c.all.result.now) c.self.view_is
    (subst (AreExactly (IsDeparture _ c.args.station)) (sym c.all.ensures)
    (whole_board _ c.self.inside.boards.items c.deref.result.now c.args.station c.in-Some.board.now c.self.invariant.2 c.deref.ensures.value
    c.in-Some.ensures.lookup.0 c.in-Some.ensures.lookup.1))

pub returns-in-None-clause-departures : goal.returns-in-None-clause-departures
returns-in-None-clause-departures c =
    subst (λ (r : RunsView). AreExactly (IsDeparture r.runs c.args.station) []) c.self.view_is
    (none_at_all _ c.self.inside.boards.items c.deref.result.now c.args.station c.self.invariant.0 c.self.invariant.2 c.deref.ensures.value c.in-None.ensures.lookup.0)

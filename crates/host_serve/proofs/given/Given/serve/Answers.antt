use Rattle.std.proofs.Common.{◌+◌, refl}
use Rattle.cold_store.specs.Exports.{IsClosed}
use Rattle.cold_store.specs.Tidy.{IsTidyWall}
use Rattle.host_words.specs.Said.{said_in}
use Rattle.host_catalogue.specs.Files.{OfCounts}
use Rattle.host_journal.specs.Causes.{HasKeptCause}
use Rattle.host_serve.specs.Kept.{ServesKept}
use Rattle.host_serve.specs.Serve.{Left, heard, left_of, some_count}
use Rattle.host_serve.proofs.Alone.{match_some}
use Rattle.host_serve.proofs.Leaving.{wall_said}
use Rattle.host_serve.proofs.Telling.{wall_closed, wall_tidy}
use Rattle.host_serve.proofs.given.Given.serve.Goals as goal

pub returns-then-is_none-clause-alone : goal.returns-then-is_none-clause-alone
returns-then-is_none-clause-alone g c none =
    let run = c.serve_alone-outcome in (run.result.outcome, refl, run.ensures.ends, run.ensures.before, run.ensures.cause)

pub returns-then-is_none-clause-closed : goal.returns-then-is_none-clause-closed
returns-then-is_none-clause-closed g c =
    let run = c.serve_alone-outcome in
    let hear = heard g.L.Listener.told g.L.Listener.faults g.L.Listener.becomes g.L.Listener.hands in
    let left : Left = left_of hear g.C.Clock.told g.T.Ticker.ticked c.args.self.devices run.result.listener run.result.wall in
    wall_closed (g.F.Shelf.told c.args.shelf.now) (said_in c.args.self.said.now) left run.result.outcome run.ensures.ends

pub returns-then-is_none-clause-tidy : goal.returns-then-is_none-clause-tidy
returns-then-is_none-clause-tidy g c =
    let run = c.serve_alone-outcome in
    let hear = heard g.L.Listener.told g.L.Listener.faults g.L.Listener.becomes g.L.Listener.hands in
    let left : Left = left_of hear g.C.Clock.told g.T.Ticker.ticked c.args.self.devices run.result.listener run.result.wall in
    wall_tidy (g.F.Shelf.told c.args.shelf.now) (said_in c.args.self.said.now) left run.result.outcome run.ensures.ends

pub returns-in-Some-clause-kept : goal.returns-in-Some-clause-kept
returns-in-Some-clause-kept g c name is =
    let run = c.serve_journal in
    let hear = heard g.L.Listener.told g.L.Listener.faults g.L.Listener.becomes g.L.Listener.hands in
    let alone : Left = left_of hear g.C.Clock.told g.T.Ticker.ticked c.args.self.devices run.result.listener run.result.wall in
    match_some c.args.keeping c.in-Some.keeping _
    (λ k. ServesKept (g.F.Shelf.told c.args.shelf.now) (said_in c.args.self.said.now) (g.J.Journal.told k.journal) (record alone { watchers = 1 + some_count c.args.self.devices.findings }) run.result.outcome
    × OfCounts g.F.Shelf.faults g.F.Shelf.misses c.args.shelf.now run.new.shelf (HasKeptCause run.result.outcome))
    c.in-Some.is (run.ensures.serves, run.ensures.cause)

pub returns-in-Some-clause-closed : goal.returns-in-Some-clause-closed
returns-in-Some-clause-closed g c =
    let run = c.serve_journal in
    let hear = heard g.L.Listener.told g.L.Listener.faults g.L.Listener.becomes g.L.Listener.hands in
    let alone : Left = left_of hear g.C.Clock.told g.T.Ticker.ticked c.args.self.devices run.result.listener run.result.wall in
    wall_said (g.F.Shelf.told c.args.shelf.now) (said_in c.args.self.said.now) (g.J.Journal.told c.in-Some.keeping.journal) (record alone { watchers = 1 + some_count c.args.self.devices.findings })
    IsClosed run.result.outcome run.ensures.serves (λ cat plan w is. is.closed)

pub returns-in-Some-clause-tidy : goal.returns-in-Some-clause-tidy
returns-in-Some-clause-tidy g c =
    let run = c.serve_journal in
    let hear = heard g.L.Listener.told g.L.Listener.faults g.L.Listener.becomes g.L.Listener.hands in
    let alone : Left = left_of hear g.C.Clock.told g.T.Ticker.ticked c.args.self.devices run.result.listener run.result.wall in
    wall_said (g.F.Shelf.told c.args.shelf.now) (said_in c.args.self.said.now) (g.J.Journal.told c.in-Some.keeping.journal) (record alone { watchers = 1 + some_count c.args.self.devices.findings })
    IsTidyWall run.result.outcome run.ensures.serves (λ cat plan w is. is.tidy)

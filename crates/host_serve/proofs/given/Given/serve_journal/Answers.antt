use Rattle.std.proofs.Common.{◌+◌, subst}
use Rattle.host_words.specs.Said.{said_in}
use Rattle.host_catalogue.specs.Files.{Files}
use Rattle.host_serve.specs.Kept.{ServesBooks, sources_of}
use Rattle.host_serve.specs.Serve.{Left, heard, left_of, some_count}
use Rattle.host_serve.proofs.Leaving.{kept_cause, kept_of}
use Rattle.host_serve.proofs.given.Given.serve_journal.Goals as goal

pub returns-in-Ok-clause-serves : goal.returns-in-Ok-clause-serves
returns-in-Ok-clause-serves g c =
    let run = c.serve_left in
    let told = g.J.Journal.told c.args.keeping.journal in
    let hear = heard g.L.Listener.told g.L.Listener.faults g.L.Listener.becomes g.L.Listener.hands in
    let alone : Left = left_of hear g.C.Clock.told g.T.Ticker.ticked c.args.self.devices run.result.listener run.result.wall in
    let left : Left = record alone { watchers = 1 + some_count c.args.self.devices.findings } in
    let said = said_in c.args.self.said.now in
    let serves = subst (λ (files : Files). ServesBooks c.in-Ok.cat said.numbers (sources_of files said told) left run.result.outcome) c.in-Ok.ensures.same run.ensures.serves in
    kept_of c.in-Ok.cat told left (g.F.Shelf.told c.args.shelf.now) said c.in-Ok.ensures.loads run.result.outcome serves

pub returns-in-Ok-clause-cause : goal.returns-in-Ok-clause-cause
returns-in-Ok-clause-cause g c =
    kept_cause c.serve_left.result.outcome _ _ _ _ _ _ c.in-Ok.ensures.steady c.in-Ok.ensures.never_falls c.serve_left.ensures.cause

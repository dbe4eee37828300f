use Rattle.std.proofs.Common.{◌+◌, ◌∙◌, ℕ, ap, sym, subst}
use Rattle.host_words.specs.Said.{said_in}
use Rattle.host_journal.specs.Causes.{HasKeptCause}
use Rattle.host_journal.specs.Left.{Sources}
use Rattle.host_serve.specs.Kept.{ListensTo, ServesBooks, sources_of}
use Rattle.host_serve.specs.Serve.{Left, heard, left_of, some_count}
use Rattle.host_journal.specs.declared.end.KeptOutcome.{KeptOutcome}
use Rattle.host_serve.proofs.Leaving.{listened_kept, opened_first, opened_has, served_left}
use Rattle.host_serve.proofs.given.Given.serve_left.Goals as goal

pub listen_and_serve-outcome-requires-clause-has : goal.listen_and_serve-outcome-requires-clause-has
listen_and_serve-outcome-requires-clause-has g c κs within =
    let ok = c.in-Ok.ensures.ok.1 in opened_has c.args.cat.now ok.0 c.in-Ok.opened.0.books c.in-Ok.opened.0.first ok.2

pub listen_and_serve-outcome-requires-clause-first : goal.listen_and_serve-outcome-requires-clause-first
listen_and_serve-outcome-requires-clause-first g c κs within =
    let ok = c.in-Ok.ensures.ok.1 in opened_first c.args.cat.now ok.0 c.in-Ok.opened.0.books c.in-Ok.opened.0.first ok.2

pub returns-clause-serves : goal.returns-clause-serves
returns-clause-serves g c =
    let run = c.listen_and_serve-outcome in
    let hear = heard g.L.Listener.told g.L.Listener.faults g.L.Listener.becomes g.L.Listener.hands in
    let alone : Left = left_of hear g.C.Clock.told g.T.Ticker.ticked c.args.self.devices run.result.listener run.result.wall in
    let left : Left = record alone { watchers = 1 + some_count c.args.self.devices.findings } in
    let said = c.args.self.said.now in
    let ok = c.in-Ok.ensures.ok.1 in
    let cat = c.args.cat.now in
    let plan = c.in-Ok.opened.0.books.layout in
    let listens = subst (λ (k : ℕ). ListensTo cat plan said.numbers (record left { watchers = k }) run.result.outcome)
    (c.in-Ok-list_of.ensures ∙ ap (λ (n : ℕ). 1 + n) (c.other-looker.ensures ∙ c.of.ensures)) run.ensures.ends in
    let from : Sources = sources_of (g.F.Shelf.told c.args.shelf.now) (said_in said) (g.J.Journal.told c.args.keeping.journal) in
    subst (λ (o : KeptOutcome). ServesBooks cat said.numbers from left o) (sym c.kept.ensures)
    (served_left cat said.numbers from left ok.0 plan ok.1 ok.2.layout c.is_lost.result run.result.outcome listens)

pub returns-clause-cause : goal.returns-clause-cause
returns-clause-cause g c =
    let run = c.listen_and_serve-outcome in
    let hear = heard g.L.Listener.told g.L.Listener.faults g.L.Listener.becomes g.L.Listener.hands in
    let alone : Left = left_of hear g.C.Clock.told g.T.Ticker.ticked c.args.self.devices run.result.listener run.result.wall in
    let left : Left = record alone { watchers = 1 + some_count c.args.self.devices.findings } in
    let said = c.args.self.said.now in
    let cat = c.args.cat.now in
    let plan = c.in-Ok.opened.0.books.layout in
    let listens = subst (λ (k : ℕ). ListensTo cat plan said.numbers (record left { watchers = k }) run.result.outcome)
    (c.in-Ok-list_of.ensures ∙ ap (λ (n : ℕ). 1 + n) (c.other-looker.ensures ∙ c.of.ensures)) run.ensures.ends in
    let from : Sources = sources_of (g.F.Shelf.told c.args.shelf.now) (said_in said) (g.J.Journal.told c.args.keeping.journal) in
    let failed = g.F.Shelf.faults c.args.shelf.now in
    let fails = g.F.Shelf.faults c.open_journal.new.shelf in
    let missed = g.F.Shelf.misses c.args.shelf.now in
    let misses = g.F.Shelf.misses c.open_journal.new.shelf in
    subst (λ (o : KeptOutcome). HasKeptCause o failed fails missed misses) (sym c.kept.ensures)
    (listened_kept cat said.numbers from left failed fails missed misses plan c.in-Ok.ensures.steady c.is_lost.result run.result.outcome listens)

use Rattle.host_words.specs.Said.{said_in}
use Rattle.host_serve.specs.Serve.{Left, heard, left_of}
use Rattle.host_serve.proofs.Alone.{ends_of, listened_cause}
use Rattle.host_serve.proofs.given.Given.serve_alone.Goals as goal

pub returns-clause-ends : goal.returns-clause-ends
returns-clause-ends g c =
    let run = c.listen_alone in
    let hear = heard g.L.Listener.told g.L.Listener.faults g.L.Listener.becomes g.L.Listener.hands in
    let left : Left = left_of hear g.C.Clock.told g.T.Ticker.ticked c.args.self.devices run.result.listener run.result.wall in
    let books = c.in-Ok.ensures.books in
    (ends_of c.in-Ok.opened.0 books.0 c.in-Ok.opened.1.layout (g.F.Shelf.told c.args.shelf.now) (said_in c.args.self.said.now) left books.1 books.2 run.result.outcome run.ensures.ends).0

pub returns-clause-before : goal.returns-clause-before
returns-clause-before g c =
    let run = c.listen_alone in
    let hear = heard g.L.Listener.told g.L.Listener.faults g.L.Listener.becomes g.L.Listener.hands in
    let left : Left = left_of hear g.C.Clock.told g.T.Ticker.ticked c.args.self.devices run.result.listener run.result.wall in
    let books = c.in-Ok.ensures.books in
    (ends_of c.in-Ok.opened.0 books.0 c.in-Ok.opened.1.layout (g.F.Shelf.told c.args.shelf.now) (said_in c.args.self.said.now) left books.1 books.2 run.result.outcome run.ensures.ends).1

pub returns-clause-cause : goal.returns-clause-cause
returns-clause-cause g c =
    let run = c.listen_alone in
    let hear = heard g.L.Listener.told g.L.Listener.faults g.L.Listener.becomes g.L.Listener.hands in
    let left : Left = left_of hear g.C.Clock.told g.T.Ticker.ticked c.args.self.devices run.result.listener run.result.wall in
    listened_cause c.in-Ok.opened.0 c.in-Ok.opened.1.layout c.args.self.said.now.numbers left _ _ _ _
    c.in-Ok.ensures.steady run.result.outcome run.ensures.ends

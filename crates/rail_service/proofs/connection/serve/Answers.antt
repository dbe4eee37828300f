use Rattle.std.proofs.Common.{subst}
use Rattle.claim_rule.specs.Rule.{BooksView}
use Rattle.claim_rule.specs.Desks.{IsOf}
use Rattle.session_loop.specs.Writes.{showing}
use Rattle.rail_service.proofs.Connecting.{through, serves, may_reply}
use Rattle.rail_service.proofs.connection.serve.Goals as goal

pub returns-clause-own : goal.returns-clause-own
returns-clause-own g c =
    let did = c.run_permitted.ensures.answers in
    let t = through g.C.Clock.told c.args.service.now c.run_permitted.new.responder did.0 (g.S.Source.told c.run_permitted.new.source) did.1 c.run_permitted.result c.requires.ready.own.legal did.4 in
    subst (λ (books : BooksView). IsOf books c.run_permitted.new.responder.desk.now) t.books c.run_permitted.ensures.ready.own

pub returns-clause-tidy : goal.returns-clause-tidy
returns-clause-tidy g c =
    let did = c.run_permitted.ensures.answers in
    let t = through g.C.Clock.told c.args.service.now c.run_permitted.new.responder did.0 (g.S.Source.told c.run_permitted.new.source) did.1 c.run_permitted.result c.requires.ready.own.legal did.4 in
    t.tidy

pub returns-clause-served : goal.returns-clause-served
returns-clause-served g c =
    let did = c.run_permitted.ensures.answers in (
      did.0,
      did.1,
      did.2,
      did.3,
      serves g.C.Clock.told c.args.service.now c.run_permitted.new.responder did.0 (g.S.Source.told c.run_permitted.new.source) did.1 c.run_permitted.result c.requires.ready.own.legal
          c.run_permitted.ensures.ready.idle did.4,
    )

pub returns-clause-same_desk : goal.returns-clause-same_desk
returns-clause-same_desk g c =
    let did = c.run_permitted.ensures.answers in
    let t = through g.C.Clock.told c.args.service.now c.run_permitted.new.responder did.0 (g.S.Source.told c.run_permitted.new.source) did.1 c.run_permitted.result c.requires.ready.own.legal did.4 in
    t.desk

pub returns-clause-same_clock : goal.returns-clause-same_clock
returns-clause-same_clock g c =
    let did = c.run_permitted.ensures.answers in
    let t = through g.C.Clock.told c.args.service.now c.run_permitted.new.responder did.0 (g.S.Source.told c.run_permitted.new.source) did.1 c.run_permitted.result c.requires.ready.own.legal did.4 in
    t.clock

pub run_permitted-requires-clause-permits : goal.run_permitted-requires-clause-permits
run_permitted-requires-clause-permits g c = λ now piece may. c.requires.permits now piece
    (may_reply g.C.Clock.told g.C.Clock.begun g.C.Clock.ends (showing g.K.Outlet.told g.K.Outlet.takes g.K.Outlet.held) c.args.service.now
    (g.S.Source.told c.args.source.now) c.args.sink.now now piece
    c.requires.ready.own.legal may)

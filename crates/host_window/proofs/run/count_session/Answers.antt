use Rattle.std.proofs.Common.{ap}
use Rattle.session_loop.specs.Writes.{showing}
use Rattle.host_window.proofs.Runs.{at_first, at_last, handed_keeps, rest_of, took_of, tells_same, Tells}
use Rattle.host_window.proofs.run.count_session.Goals as goal

pub run_permitted-end-requires-clause-permits : goal.run_permitted-end-requires-clause-permits
run_permitted-end-requires-clause-permits g c =
    λ now piece m. rest_of g.P.Script.text g.P.Script.follows g.P.Script.given g.R.Responder.answers g.R.Responder.refuses
    c.requires.answers c.requires.refuses g.R.Responder.awaits (showing _ _ _) c.args.responder.now
    (g.S.Source.told c.args.source.now) (record { sink = c.args.sink; script = _ }) now piece
    c.requires.follows c.requires.first c.requires.tells m

pub returns : goal.returns
returns g c =
    let text = g.P.Script.text in
    let did = c.run_permitted-end.ensures.answers in
    record {
      counted = λ counts plain. at_last text c.requires.some counts _
          (handed_keeps (showing _ _ _)
          (λ w. Tells text c.requires.some counts (record { told = g.K.Sink.told w.sink.sink; left = w.sink.turn.left; counts = w.sink.counts }))
          (λ before bytes after took. took_of text c.requires.some counts _ bytes _ took)
          (λ before cut after same. tells_same text c.requires.some counts _ _ same.0 (ap (λ t. t.left) same.1) same.2)
          (record { sink = c.args.sink; script = _ }) c.run_permitted-end.new.sink did.1 did.3
          (at_first text c.requires.some counts _ c.requires.tells c.requires.idle plain));
    }

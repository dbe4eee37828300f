use Rattle.std.proofs.Common.{[], refl, inl}
use Rattle.session_loop.proofs.WriteLemmas.{end_none}
use Rattle.session_loop.proofs.Serving.{front_none}
use Rattle.host_tiny.proofs.Hosting.{end_of_run}
use Rattle.host_tiny.proofs.command.serve.Goals as goal

pub returns-in_default-clause-serves : goal.returns-in_default-clause-serves
returns-in_default-clause-serves g c =
    ([], [], front_none (g.S.Source.told c.args.input.now), end_none (g.K.Sink.told c.args.output.now), inl (refl, refl, refl))

pub returns-in_default-start-clause-serves : goal.returns-in_default-start-clause-serves
returns-in_default-start-clause-serves g c =
    ([], [], front_none (g.S.Source.told c.args.input.now), end_none (g.K.Sink.told c.args.output.now), inl (refl, refl, refl))

pub returns-clause-serves : goal.returns-clause-serves
returns-clause-serves g c =
    let a = c.run_session.ensures.answers in (
      a.0,
      a.1,
      a.2,
      a.3,
      end_of_run c.args.said.legs c.args.said.places c.in-Ok-start.tiny c.run_session.new.responder a.0 (g.S.Source.told c.run_session.new.source) a.1 c.run_session.result
          c.in-Ok-start.ensures a.4,
    )

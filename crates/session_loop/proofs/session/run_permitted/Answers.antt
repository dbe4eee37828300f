use Rattle.std.proofs.Common.{◌+◌, [], ◌++◌, refl, sym, ◌∙◌, arith}
use Rattle.session_loop.specs.Writes.{showing}
use Rattle.session_loop.proofs.Serving.{Through, front_more, front_none, step_more, step_end}
use Rattle.session_loop.proofs.Handing.{handed_none, handed_then, may_write}
use Rattle.session_loop.proofs.session.run_permitted.Goals as goal

pub requests-init : goal.requests-init
requests-init g c = record {
  taken = [];
  told = front_none (g.S.Source.told c.args.source.now);
  requests = [];
  begins = sym c.requires.empty;
  open' = tt;
  count = c.requires.fresh;
  few = omega (arith, c.requires.fresh);
  written = [];
  handed = handed_none (showing g.K.Outlet.told g.K.Outlet.takes g.K.Outlet.held) c.args.sink.now;
  chain = (refl, refl);
  ready = c.requires.ready;
  source_faults = refl;
  sink_faults = refl;
}

pub returns-in-Some-clause-answers : goal.returns-in-Some-clause-answers
returns-in-Some-clause-answers g c =
    let inv = c.requests.invariant in
    let step = c.in-Some.ensures.step in
    let t : Through g.R.Responder.answers g.R.Responder.refuses c.args.responder.now inv.taken c.requests.intake.given c.requests.intake.unread c.requests.responder inv.written = record {
      requests = inv.requests;
      begins = inv.begins;
      open' = inv.open';
      count = inv.count;
      few = inv.few;
      chain = inv.chain;
    } in (
      inv.taken ++ step.0,
      inv.written ++ step.1,
      front_more (g.S.Source.told c.args.source.now) (g.S.Source.told c.requests.source) (g.S.Source.told c.step.new.source)
          inv.taken step.0 inv.told step.2,
      handed_then (showing g.K.Outlet.told g.K.Outlet.takes g.K.Outlet.held) c.args.sink.now c.requests.sink c.step.new.sink inv.written step.1 inv.handed step.3,
      step_end g.R.Responder.answers g.R.Responder.refuses c.args.responder.now inv.taken step.0 c.requests.intake.given c.requests.intake.unread
          c.step.new.intake.unread c.requests.responder c.step.new.responder inv.written (g.S.Source.told c.step.new.source) step.1 c.in-Some.end t step.4,
    )

pub requests-preserved : goal.requests-preserved
requests-preserved g c =
    let inv = c.requests.invariant in
    let step = c.in_default.ensures.step in
    let t : Through g.R.Responder.answers g.R.Responder.refuses c.args.responder.now inv.taken c.requests.intake.given c.requests.intake.unread c.requests.responder inv.written = record {
      requests = inv.requests;
      begins = inv.begins;
      open' = inv.open';
      count = inv.count;
      few = inv.few;
      chain = inv.chain;
    } in
    let next : Through g.R.Responder.answers g.R.Responder.refuses c.args.responder.now (inv.taken ++ step.0) (c.requests.intake.given + 1) c.step.new.intake.unread c.step.new.responder (inv.written ++ step.1) =
    step_more g.R.Responder.answers g.R.Responder.refuses c.args.responder.now inv.taken step.0 c.requests.intake.given c.requests.intake.unread
    c.step.new.intake.unread c.requests.responder c.step.new.responder inv.written step.1 step.4.0 t step.4.1 step.4.2 in
    record {
      taken = inv.taken ++ step.0;
      told = front_more (g.S.Source.told c.args.source.now) (g.S.Source.told c.requests.source) (g.S.Source.told c.step.new.source)
          inv.taken step.0 inv.told step.2;
      requests = next.requests;
      begins = next.begins;
      open' = next.open';
      count = c.in_default.ensures.given ∙ next.count;
      few = omega (arith, c.in_default.ensures.given, next.few);
      written = inv.written ++ step.1;
      handed = handed_then (showing g.K.Outlet.told g.K.Outlet.takes g.K.Outlet.held) c.args.sink.now c.requests.sink c.step.new.sink inv.written step.1 inv.handed step.3;
      chain = next.chain;
      ready = c.in_default.ensures.ready;
      source_faults = c.in_default.ensures.source_steady (λ e. absurd cc) ∙ inv.source_faults;
      sink_faults = c.in_default.ensures.sink_steady (λ e. absurd cc) ∙ inv.sink_faults;
    }

pub step-requires-clause-permits : goal.step-requires-clause-permits
step-requires-clause-permits g c =
    let inv = c.requests.invariant in
    let t : Through g.R.Responder.answers g.R.Responder.refuses c.args.responder.now inv.taken c.requests.intake.given c.requests.intake.unread c.requests.responder inv.written = record {
      requests = inv.requests;
      begins = inv.begins;
      open' = inv.open';
      count = inv.count;
      few = inv.few;
      chain = inv.chain;
    } in
    λ now piece may. c.requires.permits now piece
    (may_write g.R.Responder.answers g.R.Responder.refuses g.R.Responder.awaits (showing g.K.Outlet.told g.K.Outlet.takes g.K.Outlet.held) c.args.responder.now
    (g.S.Source.told c.args.source.now) (g.S.Source.told c.requests.source) c.args.sink.now c.requests.sink inv.taken c.requests.intake.given
    c.requests.intake.unread c.requests.responder inv.written t inv.told inv.handed now piece may)

use Rattle.std.proofs.Common.{ℕ, List, [], ◌++◌, refl, ◌∙◌, ap, subst, inl, inr, append-nil}
use Rattle.http_wire.specs.Pieces.{request_text}
use Rattle.session_loop.specs.Writes.{showing}
use Rattle.session_loop.proofs.Handing.{handed_none, handed_one}
use Rattle.session_loop.proofs.session.step.Goals as goal

pub returns-then-not-write_answer-clause-step : goal.returns-then-not-write_answer-clause-step
returns-then-not-write_answer-clause-step g c =
    let next = c.in-Request.ensures.next in
    let w = c.if-not-write_answer.ensures.hands in
    let request = request_text c.next_request.new.self.taken c.in-Request.request in (
      next.0,
      w.written,
      next.1,
      handed_one (showing g.K.Outlet.told g.K.Outlet.takes g.K.Outlet.held) c.args.sink.now c.write_answer.new.sink c.answer-answer.result.after w.written w.took,
      (
        w.left,
        inl (
          request,
          record {
            reads = next.2.2;
            replies = subst (λ (a : List ℕ). g.R.Responder.answers c.args.responder.now request a c.answer-answer.new.self) w.is c.answer-answer.ensures.answers;
          },
        ),
      ),
    )

pub returns-then-request-clause-step : goal.returns-then-request-clause-step
returns-then-request-clause-step g c =
    let next = c.in-Request.ensures.next in
    let w = c.if-not-write_answer.ensures.hands in
    let request = request_text c.next_request.new.self.taken c.in-Request.request in
    let all = w.is ∙ ap (λ (l : List ℕ). w.written ++ l) (w.whole refl) ∙ append-nil w.written in (
      next.0,
      w.written,
      next.1,
      handed_one (showing g.K.Outlet.told g.K.Outlet.takes g.K.Outlet.held) c.args.sink.now c.write_answer.new.sink c.answer-answer.result.after w.written w.took,
      inr (
        request,
        record {
          reads = next.2.2;
          replies = subst (λ (a : List ℕ). g.R.Responder.answers c.args.responder.now request a c.answer-answer.new.self) all c.answer-answer.ensures.answers;
        },
        c.if-request.true,
      ),
    )

pub returns-else-request-clause-step : goal.returns-else-request-clause-step
returns-else-request-clause-step g c =
    let next = c.in-Request.ensures.next in
    let w = c.if-not-write_answer.ensures.hands in
    let request = request_text c.next_request.new.self.taken c.in-Request.request in
    let all = w.is ∙ ap (λ (l : List ℕ). w.written ++ l) (w.whole refl) ∙ append-nil w.written in (
      next.0,
      w.written,
      next.1,
      handed_one (showing g.K.Outlet.told g.K.Outlet.takes g.K.Outlet.held) c.args.sink.now c.write_answer.new.sink c.answer-answer.result.after w.written w.took,
      (
        request,
        record {
          reads = next.2.2;
          replies = subst (λ (a : List ℕ). g.R.Responder.answers c.args.responder.now request a c.answer-answer.new.self) all c.answer-answer.ensures.answers;
        },
        c.if-request.false,
      ),
    )

pub returns-in-End-clause-step : goal.returns-in-End-clause-step
returns-in-End-clause-step g c =
    let next = c.in-End.ensures.next in (
      next.0,
      [],
      next.1,
      handed_none (showing g.K.Outlet.told g.K.Outlet.takes g.K.Outlet.held) c.args.sink.now,
      inl (next.2.0, next.2.1, refl, refl),
    )

pub returns-else-not-refuse-clause-step : goal.returns-else-not-refuse-clause-step
returns-else-not-refuse-clause-step g c =
    let next = c.in-Bad.ensures.next in
    let refused = c.if-not-refuse.ensures.hands in
    let w = refused.3 in
    let all = w.is ∙ ap (λ (l : List ℕ). w.written ++ l) (w.whole refl) ∙ append-nil w.written in (
      next.0,
      w.written,
      next.1,
      handed_one (showing g.K.Outlet.told g.K.Outlet.takes g.K.Outlet.held) c.args.sink.now c.refuse.new.sink refused.1 w.written w.took,
      (
        next.2.0,
        subst (λ (a : List ℕ). g.R.Responder.refuses c.args.responder.now c.in-Bad.fault a) all refused.2,
        c.if-not-refuse.ensures.same,
      ),
    )

pub returns-then-not-refuse-clause-step : goal.returns-then-not-refuse-clause-step
returns-then-not-refuse-clause-step g c =
    let next = c.in-Bad.ensures.next in
    let refused = c.if-not-refuse.ensures.hands in
    let w = refused.3 in (
      next.0,
      w.written,
      next.1,
      handed_one (showing g.K.Outlet.told g.K.Outlet.takes g.K.Outlet.held) c.args.sink.now c.refuse.new.sink refused.1 w.written w.took,
      (
        w.left,
        inr (
          c.in-Bad.fault,
          next.2.0,
          subst (λ (a : List ℕ). g.R.Responder.refuses c.args.responder.now c.in-Bad.fault a) w.is refused.2,
          c.if-not-refuse.ensures.same,
        ),
      ),
    )

pub write_answer-requires : goal.write_answer-requires
write_answer-requires g c =
    let next = c.in-Request.ensures.next in
    let request = request_text c.next_request.new.self.taken c.in-Request.request in
    record {
      permits = λ now part more took is. c.requires.permits now more (record {
        pulled = next.0;
        left = g.S.Source.told c.next_request.new.source;
        reads = next.1;
        after = c.answer-answer.new.self;
        part = part;
        next = inl (
          request,
          c.next_request.new.self.unread,
          next.2.2,
          subst (λ (a : List ℕ). g.R.Responder.answers c.args.responder.now request a c.answer-answer.new.self) is c.answer-answer.ensures.answers,
        );
        cut = c.answer-answer.result.after;
        awaited = c.answer-answer.ensures.awaits;
        took = took;
      });
    }

pub refuse-requires : goal.refuse-requires
refuse-requires g c =
    let next = c.in-Bad.ensures.next in
    record {
      permits = λ answer cut refuses awaits now part more took is. c.requires.permits now more (record {
        pulled = next.0;
        left = g.S.Source.told c.next_request.new.source;
        reads = next.1;
        after = c.args.responder.now;
        part = part;
        next = inr (
          c.in-Bad.fault,
          next.2.0,
          subst (λ (a : List ℕ). g.R.Responder.refuses c.args.responder.now c.in-Bad.fault a) is refuses,
          refl,
        );
        cut = cut;
        awaited = awaits;
        took = took;
      });
    }

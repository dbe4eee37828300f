use Rattle.std.proofs.Common.{Bool, Option, Result, Ok, Err, inr, refl, sym, ap, subst, ◌∙◌}
use Rattle.rail_ids.specs.declared.RetailerNo.{RetailerNo}
use Rattle.http_wire.specs.Pieces.{request_text}
use Rattle.claim_rule.proofs.Shapes.{shape_none}
use Rattle.osdm_texts.specs.Answers.{problem}
use Rattle.claim_rule.proofs.Out.{makes_empty}
use Rattle.rail_service.specs.Bytes.{reply_bytes}
use Rattle.rail_service.proofs.Telling.{of_problem}
use Rattle.rail_service.proofs.Awaiting.{asked_by_retailer, given_by, said_looks}
use Rattle.osdm_parts.specs.declared.problem.Problem.{Problem}
use Rattle.rail_service.specs.Serving.{first_after, admitted, AsksAdmitted}
use Rattle.rail_service.specs.Connections.{IsReading}
use Rattle.rail_service.specs.Responding.{view_of}
use Rattle.service_rules.specs.Checks.{ordered}
use Rattle.rail_service.proofs.Performed.{told_so}
use Rattle.rail_service.proofs.Replying.{reading_of, answer_by}
use Rattle.rail_service.proofs.service.ServiceResponder.answer.Goals as goal

pub returns-clause-answers : goal.returns-clause-answers
returns-clause-answers g c =
    let cat = c.args.self.now.cat.now in
    let first = c.args.self.now.first in
    let request = request_text c.args.intake.now.taken c.args.request.now in
    let retailer = c.in-Ok.retailer in
    let command = c.in-Ok-asking.command in
    let may = c.in-Ok.ensures.value ∙ ap (λ (known : Option RetailerNo). admitted first known) c.retailer_of-retailer.ensures.value in
    let asks = subst (λ (a : Result RetailerNo Problem). AsksAdmitted cat request a (Ok (retailer, command))) may
    (asked_by_retailer cat request retailer (Ok command) c.in-Ok-asking.ensures.asks) in
    let told = g.C.Clock.told in
    let reading = subst (IsReading (told c.args.self.now.clock.now) c.now-now.result)
    (sym (c.end.ensures.same ∙ (c.begin.ensures.same ∙ c.asked-asking.ensures.same)))
    (reading_of _ _ _ c.now-now.ensures.first c.now-now.ensures.rest) in
    let did = told_so cat retailer.0 c.now-now.result c.args.last (ordered cat c.now-now.result command) _ _ _ _
    c.requires.ready.own.legal c.say_begun-said.ensures.said c.answer_of.ensures.bytes in
    record {
      answer = answer_by cat (view_of told c.args.self.now) request _ _ c.now-now.result did.0
          c.requires.ready.own.legal reading
          (Ok (retailer, command), asks, (did.1, did.2))
          (did.4 ∙ ap (λ (last : Bool). reply_bytes cat last did.0) c.requires.last)
          (c.first_after-self.ensures.value
          ∙ ap (λ (known : Option RetailerNo). first_after first known) c.retailer_of-retailer.ensures.value)
          c.say_begun-said.ensures.home.home.idle
          (makes_empty c.args.self.now.books.now _ c.say_begun-said.ensures.home.home.own c.say_begun-said.ensures.home.home.idle.0);
      tidy = c.say_begun-said.ensures.home.tidy;
      cat = refl;
      books = refl;
      desk = refl;
      clock = refl;
    }

-- the clock gave the answer's cut
pub returns-clause-awaits : goal.returns-clause-awaits
returns-clause-awaits g c =
    inr (given_by g.C.Clock.begun g.C.Clock.ends _ _ _ _ _ _ _ c.answer_of.ensures.after c.begin.ensures.begun
    (said_looks c.args.self.now.cat.now c.in-Ok.retailer.0 c.now-now.result c.in-Ok-asking.command _ _ _ _
    c.requires.ready.own.legal c.reach_of.ensures.reach c.say_begun-said.ensures.said)
    c.end.ensures.ends)

-- refused for its key
pub returns-in-Err-clause-answers : goal.returns-in-Err-clause-answers
returns-in-Err-clause-answers g c =
    let cat = c.args.self.now.cat.now in
    let reply = problem c.in-Err.problem in
    let first = c.args.self.now.first in
    let request = request_text c.args.intake.now.taken c.args.request.now in
    let may = c.in-Err.ensures.value ∙ ap (λ (known : Option RetailerNo). admitted first known) c.retailer_of-retailer.ensures.value in
    let asks = subst (λ (a : Result RetailerNo Problem). AsksAdmitted cat request a (Err c.in-Err.problem)) may refl in
    let told = g.C.Clock.told in
    let reading = subst (IsReading (told c.args.self.now.clock.now) c.now-now.result) (sym c.hear_refused.ensures.same)
    (reading_of _ _ _ c.now-now.ensures.first c.now-now.ensures.rest) in
    record {
      answer = answer_by cat (view_of told c.args.self.now) request _ _ c.now-now.result reply
          c.requires.ready.own.legal reading
          (Err c.in-Err.problem, asks, (shape_none c.args.self.now.desk.now c.requires.ready.own.legal, refl))
          (c.problem_answer.ensures.bytes ∙ (of_problem cat c.args.last c.in-Err.problem ∙ ap (λ (last : Bool). reply_bytes cat last reply) c.requires.last))
          (c.first_after-self.ensures.value ∙ ap (λ (known : Option RetailerNo). first_after first known) c.retailer_of-retailer.ensures.value)
          c.requires.ready.idle (makes_empty c.args.self.now.books.now c.args.self.now.desk.now c.requires.ready.own c.requires.ready.idle.0);
      tidy = λ tidy. tidy;
      cat = refl;
      books = refl;
      desk = refl;
      clock = refl;
    }

-- refused for its route or its body
pub returns-in-Err-asking-clause-answers : goal.returns-in-Err-asking-clause-answers
returns-in-Err-asking-clause-answers g c =
    let cat = c.args.self.now.cat.now in
    let fault = c.in-Err-asking.problem in
    let reply = problem fault in
    let first = c.args.self.now.first in
    let request = request_text c.args.intake.now.taken c.args.request.now in
    let may = c.in-Ok.ensures.value ∙ ap (λ (known : Option RetailerNo). admitted first known) c.retailer_of-retailer.ensures.value in
    let asks = subst (λ (a : Result RetailerNo Problem). AsksAdmitted cat request a (Err fault)) may
    (asked_by_retailer cat request c.in-Ok.retailer (Err fault) c.in-Err-asking.ensures.asks) in
    let told = g.C.Clock.told in
    let reading = subst (IsReading (told c.args.self.now.clock.now) c.now-now.result) (sym c.in-Err-asking.ensures.same)
    (reading_of _ _ _ c.now-now.ensures.first c.now-now.ensures.rest) in
    record {
      answer = answer_by cat (view_of told c.args.self.now) request _ _ c.now-now.result reply
          c.requires.ready.own.legal reading
          (Err fault, asks, (shape_none c.args.self.now.desk.now c.requires.ready.own.legal, refl))
          (c.problem_answer-in-Err-asking.ensures.bytes ∙ (of_problem cat c.args.last fault ∙ ap (λ (last : Bool). reply_bytes cat last reply) c.requires.last))
          (c.first_after-self.ensures.value ∙ ap (λ (known : Option RetailerNo). first_after first known) c.retailer_of-retailer.ensures.value)
          c.requires.ready.idle (makes_empty c.args.self.now.books.now c.args.self.now.desk.now c.requires.ready.own c.requires.ready.idle.0);
      tidy = λ tidy. tidy;
      cat = refl;
      books = refl;
      desk = refl;
      clock = refl;
    }

use Rattle.std.proofs.Common.{true, ap, ◌∙◌}
use Rattle.osdm_parts.specs.declared.problem.Problem.{Problem}
use Rattle.osdm_texts.specs.Answers.{problem}
use Rattle.rail_service.specs.Bytes.{reply_bytes}
use Rattle.rail_service.proofs.Telling.{of_problem}
use Rattle.rail_service.proofs.refusal.refusal_of.Goals as goal

pub returns : goal.returns
returns c = record {
  bytes = λ cat.
      c.problem_answer.ensures.bytes
      ∙ (of_problem cat true c.problem_of_wire.result ∙ ap (λ (p : Problem). reply_bytes cat true (problem p)) c.problem_of_wire.ensures);
  at_once = c.problem_answer.ensures.after;
}

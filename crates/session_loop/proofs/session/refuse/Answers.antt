use Rattle.std.proofs.Common.{subst}
use Rattle.session_loop.specs.Answered.{answer_bytes}
use Rattle.session_loop.proofs.session.refuse.Goals as goal

pub write_answer-requires : goal.write_answer-requires
write_answer-requires g c =
    let cut = c.refuse-answer.result.after in
    let awaits = subst (λ (r : g.row.R.Denot). g.R.Responder.awaits c.args.responder.now cut r) c.refuse-answer.ensures.same c.refuse-answer.ensures.awaits in
    record { permits = c.requires.permits (answer_bytes c.refuse-answer.result) cut c.refuse-answer.ensures.refuses awaits }

pub returns-clause-hands : goal.returns-clause-hands
returns-clause-hands g c = (
  answer_bytes c.refuse-answer.result,
  c.refuse-answer.result.after,
  c.refuse-answer.ensures.refuses,
  c.write_answer.ensures.hands,
)

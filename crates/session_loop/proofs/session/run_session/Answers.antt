use Rattle.session_loop.proofs.session.run_session.Goals as goal

pub returns-clause-answers : goal.returns-clause-answers
returns-clause-answers g c =
    let did = c.run_permitted.ensures.answers in (did.0, did.1, did.2, did.3.sent, did.4)

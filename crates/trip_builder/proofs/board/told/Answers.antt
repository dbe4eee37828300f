use Rattle.trip_builder.proofs.board.told.Goals as goal

pub returns-clause-told : goal.returns-clause-told
returns-clause-told c = λ rank same bound. c.join.ensures.right rank bound

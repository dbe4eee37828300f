use Rattle.table_tests.proofs.left.leave_ending.Goals as goal

pub turn-requires-clause-none : goal.turn-requires-clause-none
turn-requires-clause-none g c = λ kind is. c.look_row.ensures.endings.none c.requires.none

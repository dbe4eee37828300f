use Rattle.table_tests.proofs.given_away.confirm_late.Goals as goal

pub returns-in-Won-clause-idle : goal.returns-in-Won-clause-idle
returns-in-Won-clause-idle g c =
    let look = c.look_row.ensures in
    ((c.turn.ensures.holds.none (look.holds.none c.requires.idle.0.0), c.in-Won.ensures.leaves.1.none (look.endings.none c.requires.idle.0.1)), c.give_away-next.ensures.idle)

pub returns-in-Lost-clause-idle : goal.returns-in-Lost-clause-idle
returns-in-Lost-clause-idle g c =
    let look = c.look_row.ensures in
    ((c.turn.ensures.holds.none (look.holds.none c.requires.idle.0.0), c.in-Lost.ensures.leaves.none (look.endings.none c.requires.idle.0.1)), c.give_away-next.ensures.idle)

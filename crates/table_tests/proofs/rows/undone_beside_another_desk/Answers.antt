use Rattle.table_tests.proofs.rows.undone_beside_another_desk.Goals as goal

pub meet-requires-clause-idle : goal.meet-requires-clause-idle
meet-requires-clause-idle g c =
    let idle = c.in_ok-books.ensures.idle in
    let both = c.contend.ensures.endings in
    let one = c.undo_and_keep.ensures in
    let two = c.undo_and_keep-2.ensures in
    ((one.none, one.endings.none (both.0.none (c.start-one.ensures.endings.none idle.0.1))), (two.none, two.endings.none (both.1.none (c.start-two.ensures.endings.none idle.1.1))))

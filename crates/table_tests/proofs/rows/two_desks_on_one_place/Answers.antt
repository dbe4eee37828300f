use Rattle.table_tests.proofs.rows.two_desks_on_one_place.Goals as goal

pub meet-requires-clause-idle : goal.meet-requires-clause-idle
meet-requires-clause-idle g c =
    let idle = c.in_ok-books.ensures.idle in
    let both = c.contend.ensures.endings in
    let one = c.close_hold.ensures in
    let two = c.close_hold-row.ensures in
    ((one.none, one.endings.none (both.0.none (c.start-one.ensures.endings.none idle.0.1))), (two.none, two.endings.none (both.1.none (c.start-two.ensures.endings.none idle.1.1))))

pub finish-wall-requires-clause-idle : goal.finish-wall-requires-clause-idle
finish-wall-requires-clause-idle g c = (c.look_row.ensures.holds.none c.meet.ensures.idle.0, c.look_row.ensures.endings.none c.meet.ensures.idle.1)

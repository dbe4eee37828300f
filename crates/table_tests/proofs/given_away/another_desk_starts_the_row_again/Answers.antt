use Rattle.table_tests.proofs.given_away.another_desk_starts_the_row_again.Goals as goal

pub confirm_late-shown-requires-clause-idle : goal.confirm_late-shown-requires-clause-idle
confirm_late-shown-requires-clause-idle g c =
    let idle = c.in_ok-books.ensures.idle in
    ((c.book-other.ensures.none, c.book-other.ensures.endings.none (c.book-row.ensures.endings.none idle.0.1)), idle.1)

pub meet-requires-clause-idle : goal.meet-requires-clause-idle
meet-requires-clause-idle g c =
    let late = c.confirm_late-shown.ensures.idle in
    let one = c.look_row.ensures in
    let two = c.look_row-2.ensures in
    ((two.holds.none (one.holds.none late.0.0), two.endings.none (one.endings.none late.0.1)), late.1)

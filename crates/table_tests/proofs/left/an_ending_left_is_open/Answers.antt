use Rattle.std.proofs.Common.{sym, ◌∙◌}
use Rattle.table_tests.proofs.left.an_ending_left_is_open.Goals as goal

pub leave_ending-requires-clause-none : goal.leave_ending-requires-clause-none
leave_ending-requires-clause-none g c = c.book-row.ensures.endings.none c.in_ok-books.ensures.idle.1.1

pub leave_ending-requires-clause-other : goal.leave_ending-requires-clause-other
leave_ending-requires-clause-other g c = λ e. c.in_ok-books.ensures.other (sym c.book-row.ensures.number ∙ e)

pub fault_is-requires-clause-idle : goal.fault_is-requires-clause-idle
fault_is-requires-clause-idle g c = c.in_ok-books.ensures.idle.0

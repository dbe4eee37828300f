use Rattle.std.proofs.Common.{sym, ◌∙◌}
use Rattle.table_tests.proofs.left.a_hold_left_holds_its_place.Goals as goal

pub leave-requires-clause-hold : goal.leave-requires-clause-hold
leave-requires-clause-hold g c = c.take.ensures.hold.of

pub leave-requires-clause-other : goal.leave-requires-clause-other
leave-requires-clause-other g c = λ e.
    c.in_ok-books.ensures.other (sym c.start-hold.ensures.number ∙ (sym c.take.ensures.number ∙ e))

pub fault_is-requires-clause-idle : goal.fault_is-requires-clause-idle
fault_is-requires-clause-idle g c = c.in_ok-books.ensures.idle.0

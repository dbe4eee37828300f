use Rattle.std.proofs.Common.{◌≡◌, subst, position, Some, None}
use Rattle.history_model.specs.Apply.{item_taken}
use Rattle.history_model.specs.Booking.{State, stands_in}
use Rattle.history_model.proofs.Places.{write_is, none_is}
use Rattle.history_model.proofs.applied.take_in.Goals as goal

pub returns-in_ok-take-clause-ok : goal.returns-in_ok-take-clause-ok
returns-in_ok-take-clause-ok c =
    write_is c.args.bookings.now.items c.args.row c.in-Some.at (item_taken c.args.place c.args.span) c.index_mut.result.now c.take.new.self
    (subst (λ (s : State). Some c.in-Some.at ≡ position (stands_in s c.args.row) s) c.deref.ensures.value c.in-Some.ensures) c.index_mut.ensures.value c.in_ok-take.ensures.ok

pub returns-in_default-clause-ok : goal.returns-in_default-clause-ok
returns-in_default-clause-ok c =
    none_is c.args.bookings.now.items c.args.row (item_taken c.args.place c.args.span) (subst (λ (s : State). None ≡ position (stands_in s c.args.row) s) c.deref.ensures.value c.in_default.ensures)

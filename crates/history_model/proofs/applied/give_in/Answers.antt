use Rattle.std.proofs.Common.{ap, sym, ◌∙◌}
use Rattle.history_model.specs.Apply.{given}
use Rattle.history_model.proofs.Places.{write_is, none_is}
use Rattle.history_model.proofs.applied.give_in.Goals as goal

pub returns-in-Some : goal.returns-in-Some
returns-in-Some c =
    write_is c.args.bookings.now c.args.row c.in-Some.at (given c.args.item) c.index-bookings-at.result c.give.new.self c.in-Some.ensures c.index-bookings-at.is
    (c.give.ensures ∙ ap (given c.args.item) (sym c.index-bookings-at.is))

pub returns-in_default : goal.returns-in_default
returns-in_default c = none_is c.args.bookings.now c.args.row (given c.args.item) c.in_default.ensures

use Rattle.std.proofs.Common.{ap, sym, ◌∙◌}
use Rattle.history_model.specs.Apply.{closed}
use Rattle.history_model.proofs.Places.{write_is, none_is}
use Rattle.history_model.proofs.applied.close_in.Goals as goal

pub returns-in-Some : goal.returns-in-Some
returns-in-Some c =
    write_is c.args.bookings.now c.args.row c.in-Some.at closed c.index-bookings-at.result c.close.new.self c.in-Some.ensures c.index-bookings-at.is
    (c.close.ensures ∙ ap closed (sym c.index-bookings-at.is))

pub returns-in_default : goal.returns-in_default
returns-in_default c = none_is c.args.bookings.now c.args.row closed c.in_default.ensures

use Rattle.std.proofs.Common.{ap, sym, ◌∙◌}
use Rattle.history_model.specs.Apply.{turned}
use Rattle.history_model.proofs.Places.{write_is, none_is}
use Rattle.history_model.proofs.applied.turn_in.Goals as goal

pub returns-in-Some : goal.returns-in-Some
returns-in-Some c =
    write_is c.args.bookings.now c.args.row c.in-Some.at (turned c.args.desk c.args.to c.args.end) c.index-bookings-at.result c.turn.new.self c.in-Some.ensures c.index-bookings-at.is
    (c.turn.ensures ∙ ap (turned c.args.desk c.args.to c.args.end) (sym c.index-bookings-at.is))

pub returns-in_default : goal.returns-in_default
returns-in_default c = none_is c.args.bookings.now c.args.row (turned c.args.desk c.args.to c.args.end) c.in_default.ensures

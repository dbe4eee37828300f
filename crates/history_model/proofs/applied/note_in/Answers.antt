use Rattle.std.proofs.Common.{ap, sym, ◌∙◌}
use Rattle.history_model.specs.Apply.{noted}
use Rattle.history_model.proofs.Places.{write_is, none_is}
use Rattle.history_model.proofs.applied.note_in.Goals as goal

pub returns-in-Some : goal.returns-in-Some
returns-in-Some c =
    write_is c.args.bookings.now c.args.row c.in-Some.at (noted c.args.word c.args.value) c.index-bookings-at.result c.note.new.self c.in-Some.ensures c.index-bookings-at.is
    (c.note.ensures ∙ ap (noted c.args.word c.args.value) (sym c.index-bookings-at.is))

pub returns-in_default : goal.returns-in_default
returns-in_default c = none_is c.args.bookings.now c.args.row (noted c.args.word c.args.value) c.in_default.ensures

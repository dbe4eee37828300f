use Rattle.std.proofs.Common.{ap, sym, ◌∙◌}
use Rattle.history_model.specs.Apply.{in_phase}
use Rattle.history_model.proofs.Places.{write_is, none_is}
use Rattle.history_model.proofs.applied.seal_in.Goals as goal

pub returns-in-Some : goal.returns-in-Some
returns-in-Some c =
    write_is c.args.bookings.now c.args.row c.in-Some.at (in_phase c.args.phase) c.index-bookings-at.result c.set_phase.new.self c.in-Some.ensures c.index-bookings-at.is
    (c.set_phase.ensures ∙ ap (in_phase c.args.phase) (sym c.index-bookings-at.is))

pub returns-in_default : goal.returns-in_default
returns-in_default c = none_is c.args.bookings.now c.args.row (in_phase c.args.phase) c.in_default.ensures

use Rattle.std.proofs.Common.{◌∙◌}
use Rattle.history_model.specs.Booking.{occupies}
use Rattle.history_model.proofs.Items.{any_of_items}
use Rattle.history_model.proofs.shown.is_taken.Goals as goal

pub returns : goal.returns
returns c = c.any_occupies.ensures ∙ any_of_items (occupies c.args.place c.args.leg) c.args.bookings.now

use Rattle.history_model.specs.Allowed.{Blocks}
use Rattle.history_model.proofs.Items.{all_by_bookings, all_of_items}
use Rattle.history_model.proofs.shown.is_open.Goals as goal

pub returns : goal.returns
returns c = (
  λ t. all_of_items (λ i. ¬ Blocks c.args.place c.args.span i) c.args.bookings.now (c.are_clear.ensures.0 t),
  λ h. c.are_clear.ensures.1 (all_by_bookings (λ i. ¬ Blocks c.args.place c.args.span i) c.args.bookings.now h),
)

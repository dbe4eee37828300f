use Rattle.std.proofs.Common.{sym, ◌∙◌}
use Rattle.history_model.proofs.Sealing.{sealable_from}
use Rattle.history_model.proofs.booking.BookingRow.is_sealable.Goals as goal

pub returns : goal.returns
returns c =
    sealable_from _ c.args.self.now c.are_written.result c.deref.result.now c.len-count.result c.self.view_is c.deref.ensures.value
    (c.len-count.ensures ∙ sym c.deref.ensures.len) c.if-count-eq0.false
    c.if-self-gt-GREATEST_RETAILER.false c.if-self-gt-LAST_MOMENT.false c.if-self-gt-GREATEST_AMOUNT.false c.if-self-count.false c.are_written.ensures

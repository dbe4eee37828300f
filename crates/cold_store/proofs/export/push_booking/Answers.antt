use Rattle.cold_store.proofs.SealedRows.{five_fields, row_text_is}
use Rattle.cold_store.proofs.export.push_booking.Goals as goal

pub returns : goal.returns
returns c =
    five_fields c.args.text.now.items _ _ _ _ _ _ _ _ _ _ _
    c.in_ok-push_head.ensures c.in_ok-push_words.ensures c.in_ok-push_items.ensures c.in_ok-push_last_fields.ensures c.in_ok-push.ensures.items
    (row_text_is c.args.wall.now c.args.row c.args.phase c.args.generation c.requires.closed c.requires.shown)

use Rattle.cold_store.proofs.SealedRows.{five_fields}
use Rattle.cold_store.proofs.Written.{line_is}
use Rattle.cold_store.proofs.line.push_line.Goals as goal

pub returns : goal.returns
returns c =
    five_fields c.args.text.now.items _ _ _ _ _ _ _ _ _ _ _
    c.in_ok-push_head.ensures c.in_ok-push_numbers.ensures c.in_ok-push_items.ensures c.in_ok-push_end.ensures c.in_ok-push.ensures.items
    (line_is c.args.line.now)

use Rattle.cold_store.proofs.LineRead.{Begun, line_read, no_end, no_feed, no_head, no_items}
use Rattle.cold_store.proofs.bookings.read_line.Goals as goal

pub returns-in_err-head : goal.returns-in_err-head
returns-in_err-head c = rw c.from_residual.ensures (no_head c.in_err-head.ensures)

pub returns-in_err-items : goal.returns-in_err-items
returns-in_err-items c =
    rw c.from_residual-in_err-items.ensures (no_items c.in_ok-head.ensures c.in_err-items.ensures)

pub returns-in_err-end : goal.returns-in_err-end
returns-in_err-end c =
    let begun : Begun _ _ _ _ _ = record { between = _; first = c.in_ok-head.ensures; second = c.in_ok-items.ensures } in
    rw c.from_residual-in_err-end.ensures (no_end begun c.in_err-end.ensures)

pub returns-then-not-eat : goal.returns-then-not-eat
returns-then-not-eat c =
    let begun : Begun _ _ _ _ _ = record { between = _; first = c.in_ok-head.ensures; second = c.in_ok-items.ensures } in
    no_feed begun c.in_ok-end.ensures c.if-not-eat.ensures

pub returns : goal.returns
returns c =
    let begun : Begun _ _ _ _ _ = record { between = _; first = c.in_ok-head.ensures; second = c.in_ok-items.ensures } in
    line_read begun c.in_ok-end.ensures c.if-not-eat.ensures

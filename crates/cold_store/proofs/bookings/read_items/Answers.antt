use Rattle.std.proofs.Common.{arith}
use Rattle.cold_store.proofs.ItemsRead.{item_fails, items_read, none_so_far, one_more}
use Rattle.cold_store.proofs.bookings.read_items.Goals as goal

pub loop-init : goal.loop-init
loop-init c = none_so_far _ _ _ _ (let e = c.new.ensures in cc)

pub returns-in_err-said : goal.returns-in_err-said
returns-in_err-said c =
    rw c.from_residual.ensures (item_fails c.loop.invariant (omega arith) c.in_err-said.ensures)

pub loop-preserved : goal.loop-preserved
loop-preserved c =
    one_more c.in_ok-said.said c.within.result _ c.loop.invariant (omega arith) c.in_ok-said.ensures c.within.ensures.some
    c.within.ensures.none c.with_item-items.ensures

pub returns : goal.returns
returns c = items_read c.loop.invariant (omega arith)

use Rattle.std.proofs.Common.{◌≡◌, ◌++◌, take}
use Rattle.cold_store.specs.Written.{items_written}
use Rattle.cold_store.proofs.line.push_items.Given as goal

abbrev pub invariant-loop-item : goal.invariant-loop-item
invariant-loop-item l = l.text.items ≡ l.fn.text.items ++ items_written (take l.item-index l.items)

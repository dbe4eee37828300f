use Rattle.std.proofs.Common.{◌≡◌, ◌++◌, take}
use Rattle.cold_store.proofs.SealedRows.{booked_fields, row_items}
use Rattle.cold_store.proofs.export.push_items.Given as goal

abbrev pub invariant-loop-k : goal.invariant-loop-k
invariant-loop-k l = l.text.items ≡ l.initial.text.items ++ booked_fields (take l.k (row_items l.wall l.row))

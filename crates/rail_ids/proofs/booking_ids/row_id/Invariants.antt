use Rattle.std.proofs.Common.{◌≡◌, ◌∷◌, ◌++◌, ◌-◌, length, replicate, decimal, take}
use Rattle.rail_ids.proofs.booking_ids.row_id.Given as goal

abbrev pub invariant-loop : goal.invariant-loop
invariant-loop l = l.id.items ≡ 66 ∷ replicate l.counter 48

abbrev pub invariant-loop-digit : goal.invariant-loop-digit
invariant-loop-digit l =
    (l.digit-items ≡ decimal l.fn.row)
    × (l.id.items ≡ 66 ∷ (replicate (6 - length (decimal l.fn.row)) 48 ++ take l.digit-index l.digit-items))

use Rattle.std.proofs.Common.{◌≡◌, ◌∷◌, ◌++◌, ◌≤◌, ◌+◌, length, decimal, take}
use Rattle.rail_ids.proofs.booking_ids.push_generation.Given as goal

abbrev pub invariant-loop-digit : goal.invariant-loop-digit
invariant-loop-digit l =
    (l.digit-items ≡ decimal l.fn.generation)
    × (l.id.items ≡ l.fn.id.items ++ 45 ∷ take l.digit-index l.digit-items)

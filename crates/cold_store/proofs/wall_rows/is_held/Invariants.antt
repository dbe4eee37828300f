use Rattle.cold_store.specs.Exports.{IsHeldHalf, NoneBelow, state_on}
use Rattle.cold_store.proofs.wall_rows.is_held.Given as goal

abbrev pub invariant-loop-half : goal.invariant-loop-half
invariant-loop-half l = NoneBelow l.half (IsHeldHalf (state_on l.wall) l.place)

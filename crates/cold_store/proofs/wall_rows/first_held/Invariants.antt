use Rattle.cold_store.specs.Exports.{IsHeldPlace, NoneBelow, state_on}
use Rattle.cold_store.proofs.wall_rows.first_held.Given as goal

abbrev pub invariant-loop-place : goal.invariant-loop-place
invariant-loop-place l = NoneBelow l.place (IsHeldPlace (state_on l.wall))

use Rattle.cold_store.specs.Exports.{IsOpenRow, NoneBelow, state_on}
use Rattle.cold_store.proofs.wall_rows.first_open.Given as goal

abbrev pub invariant-loop-row : goal.invariant-loop-row
invariant-loop-row l = NoneBelow l.row (IsOpenRow (state_on l.wall))

use Rattle.std.proofs.Common.{arith, below_more}
use Rattle.std.proofs.lemmas.Bool.{iff_false}
use Rattle.cold_store.proofs.wall_rows.first_held.Goals as goal

pub loop-place-preserved : goal.loop-place-preserved
loop-place-preserved c = below_more _ _ c.loop-place.invariant (iff_false c.is_held.ensures c.if-is_held.false)

pub returns-clause-none : goal.returns-clause-none
returns-clause-none c = λ n lt. c.loop-place.invariant n (omega arith)

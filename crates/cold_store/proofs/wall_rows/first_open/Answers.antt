use Rattle.std.proofs.Common.{arith, below_more}
use Rattle.std.proofs.lemmas.Bool.{iff_false}
use Rattle.cold_store.proofs.wall_rows.first_open.Goals as goal

pub loop-row-preserved : goal.loop-row-preserved
loop-row-preserved c = below_more _ _ c.loop-row.invariant (iff_false c.is_open.ensures c.if-is_open.false)

pub returns-clause-none : goal.returns-clause-none
returns-clause-none c = λ n lt. c.loop-row.invariant n (omega arith)

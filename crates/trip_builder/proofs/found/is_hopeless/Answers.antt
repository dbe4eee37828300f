use Rattle.std.proofs.Common.{inr}
use Rattle.trip_builder.proofs.found.is_hopeless.Goals as goal

pub returns-else-bound-eq-NEVER : goal.returns-else-bound-eq-NEVER
returns-else-bound-eq-NEVER c = λ w search e. inr (c.outdo.ensures w search.kept e)

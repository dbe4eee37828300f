use Rattle.std.proofs.Common.{◌<◌, ℕ, List, length, sym, subst}
use Rattle.std.proofs.lemmas.List.{length-replicate}
use Rattle.table_tests.proofs.lives.count_confirmed.Goals as goal

pub glance-word-requires-clause-place : goal.glance-word-requires-clause-place
glance-word-requires-clause-place g c = subst (λ (l : List ℕ). c.loop-row.row < length l) (sym c.requires.legs) (subst (λ (n : ℕ). c.loop-row.row < n) (sym (length-replicate {A = ℕ} 1000 1)) c.loop-row-test.true)

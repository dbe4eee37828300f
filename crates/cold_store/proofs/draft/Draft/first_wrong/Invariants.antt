-- The successors so far are right.
use Rattle.cold_store.proofs.FirstWrong.{AreChecked}
use Rattle.cold_store.proofs.draft.Draft.first_wrong.Given as goal

abbrev pub invariant-loop-k : goal.invariant-loop-k
invariant-loop-k l = AreChecked l.fn.self l.k

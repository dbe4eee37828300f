use Rattle.std.proofs.Common.{◌<◌, ◌≤◌, ℕ, List, length, slice_index, sym, subst, arith}
use Rattle.std.proofs.lemmas.List.{get_or-replicate, length-replicate}
use Rattle.table_tests.proofs.lives.book_all.Goals as goal

pub prebooked-requires-clause-place : goal.prebooked-requires-clause-place
prebooked-requires-clause-place g c = subst (λ (l : List ℕ). c.loop-place.place < length l) (sym c.requires.legs) (subst (λ (n : ℕ). c.loop-place.place < n) (sym (length-replicate {A = ℕ} 1000 1)) c.loop-place-test.true)

pub prebooked-requires-clause-legs : goal.prebooked-requires-clause-legs
prebooked-requires-clause-legs g c = subst (λ (l : List ℕ). 1 ≤ slice_index l c.loop-place.place) (sym c.requires.legs)
    (subst (λ (n : ℕ). 1 ≤ n) (sym (get_or-replicate {A = ℕ} 1000 c.loop-place.place 1 0 c.loop-place-test.true)) (omega arith))

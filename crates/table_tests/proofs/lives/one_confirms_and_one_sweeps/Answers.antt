use Rattle.std.proofs.Common.{◌≡◌, ◌<◌, ◌∷◌, [], ℕ, zero, suc, List, length, slice_index_or, sym, subst, arith}
use Rattle.claim_rule.specs.Desks.{IsOf}
use Rattle.claim_rule.specs.Out.{EndsNone}
use Rattle.table_tests.specs.declared.lives.Member.{Member}
use Rattle.table_tests.proofs.lives.one_confirms_and_one_sweeps.Goals as goal

both : (P : Member → Type 0) (a b : Member) → P a → P b → (k : ℕ) (d : Member) → k < 2 → P (slice_index_or (a ∷ b ∷ []) k d)
both P a b pa pb zero d lt = pa
both P a b pa pb (suc zero) d lt = pb
both P a b pa pb (suc (suc k)) d lt = absurd (omega (arith, lt))

pub play-requires-clause-own : goal.play-requires-clause-own
play-requires-clause-own g c κs k d lt =
    let books = c.in_ok-books.books in
    let first = c.part-confirming.ensures in
    let second = c.part-sweeping.ensures in
    let one : Member = record { desk = c.part-confirming.result; decided = 0 } in
    let two : Member = record { desk = c.part-sweeping.result; decided = 0 } in
    let value : c.as_mut_slice.result.now ≡ one ∷ two ∷ [] = c.as_mut_slice.ensures.value in
    subst (λ (l : List Member). IsOf books (slice_index_or l k d).desk × EndsNone (slice_index_or l k d).desk) (sym value)
    (both (λ m. IsOf books m.desk × EndsNone m.desk) one two (first.own.1, first.tidy.0.1) (second.own.1, second.tidy.0.1) k d
    (subst (λ (l : List Member). k < length l) value lt))

use Rattle.std.proofs.Common.{◌<◌, ℕ, length, slice_index_or, sym, subst}
use Rattle.claim_rule.specs.Desks.{IsOf}
use Rattle.claim_rule.specs.Out.{IsTidy}
use Rattle.worker_pool.specs.declared.member.Member.{Member}
use Rattle.host_tests.proofs.Crew.{of_three}
use Rattle.host_tests.proofs.crews.members_end_at_different_turns.Goals as goal

pub run_workers-requires-clause-own : goal.run_workers-requires-clause-own
run_workers-requires-clause-own g c κs =
    subst (λ l. (k : ℕ) (d : Member _) → k < length l → IsOf c.in_ok-books.books (slice_index_or l k d).desk)
    (sym c.as_mut_slice.ensures.value)
    (of_three (λ m. IsOf c.in_ok-books.books m.desk) _ _ _
    c.member_of-first.ensures.own.1 c.member_of-second.ensures.own.1 c.member_of-third.ensures.own.1)

pub run_workers-requires-clause-tidy : goal.run_workers-requires-clause-tidy
run_workers-requires-clause-tidy g c κs =
    subst (λ l. (k : ℕ) (d : Member _) → k < length l → IsTidy (slice_index_or l k d).desk)
    (sym c.as_mut_slice.ensures.value)
    (of_three (λ m. IsTidy m.desk) _ _ _
    c.member_of-first.ensures.tidy c.member_of-second.ensures.tidy c.member_of-third.ensures.tidy)

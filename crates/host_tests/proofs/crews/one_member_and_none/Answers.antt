use Rattle.std.proofs.Common.{◌<◌, ℕ, length, slice_index_or, sym, subst}
use Rattle.claim_rule.specs.Out.{IsTidy}
use Rattle.worker_pool.specs.declared.member.Member.{Member}
use Rattle.host_tests.proofs.Crew.{of_one}
use Rattle.host_tests.proofs.crews.one_member_and_none.Goals as goal

pub run_workers-requires-clause-tidy : goal.run_workers-requires-clause-tidy
run_workers-requires-clause-tidy g c κs =
    subst (λ l. (k : ℕ) (d : Member _) → k < length l → IsTidy (slice_index_or l k d).desk)
    (sym c.as_mut_slice.ensures.value)
    (of_one (λ m. IsTidy m.desk) _ c.member_of.ensures.tidy)

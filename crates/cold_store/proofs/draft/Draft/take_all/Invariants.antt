-- The items so far are taken.
use Rattle.std.proofs.Common.{◌≡◌, ◌≤◌, All, take}
use Rattle.leg_masks.specs.Interval.{most_legs}
use Rattle.cold_store.specs.Drafts.{with_taken}
use Rattle.cold_store.proofs.draft.Draft.take_all.Given as goal

abbrev pub invariant-loop-k : goal.invariant-loop-k
invariant-loop-k l = record { draft : l.self ≡ with_taken l.fn.self (take l.k l.items); spans : All (λ i. i.span.to ≤ most_legs) (take l.k l.items) }

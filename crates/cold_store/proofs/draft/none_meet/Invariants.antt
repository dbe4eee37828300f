-- No two of all items meet exactly where none of those that are left do.
use Rattle.std.proofs.Common.{length, ◌↔◌}
use Rattle.cold_store.specs.Drafts.{NoneMeet}
use Rattle.cold_store.proofs.draft.none_meet.Given as goal

abbrev pub invariant-loop-first : goal.invariant-loop-first
invariant-loop-first l = NoneMeet l.rest ↔ NoneMeet l.items

abbrev pub decreases-loop-first : goal.decreases-loop-first
decreases-loop-first l = length l.rest

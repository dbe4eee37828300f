use Rattle.std.proofs.Common.{◌<◌, length}
use mathlib.Core.List.{IsPrefix}
use Rattle.worker_pool.specs.Crews.{HasGiven, HasMetAll}
use Rattle.worker_pool.proofs.meeting.meet_others.Given as goal

abbrev pub decreases-loop-crew : goal.decreases-loop-crew
decreases-loop-crew g l = length l.crew.items

abbrev pub invariant-loop-crew : goal.invariant-loop-crew
invariant-loop-crew g l = record {
  some : 0 < length l.crew.items;
  front : IsPrefix l.crew.items l.fn.crew.items;
  given : HasGiven g.W.Gives.parts g.W.Gives.amount l.fn.crew.items (length l.crew.items) (record { parts = l.fn.all.parts; amount = l.fn.all.amount })
      (record { parts = l.all.parts; amount = l.all.amount });
  met : HasMetAll l.books l.fn.crew.items (length l.crew.items) l.first;
}

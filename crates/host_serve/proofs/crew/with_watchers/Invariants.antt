use Rattle.std.proofs.Common.{◌≡◌, ◌≤◌, ◌<◌, ◌+◌, length, vec_capacity}
use Rattle.worker_pool.specs.Crews.{IsCrew, IsFirst}
use Rattle.host_serve.specs.Crews.{AreGated, AreReady, Filling}
use Rattle.host_serve.specs.Turns.{FitsBooks, gated}
use Rattle.host_serve.proofs.crew.with_watchers.Given as goal

abbrev pub invariant-loop-watcher : goal.invariant-loop-watcher
invariant-loop-watcher g l = record {
  first : IsFirst l.books (length l.crew.items) l.first;
  crew : IsCrew FitsBooks l.books l.crew.items;
  ready : (with_these : Filling g.row.T.Denot) → with_these.said.workers < length l.fn.crew.items
      → AreReady l.fn.crew.items (λ s. s.share.amount) (gated g.C.Clock.told) with_these
      → AreReady l.crew.items (λ s. s.share.amount) (gated g.C.Clock.told) with_these;
  gated : (gate : _) → AreGated l.fn.crew.items (λ k. k.gate) gate → AreGated l.crew.items (λ k. k.gate) gate;
  grown : length l.fn.crew.items ≤ length l.crew.items;
  count : length l.crew.items + length l.watchers.items ≡ length l.fn.crew.items + length l.fn.watchers.items;
  room : length l.crew.items + length l.watchers.items ≤ vec_capacity l.crew;
}

abbrev pub decreases-loop-watcher : goal.decreases-loop-watcher
decreases-loop-watcher g l = length l.watchers.items

use Rattle.std.proofs.Common.{◌≡◌, ◌≤◌, ◌+◌, length, map, vec_len, vec_capacity}
use mathlib.Core.List.{IsPrefix}
use Rattle.worker_pool.specs.Crews.{IsCrew, IsFirst}
use Rattle.host_serve.specs.Crews.{AreGated, AreReady}
use Rattle.host_serve.specs.Turns.{FitsBooks, gated}
use Rattle.host_serve.proofs.crew.crew_of.Given as goal

abbrev pub invariant-loop-number : goal.invariant-loop-number
invariant-loop-number g l = record {
  books : l.opened.books ≡ l.fn.opened.books;
  first : IsFirst l.opened.books (length l.crew.items) l.opened.first;
  crew : IsCrew FitsBooks l.opened.books l.crew.items;
  ready : AreReady l.crew.items (λ s. s.share.amount) (gated g.C.Clock.told) (record { cat = l.common.cat.now; said = l.common.said; ticker = l.ticker; clocks = map g.C.Clock.told l.fn.means.clocks.items });
  gated : AreGated l.crew.items (λ k. k.gate) l.common.gate;
  parts : l.share.parts + l._number ≡ l.common.said.workers;
  nothing : l.share.amount ≡ 0;
  count : length l.crew.items ≡ l._number;
  clocks : l.common.said.workers + 1 ≤ l._number + length l.clocks.items;
  front : IsPrefix l.clocks.items l.fn.means.clocks.items;
  left : length l.clocks.items + l._number ≡ length l.fn.means.clocks.items;
  len : vec_len l.crew ≡ l._number;
  room : l.common.said.workers + 1 + length l.watchers.items ≤ vec_capacity l.crew;
}

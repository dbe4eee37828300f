use Rattle.std.proofs.Common.{◌≡◌, ◌∙◌, ◌+◌, ◌++◌, ◌∷◌, [], ℕ, length, sym, subst, ap, arith, rules}
use Rattle.std.proofs.lemmas.List.{length-append}
use Rattle.worker_pool.specs.Crews.{IsCrew, IsFirst}
use Rattle.host_serve.specs.Turns.{FitsBooks, gated}
use Rattle.worker_pool.proofs.Crewing.{joined, parted_first, parted_desk, parted_empty}
use Rattle.host_serve.proofs.Crewing.{gated_more, ready_more}
use Rattle.host_serve.proofs.crew.with_watchers.Goals as goal

pub loop-watcher-preserved : goal.loop-watcher-preserved
loop-watcher-preserved g c =
    let books = c.args.books.now in
    let inv = c.loop-watcher.invariant in
    let crew = c.loop-watcher.crew.items in
    let items = c.push_reserved.ensures.items in
    let part = c.part.ensures in
    let n = length crew in
    let many : length c.push_reserved.new.self.items ≡ n + 1 = ap length items ∙ length-append crew _ in
    let told = gated g.C.Clock.told in
    let whole : c.loop-watcher.watchers.items ≡ c.pop.new.self.items ++ c.in-Some.watcher ∷ [] = search rules in
    let popped : length c.loop-watcher.watchers.items ≡ length c.pop.new.self.items + 1 = ap length whole ∙ length-append c.pop.new.self.items _ in
    record {
      first = subst (λ (k : ℕ). IsFirst books k c.part.new.desk) (sym many)
          (parted_first books n c.loop-watcher.first c.part.new.desk inv.first part.own.0 part.met part.parted (part.still.1 inv.first.tidy));
      crew = subst (λ l. IsCrew FitsBooks books l) (sym items)
          (joined FitsBooks books crew _ inv.crew (record {
            fits = tt {0};
            desk = parted_desk books n c.loop-watcher.first c.part.new.desk c.part.result inv.first part.parted part.new.0 part.own.1 part.tidy;
          }));
      ready = λ with_these low are. ready_more (λ s. s.share.amount) told with_these _ crew _ items (inv.ready with_these low are) (record {
        post = omega (arith, low, inv.grown);
        clock = tt;
        unserved = search;
        none = parted_empty n c.part.new.desk c.part.result (part.parted ∙ ap (λ (k : ℕ). k + 1) inv.first.parted) part.new.0 part.new.1;
      });
      gated = λ gate are. gated_more crew _ _ items (λ k. k.gate) gate (inv.gated gate are) tt;
      grown = omega (arith, many, inv.grown);
      count = omega (arith, many, popped, inv.count);
      room = omega (arith, many, popped, inv.room, c.push_reserved.ensures.capacity);
    }

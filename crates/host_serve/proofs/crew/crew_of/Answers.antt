use Rattle.std.proofs.Common.{◌≡◌, ◌∙◌, ◌+◌, ◌++◌, ◌∷◌, [], ℕ, length, map, refl, sym, subst, ap, arith, rules, append-nil}
use mathlib.Core.List.{IsPrefix}
use Rattle.std.proofs.lemmas.List.{length-append}
use Rattle.worker_pool.specs.Crews.{IsCrew, IsFirst}
use Rattle.host_serve.specs.Crews.{AreGated, AreReady}
use Rattle.claim_rule.specs.Rule.{BooksView}
use Rattle.host_serve.specs.Turns.{FitsBooks, HasCatalogue, gated}
use Rattle.worker_pool.proofs.Crewing.{joined, parted_first, parted_desk, parted_empty}
use Rattle.host_serve.proofs.Crewing.{gated_more, popped_clock, ready_more, shorter}
use Rattle.host_serve.proofs.crew.crew_of.Goals as goal

pub loop-number-init : goal.loop-number-init
loop-number-init g c =
    let books = c.args.opened.now.books in
    let nobody = c.requires.nobody in
    let told = g.C.Clock.told in
    let clocks = c.args.means.clocks.items in
    record {
      books = refl;
      first = subst (λ l. IsFirst books (length l) c.args.opened.now.first) (sym nobody) c.requires.first;
      crew = subst (λ l. IsCrew FitsBooks books l) (sym nobody) (λ i none lt. absurd (omega (arith, lt)));
      ready = subst (λ l. AreReady l (λ s. s.share.amount) (gated told) (record { cat = c.args.common.cat.now; said = c.args.common.said; ticker = c.args.means.ticker; clocks = map told clocks })) (sym nobody)
          (λ i none lt. absurd (omega (arith, lt)));
      gated = subst (λ l. AreGated l (λ k. k.gate) c.args.common.gate) (sym nobody) (λ i none lt. absurd (omega (arith, lt)));
      parts = omega (arith, c.requires.parts);
      nothing = c.requires.nothing;
      count = ap length nobody;
      clocks = omega (arith, c.requires.clocks);
      front = ([], append-nil clocks);
      left = omega arith;
      len = search (rules, arith);
      room = omega (arith, c.requires.room);
    }

pub loop-number-preserved : goal.loop-number-preserved
loop-number-preserved g c =
    let books = c.loop-number.opened.books in
    let inv = c.loop-number.invariant in
    let crew = c.loop-number.crew.items in
    let items = c.push_reserved.ensures.items in
    let part = c.part.ensures in
    let n = length crew in
    let many : length c.push_reserved.new.self.items ≡ n + 1 = ap length items ∙ length-append crew _ in
    let whole : c.loop-number.clocks.items ≡ c.pop.new.self.items ++ c.unwrap.result ∷ [] = search rules in
    let popped : length c.loop-number.clocks.items ≡ length c.pop.new.self.items + 1 = ap length whole ∙ length-append c.pop.new.self.items _ in
    let told = g.C.Clock.told in
    let clocks = c.args.means.clocks.items in
    let front = subst (λ l. IsPrefix l clocks) whole inv.front in
    record {
      books = inv.books;
      first = subst (λ (k : ℕ). IsFirst books k c.part.new.desk) (sym many)
          (parted_first books n c.loop-number.opened.first c.part.new.desk inv.first part.own.0 part.met part.parted (part.still.1 inv.first.tidy));
      crew = subst (λ l. IsCrew FitsBooks books l) (sym items)
          (joined FitsBooks books crew _ inv.crew (record {
            fits = subst (λ (b : BooksView). HasCatalogue b c.args.common.cat.now) (sym inv.books) c.requires.has;
            desk = parted_desk books n c.loop-number.opened.first c.part.new.desk c.part.result inv.first part.parted part.new.0 part.own.1 part.tidy;
          }));
      ready = ready_more (λ s. s.share.amount) (gated told) _ _ crew _ items inv.ready (record {
        post = (omega (arith, inv.count, c.loop-number-test.true), refl);
        clock = c.new.ensures.clock ∙ popped_clock told clocks c.pop.new.self.items c.unwrap.result n front (omega (arith, inv.left, inv.count, popped));
        unserved = c.split_off.ensures.amount;
        none = parted_empty n c.part.new.desk c.part.result (part.parted ∙ ap (λ (k : ℕ). k + 1) inv.first.parted) part.new.0 part.new.1;
      });
      gated = gated_more crew _ _ items (λ k. k.gate) c.args.common.gate inv.gated c.new.ensures.gate;
      count = omega (arith, many, inv.count);
      clocks = omega (arith, inv.clocks, popped, c.loop-number-test.true);
      front = shorter clocks c.pop.new.self.items c.unwrap.result front;
      left = omega (arith, inv.left, popped);
      parts = (let less = c.split_off.ensures.parts_left in omega (arith, less, inv.parts));
      nothing = (let same = c.split_off.ensures.amount_left in omega (arith, same, inv.nothing));
      len = omega (arith, c.push_reserved.ensures.len, inv.len);
      room = omega (arith, c.push_reserved.ensures.capacity, inv.room);
    }

-- the crew with the member that sweeps
pub with_watchers-requires-clause-first : goal.with_watchers-requires-clause-first
with_watchers-requires-clause-first g c =
    let books = c.loop-number.opened.books in
    let inv = c.loop-number.invariant in
    let crew = c.loop-number.crew.items in
    let part = c.part-2.ensures in
    let many : length c.push_reserved-2.new.self.items ≡ length crew + 1 = ap length c.push_reserved-2.ensures.items ∙ length-append crew _ in
    subst (λ (k : ℕ). IsFirst books k c.part-2.new.desk) (sym many)
    (parted_first books (length crew) c.loop-number.opened.first c.part-2.new.desk inv.first part.own.0 part.met part.parted (part.still.1 inv.first.tidy))

pub with_watchers-requires-clause-crew : goal.with_watchers-requires-clause-crew
with_watchers-requires-clause-crew g c =
    let books = c.loop-number.opened.books in
    let inv = c.loop-number.invariant in
    let crew = c.loop-number.crew.items in
    let part = c.part-2.ensures in
    subst (λ l. IsCrew FitsBooks books l) (sym c.push_reserved-2.ensures.items)
    (joined FitsBooks books crew _ inv.crew (record {
      fits = tt {0};
      desk = parted_desk books (length crew) c.loop-number.opened.first c.part-2.new.desk c.part-2.result inv.first part.parted part.new.0 part.own.1 part.tidy;
    }))

pub returns-clause-ready : goal.returns-clause-ready
returns-clause-ready g c =
    let inv = c.loop-number.invariant in
    let crew = c.loop-number.crew.items in
    let part = c.part-2.ensures in
    let told = g.C.Clock.told in
    let clocks = c.args.means.clocks.items in
    let at : length crew ≡ c.args.common.said.workers = search (rules, arith) in
    let whole : c.loop-number.clocks.items ≡ c.pop-2.new.self.items ++ c.unwrap-2.result ∷ [] = search rules in
    let popped : length c.loop-number.clocks.items ≡ length c.pop-2.new.self.items + 1 = ap length whole ∙ length-append c.pop-2.new.self.items _ in
    let front = subst (λ l. IsPrefix l clocks) whole inv.front in
    let many : length c.push_reserved-2.new.self.items ≡ length crew + 1 = ap length c.push_reserved-2.ensures.items ∙ length-append crew _ in
    c.with_watchers.ensures.ready _ (omega (arith, many, at))
    (ready_more (λ s. s.share.amount) (gated told) _ _ crew _ c.push_reserved-2.ensures.items inv.ready (record {
      post = (at, refl, refl);
      clock = c.new-2.ensures.clock ∙ popped_clock told clocks c.pop-2.new.self.items c.unwrap-2.result (length crew) front (omega (arith, inv.left, inv.count, popped));
      unserved = refl;
      none = parted_empty (length crew) c.part-2.new.desk c.part-2.result (part.parted ∙ ap (λ (k : ℕ). k + 1) inv.first.parted) part.new.0 part.new.1;
    }))

pub returns-clause-gated : goal.returns-clause-gated
returns-clause-gated g c =
    c.with_watchers.ensures.gated _
    (gated_more c.loop-number.crew.items _ _ c.push_reserved-2.ensures.items (λ k. k.gate) c.args.common.gate c.loop-number.invariant.gated c.new-2.ensures.gate)

use Rattle.std.proofs.Common.{◌≡◌, ℕ, List, ◌++◌, length, take, drop, ◌∙◌, ap, sym, arith}
use Rattle.std.proofs.lemmas.Grind.{common_steps}
use Rattle.session_loop.specs.Writes.{showing}
use Rattle.session_loop.proofs.WriteLemmas.{left_more, took_both, took_then, hands_front, hands_last}
use Rattle.session_loop.proofs.Handing.{permits_last}
use Rattle.session_loop.proofs.writing.hand_two.Goals as goal

pub loop-rest-preserved : goal.loop-rest-preserved
loop-rest-preserved g c =
    let shows = showing g.K.Outlet.told g.K.Outlet.takes g.K.Outlet.held in
    let left = c.loop-rest.rest.now ++ c.loop-rest.left.now in
    let n = c.in-Took.count in
    let inv = c.loop-rest.invariant in
    record {
      written = inv.written ++ take n left;
      took = took_then shows c.args.sink.now c.loop-rest.sink c.hand_both.new.self inv.written (take n left) inv.took
          (took_both shows c.loop-rest.sink c.hand_both.new.self (take n left) c.in-Took.ensures.takes c.in-Took.ensures.pushes.2);
      is = left_more (c.args.first.now ++ c.args.second.now) inv.written left n inv.is
          ∙ ap (λ (l : List ℕ). (inv.written ++ take n left) ++ l) (sym c.behind.ensures.left);
      faults = c.in-Took.ensures.steady (λ e. e) ∙ inv.faults;
    }

pub returns-in-Failed-clause-hands : goal.returns-in-Failed-clause-hands
returns-in-Failed-clause-hands g c =
    let shows = showing g.K.Outlet.told g.K.Outlet.takes g.K.Outlet.held in
    let left = c.loop-rest.rest.now ++ c.loop-rest.left.now in
    let n = c.in-Failed.field-0 in
    let inv = c.loop-rest.invariant in
    hands_front shows c.args.sink.now c.hand_both.new.self (c.args.first.now ++ c.args.second.now) (inv.written ++ take n left) (drop n left)
    (took_then shows c.args.sink.now c.loop-rest.sink c.hand_both.new.self inv.written (take n left) inv.took
    (took_both shows c.loop-rest.sink c.hand_both.new.self (take n left) c.in-Failed.ensures.takes c.in-Failed.ensures.pushes.1))
    (left_more (c.args.first.now ++ c.args.second.now) inv.written left n inv.is)

pub returns-clause-hands : goal.returns-clause-hands
returns-clause-hands g c =
    let inv = c.loop-rest.invariant in
    let none : length c.loop-rest.rest.now ≡ 0 = grind (arith, common_steps) in
    hands_last (showing g.K.Outlet.told g.K.Outlet.takes g.K.Outlet.held) c.args.sink.now c.loop-rest.sink c.hand_all.new.sink
    (c.args.first.now ++ c.args.second.now) inv.written c.loop-rest.rest.now c.loop-rest.left.now c.hand_all.result inv.took inv.is none
    c.hand_all.ensures.hands

pub hand_both-requires-clause-permitted : goal.hand_both-requires-clause-permitted
hand_both-requires-clause-permitted g c =
    let inv = c.loop-rest.invariant in
    c.requires.permits c.loop-rest.sink inv.written (c.loop-rest.rest.now ++ c.loop-rest.left.now) inv.took inv.is

pub hand_all-requires : goal.hand_all-requires
hand_all-requires g c =
    let inv = c.loop-rest.invariant in
    let none : length c.loop-rest.rest.now ≡ 0 = grind (arith, common_steps) in
    record {
      permits = permits_last (showing g.K.Outlet.told g.K.Outlet.takes g.K.Outlet.held) g.K.Outlet.permits c.args.sink.now c.loop-rest.sink
          (c.args.first.now ++ c.args.second.now) inv.written c.loop-rest.rest.now c.loop-rest.left.now inv.took inv.is none c.requires.permits;
    }

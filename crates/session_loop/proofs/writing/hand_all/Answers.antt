use Rattle.std.proofs.Common.{◌≡◌, ℕ, List, ◌++◌, length, take, sym, ◌∙◌, ap, append_assoc, take-append-drop, arith}
use Rattle.std.proofs.lemmas.Grind.{common_steps}
use Rattle.std.proofs.lemmas.List.{take_rest}
use Rattle.session_loop.specs.Writes.{showing}
use Rattle.session_loop.proofs.WriteLemmas.{took_once, took_then, took_failed, hands_all, hands_front}
use Rattle.session_loop.proofs.writing.hand_all.Goals as goal

pub loop-rest-preserved : goal.loop-rest-preserved
loop-rest-preserved g c =
    let shows = showing g.K.Outlet.told g.K.Outlet.takes g.K.Outlet.held in
    let rest = c.loop-rest.rest.now in
    let n = c.in-Took.count in
    let inv = c.loop-rest.invariant in
    record {
      written = inv.written ++ take n rest;
      took = took_then shows c.args.sink.now c.loop-rest.sink c.hand.new.self inv.written (take n rest) inv.took
          (took_once shows c.loop-rest.sink c.hand.new.self (take n rest) c.in-Took.ensures.takes c.in-Took.ensures.pushes.2);
      is = inv.is
          ∙ ap (λ (l : List ℕ). inv.written ++ l) (sym (take-append-drop n rest) ∙ ap (λ (l : List ℕ). take n rest ++ l) (sym (take_rest rest n)))
          ∙ sym (append_assoc inv.written (take n rest) _);
      faults = c.in-Took.ensures.steady (λ e. absurd cc) ∙ inv.faults;
    }

pub returns-in-Failed-clause-hands : goal.returns-in-Failed-clause-hands
returns-in-Failed-clause-hands g c =
    let shows = showing g.K.Outlet.told g.K.Outlet.takes g.K.Outlet.held in
    let inv = c.loop-rest.invariant in
    hands_front shows c.args.sink.now c.hand.new.self c.args.piece.now inv.written c.loop-rest.rest.now
    (took_failed shows c.args.sink.now c.loop-rest.sink c.hand.new.self inv.written inv.took c.in-Failed.ensures.takes c.in-Failed.ensures.pushes)
    inv.is

pub returns-clause-hands : goal.returns-clause-hands
returns-clause-hands g c =
    let inv = c.loop-rest.invariant in
    let none : length c.loop-rest.rest.now ≡ 0 = grind (arith, common_steps) in
    hands_all (showing g.K.Outlet.told g.K.Outlet.takes g.K.Outlet.held) c.args.sink.now c.loop-rest.sink c.args.piece.now inv.written c.loop-rest.rest.now
    inv.took inv.is none

pub hand-requires-clause-permitted : goal.hand-requires-clause-permitted
hand-requires-clause-permitted g c =
    let inv = c.loop-rest.invariant in
    c.requires.permits c.loop-rest.sink inv.written c.loop-rest.rest.now inv.took inv.is

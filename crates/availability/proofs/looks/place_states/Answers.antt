use Rattle.std.proofs.Common.{◌∙◌, ◌+◌, [], Bool, List, take, sym, ap, subst, arith}
use Rattle.claim_rule.specs.Calls.{AddsStepsBy}
use Rattle.claim_rule.proofs.Out.{holds_same, endings_same, holds_then, endings_then}
use Rattle.availability.specs.Looks.{LooksAt}
use Rattle.availability.proofs.Looking.{looked_none, looked_next, looked_tidy}
use Rattle.availability.proofs.looks.place_states.Goals as goal

pub loop-place-init : goal.loop-place-init
loop-place-init c =
    let v = c.in_ok-states.ensures in
    let desk = c.args.desk.now in
    record {
      own = c.requires.own;
      holds = holds_same desk;
      endings = endings_same desk;
      long = v.len;
      room = omega (arith, v.exact);
      looked = subst (λ (l : List Bool). AddsStepsBy (LooksAt [] c.args.span l) desk desk) (sym v.items) (looked_none desk c.args.span c.requires.own.legal);
    }

pub loop-place-preserved : goal.loop-place-preserved
loop-place-preserved c =
    let i = c.loop-place.invariant in
    let old = c.args.desk.now in
    let mid = c.loop-place.desk in
    let look = c.look_free-is_free in
    let new = look.new.desk in
    record {
      own = look.ensures.own;
      holds = holds_then old mid new i.holds look.ensures.holds;
      endings = endings_then old mid new i.endings look.ensures.endings;
      long = c.in-Ok.ensures.len ∙ ap (λ n. n + 1) i.long;
      room = omega (arith, c.in-Ok.ensures.capacity);
      looked = subst (λ (l : List Bool). AddsStepsBy (LooksAt (take (c.loop-place.place-index + 1) c.args.places.now) c.args.span l) old new) (sym c.in-Ok.ensures.items)
          (looked_next old mid new c.args.places.now c.loop-place.place-index _ c.args.span c.loop-place.states.items look.result c.loop-place-test.true i.looked look.ensures.entries);
    }

pub returns-clause-tidy : goal.returns-clause-tidy
returns-clause-tidy c =
    let i = c.loop-place.invariant in
    looked_tidy c.args.books.now c.args.desk.now c.loop-place.desk _ c.args.span c.loop-place.states.items i.own i.looked i.holds i.endings

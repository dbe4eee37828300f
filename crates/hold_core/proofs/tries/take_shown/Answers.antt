use Rattle.std.proofs.Common.{◌≡◌, ◌<◌, ℕ, ap, refl, sym, ◌∙◌, subst, arith}
use Rattle.claim_rule.specs.Holds.{HoldView}
use Rattle.claim_rule.specs.Out.{HasNoted}
use Rattle.claim_rule.proofs.Out.{endings_same, endings_then}
use Rattle.hold_core.proofs.Trying.{LookedFree, looked_first, looked_more, refused, won_with, contended}
use Rattle.hold_core.proofs.tries.take_shown.Goals as goal

pub loop-init : goal.loop-init
loop-init c = record {
  own = c.requires.own;
  hold = c.requires.hold;
  noted = λ on. on;
  endings = endings_same c.args.desk.now;
  same = refl;
  clear = c.requires.clear;
  looked = λ before s. looked_first before c.args.desk.now c.args.place.0 c.args.piece c.args.first c.requires.clear s;
}

pub returns-in-Won-clause-tried : goal.returns-in-Won-clause-tried
returns-in-Won-clause-tried c before s =
    let i = c.loop.invariant in
    let t = c.in-Won.ensures.take in
    let few : c.loop.counter < 8 = omega arith in
    won_with before c.loop.desk c.try_take.new.desk c.note_item.new.desk c.args.hold.now c.loop.hold c.try_take.new.hold c.note_item.new.hold c.args.place.0 c.args.piece c.loop.counter c.loop.shown
    i.same t.1 c.note_item.ensures.same (i.looked before s) few t.0
    (c.note_item.ensures.entries c.loop.hold.items (record { place = c.args.place.0; span = c.args.piece }) (ap (λ (h : HoldView). h.items) t.1))

pub returns-in-Won-clause-endings : goal.returns-in-Won-clause-endings
returns-in-Won-clause-endings c =
    endings_then c.args.desk.now c.loop.desk c.note_item.new.desk c.loop.invariant.endings (endings_then c.loop.desk c.try_take.new.desk c.note_item.new.desk c.in-Won.ensures.endings c.note_item.ensures.endings)

pub returns-in-Taken-clause-tried : goal.returns-in-Taken-clause-tried
returns-in-Taken-clause-tried c before s =
    let i = c.loop.invariant in
    let t = c.in-Taken.ensures.take in
    let few : c.loop.counter < 8 = omega arith in
    refused before c.loop.desk c.try_take.new.desk c.args.hold.now c.try_take.new.hold c.args.place.0 c.args.piece c.loop.counter c.loop.shown c.in-Taken.shown (i.looked before s) few t.0 t.1 t.3 (t.2 ∙ i.same)

pub returns-in-Won-clause-noted : goal.returns-in-Won-clause-noted
returns-in-Won-clause-noted c on =
    let i = c.loop.invariant in
    let t = c.in-Won.ensures.take in
    c.note_item.ensures.noted (c.loop.hold.items, record { place = c.args.place.0; span = c.args.piece }, ap (λ (h : HoldView). h.items) t.1, c.in-Won.ensures.noted (i.noted on))

pub returns-in-Taken-clause-noted : goal.returns-in-Taken-clause-noted
returns-in-Taken-clause-noted c on =
    let e = c.in-Taken.ensures in
    subst (λ (h : HoldView). HasNoted c.try_take.new.desk c.try_take.new.hold.row.row h.items) (sym e.take.2) (e.noted (c.loop.invariant.noted on))

pub returns-in-Taken-clause-endings : goal.returns-in-Taken-clause-endings
returns-in-Taken-clause-endings c = endings_then c.args.desk.now c.loop.desk c.try_take.new.desk c.loop.invariant.endings c.in-Taken.ensures.endings

pub loop-preserved : goal.loop-preserved
loop-preserved c =
    let i = c.loop.invariant in
    let e = c.in-Moving.ensures in
    let t = e.take in
    record {
      own = e.own;
      hold = e.hold;
      noted = λ on. subst (λ (h : HoldView). HasNoted c.try_take.new.desk c.try_take.new.hold.row.row h.items) (sym t.2) (e.noted (i.noted on));
      endings = endings_then c.args.desk.now c.loop.desk c.try_take.new.desk i.endings e.endings;
      same = t.2 ∙ i.same;
      clear = t.3;
      looked = λ before s. looked_more before c.loop.desk c.try_take.new.desk c.args.place.0 c.args.piece c.loop.counter c.loop.shown c.in-Moving.moved (i.looked before s) t.0 t.1 t.3;
    }

pub returns-clause-tried : goal.returns-clause-tried
returns-clause-tried c before s =
    let i = c.loop.invariant in
    let all : c.loop.counter ≡ 8 = omega arith in
    let looked = subst (λ (k : ℕ). LookedFree before c.loop.desk c.args.place.0 c.args.piece k c.loop.shown) all (i.looked before s) in
    contended before c.loop.desk c.args.hold.now c.loop.hold c.args.place.0 c.args.piece c.loop.shown looked i.same

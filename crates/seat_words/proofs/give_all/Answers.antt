use Rattle.std.proofs.Common.{◌≡◌, ℕ, add-zero, sym, ap, ◌∙◌, subst}
use Rattle.claim_rule.specs.Endings.{EndingView}
use Rattle.claim_rule.specs.Desks.{AddsSteps}
use Rattle.claim_rule.specs.EndSteps.{gives_from}
use Rattle.claim_rule.proofs.Out.{holds_same, holds_then}
use Rattle.claim_rule.proofs.Shapes.{shape_none}
use Rattle.seat_words.proofs.Giving.{so_far, more, one_on, still_left, all_given, all_shape, at_end, given_ending, given_holds}
use Rattle.seat_words.proofs.give_all.Goals as goal

pub loop-init : goal.loop-init
loop-init c = record {
  own = c.requires.own;
  ending = c.requires.ending;
  holds = holds_same c.args.desk.now;
  is = ap (λ (n : ℕ). record c.args.ending.now { given = n }) (sym (add-zero c.args.ending.now.given));
  read = c.requires.read;
  all = c.left-end.ensures.left;
  seen = shape_none c.args.desk.now c.requires.own.legal;
}

pub step_give-requires : goal.step_give-requires
step_give-requires c = let i = c.loop.invariant in record {
  own = i.own;
  ending = i.ending.of;
  read = i.read;
  left = still_left c.args.ending.now c.loop.ending c.loop.counter c.left-end.result i.is c.loop-test.true i.all;
}

pub loop-preserved : goal.loop-preserved
loop-preserved c = let i = c.loop.invariant in let g = c.step_give.ensures in record {
  own = g.own;
  ending = given_ending c.loop.desk c.step_give.new.desk c.loop.ending c.step_give.new.ending g.given g.one i.ending g.ending;
  holds = holds_then c.args.desk.now c.loop.desk c.step_give.new.desk i.holds (given_holds c.loop.desk c.step_give.new.desk c.loop.ending g.given i.ending);
  is = one_on c.args.ending.now c.loop.ending c.step_give.new.ending c.loop.counter i.is g.one;
  read = ap (λ (e : EndingView). e.read) g.one ∙ i.read;
  all = i.all;
  seen = more c.args.desk.now c.loop.desk c.step_give.new.desk c.args.ending.now c.loop.ending c.loop.counter i.seen i.is g.given;
}

pub returns : goal.returns
returns c =
    let i = c.loop.invariant in
    let n : ℕ = c.left-end.result in
    let done : c.loop.counter ≡ n = at_end c.loop.counter n c.loop.auto.counter-end c.loop-test.false in
    let is : c.loop.ending ≡ so_far c.args.ending.now n = i.is ∙ ap (so_far c.args.ending.now) done in
    record {
      own = i.own;
      ending = i.ending;
      holds = i.holds;
      all = all_given c.args.ending.now c.loop.ending n is i.all;
      entries = all_shape c.args.desk.now c.loop.desk c.args.ending.now n i.all (subst (λ (k : ℕ). AddsSteps c.args.desk.now c.loop.desk (gives_from c.args.ending.now.row.row c.args.ending.now.given k)) done i.seen);
    }

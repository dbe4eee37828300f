use Rattle.std.proofs.Common.{sym, ◌∙◌, subst}
use Rattle.std.proofs.lemmas.Bool.{true≢false}
use Rattle.leg_masks.specs.Interval.{PlacedSpan as Item}
use Rattle.history_model.specs.Looks.{look_at}
use Rattle.claim_rule.specs.Desks.{Stepped}
use Rattle.seat_words.proofs.Trying.{won_hold, won_noted, won_endings, missed_hold, missed_noted, looked_endings}
use Rattle.claim_rule.proofs.Shapes.{step_shape}
use Rattle.seat_words.proofs.try_take.Goals as goal

pub returns-in-None-clause-hold : goal.returns-in-None-clause-hold
returns-in-None-clause-hold c = let s = c.step_take in let w = c.in-None.ensures.won in
    won_hold c.args.desk.now s.new.desk c.args.hold.now s.new.hold _ w.0 w.1 c.requires.hold c.in-None.ensures.hold

pub returns-in-None-clause-noted : goal.returns-in-None-clause-noted
returns-in-None-clause-noted c on = let s = c.step_take in let w = c.in-None.ensures.won in
    won_noted c.args.desk.now s.new.desk c.args.hold.now s.new.hold _ w.0 w.1 c.requires.hold on

pub returns-in-None-clause-endings : goal.returns-in-None-clause-endings
returns-in-None-clause-endings c = won_endings c.args.desk.now c.step_take.new.desk c.args.hold.now _ c.in-None.ensures.won.0 c.requires.hold

pub returns-then-free_on-clause-hold : goal.returns-then-free_on-clause-hold
returns-then-free_on-clause-hold c = let s = c.step_take in let m = c.in-Some.ensures.missed in
    missed_hold c.args.desk.now s.new.desk c.args.hold.now s.new.hold _ _ _ m.1 m.2 c.requires.hold

pub returns-then-free_on-clause-noted : goal.returns-then-free_on-clause-noted
returns-then-free_on-clause-noted c on = let s = c.step_take in let m = c.in-Some.ensures.missed in
    missed_noted c.args.desk.now s.new.desk c.args.hold.now s.new.hold _ _ _ m.1 m.2 c.requires.hold on

pub returns-then-free_on-clause-endings : goal.returns-then-free_on-clause-endings
returns-then-free_on-clause-endings c = looked_endings _ _ _ c.args.desk.now c.step_take.new.desk c.in-Some.ensures.missed.1

pub returns-else-free_on-clause-hold : goal.returns-else-free_on-clause-hold
returns-else-free_on-clause-hold c = let s = c.step_take in let m = c.in-Some.ensures.missed in
    missed_hold c.args.desk.now s.new.desk c.args.hold.now s.new.hold _ _ _ m.1 m.2 c.requires.hold

pub returns-else-free_on-clause-noted : goal.returns-else-free_on-clause-noted
returns-else-free_on-clause-noted c on = let s = c.step_take in let m = c.in-Some.ensures.missed in
    missed_noted c.args.desk.now s.new.desk c.args.hold.now s.new.hold _ _ _ m.1 m.2 c.requires.hold on

pub returns-else-free_on-clause-endings : goal.returns-else-free_on-clause-endings
returns-else-free_on-clause-endings c = looked_endings _ _ _ c.args.desk.now c.step_take.new.desk c.in-Some.ensures.missed.1

pub returns-else-free_on-clause-take : goal.returns-else-free_on-clause-take
returns-else-free_on-clause-take c = let m = c.in-Some.ensures.missed in
    let old = c.args.desk.now in
    let new = c.step_take.new.desk in
    let n = c.in-Some.shown in (
      step_shape (look_at c.args.place.0 c.args.span n) old new (subst (λ (i : Item). Stepped (look_at i.place i.span n) old new) c.item_at-item.ensures.item m.1),
      m.0,
      m.2,
      λ clear. true≢false (sym (c.free_on.ensures.1 clear) ∙ c.if-free_on.false),
    )

use Rattle.std.proofs.Common.{rules, refl}
use Rattle.leg_masks.specs.Interval.{IsClear}
use Rattle.claim_rule.proofs.Out.{endings_then}
use Rattle.hold_core.proofs.Trying.{as_look, refused_at_once}
use Rattle.hold_core.proofs.tries.try_piece.Goals as goal

pub returns-then-not-free_on-clause-tried : goal.returns-then-not-free_on-clause-tried
returns-then-not-free_on-clause-tried c =
    let taken : ¬ IsClear c.glance-shown.result c.args.piece = search rules in
    refused_at_once c.args.desk.now c.glance-shown.new.desk c.args.hold.now c.args.hold.now c.args.place.0 c.args.piece c.glance-shown.result taken (as_look c.args.desk.now c.glance-shown.new.desk c.args.place.0 c.args.piece c.half_of.result c.glance-shown.result c.half_of.ensures.value c.glance-shown.ensures.entries) refl

pub returns-then-not-free_on-clause-noted : goal.returns-then-not-free_on-clause-noted
returns-then-not-free_on-clause-noted c = c.glance-shown.ensures.holds.noted c.args.hold.now c.args.hold.now.items c.requires.hold

pub returns-then-not-free_on-clause-hold : goal.returns-then-not-free_on-clause-hold
returns-then-not-free_on-clause-hold c = c.glance-shown.ensures.holds.hold c.args.hold.now c.requires.hold

pub take_shown-requires-clause-hold : goal.take_shown-requires-clause-hold
take_shown-requires-clause-hold c = c.glance-shown.ensures.holds.hold c.args.hold.now c.requires.hold

pub take_shown-requires-clause-clear : goal.take_shown-requires-clause-clear
take_shown-requires-clause-clear c = search rules

pub returns-clause-tried : goal.returns-clause-tried
returns-clause-tried c =
    c.take_shown.ensures.tried c.args.desk.now
    (as_look c.args.desk.now c.glance-shown.new.desk c.args.place.0 c.args.piece c.half_of.result c.glance-shown.result c.half_of.ensures.value c.glance-shown.ensures.entries)

pub returns-clause-noted : goal.returns-clause-noted
returns-clause-noted c on = c.take_shown.ensures.noted (c.glance-shown.ensures.holds.noted c.args.hold.now c.args.hold.now.items c.requires.hold on)

pub returns-clause-endings : goal.returns-clause-endings
returns-clause-endings c = endings_then c.args.desk.now c.glance-shown.new.desk c.take_shown.new.desk c.glance-shown.ensures.endings c.take_shown.ensures.endings

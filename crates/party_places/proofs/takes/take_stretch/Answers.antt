use Rattle.std.proofs.Common.{length, ℕ, ◌-◌, ap, subst, ◌∙◌}
use Rattle.claim_rule.specs.Desks.{AddsSteps}
use Rattle.claim_rule.proofs.Out.{endings_then}
use Rattle.party_places.specs.Parties.{gives_down}
use Rattle.party_places.proofs.Taking.{given_up}
use Rattle.party_places.proofs.takes.take_stretch.Goals as goal

pub returns-in-Some-clause-lost : goal.returns-in-Some-clause-lost
returns-in-Some-clause-lost c =
    let lost = c.in-Some.ensures.lost in
    let had = ap length c.items-had.ensures.items in
    let back = c.give_back.ensures in
    let middle = c.take_each.new in
    let entries : AddsSteps middle.desk c.give_back.new.desk (gives_down middle.hold.row.row (length c.args.hold.now.items) (length middle.hold.items - length c.args.hold.now.items)) =
    subst (λ (n : ℕ). AddsSteps middle.desk c.give_back.new.desk (gives_down middle.hold.row.row n (length middle.hold.items - n))) had back.entries in
    given_up c.args.desk.now middle.desk c.give_back.new.desk c.args.hold.now middle.hold c.give_back.new.hold c.args.span _ _ lost.0 back.held.0 lost.1 lost.2 entries back.held.1 (back.left ∙ had)

pub returns-in-Some-clause-endings : goal.returns-in-Some-clause-endings
returns-in-Some-clause-endings c = endings_then c.args.desk.now c.take_each.new.desk c.give_back.new.desk c.in-Some.ensures.endings c.give_back.ensures.endings

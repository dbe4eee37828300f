use Rattle.std.proofs.Common.{◌≡◌, ℕ, ap, sym, ◌∙◌, subst, refl}
use Rattle.claim_rule.specs.Rule.{DeskView}
use Rattle.claim_rule.specs.Desks.{Stepped}
use Rattle.claim_rule.specs.Seats.{desk_view}
use Rattle.claim_rule.specs.Holds.{HoldView, with_one}
use Rattle.claim_rule.proofs.Desks.{steps_as}
use Rattle.claim_rule.proofs.Holding.{hold_gives, can_give, still_alone}
use Rattle.claim_rule.proofs.books.Books.step_undo.Goals as goal
use Rattle.history_model.specs.declared.entry.Step.TheVariants.{Give}

pub undo_at-requires-clause-row : goal.undo_at-requires-clause-row
undo_at-requires-clause-row c =
    let row = c.hold.inside.row in
    let e = c.in-Some.ensures.items in
    let less : HoldView = record { row = row; items = c.pop.new.self.items } in
    let one : c.args.hold.now ≡ with_one less c.in-Some.item = sym c.hold.view_is ∙ (λ j. record { row = row; items = e j }) in
    can_give c.desk.inside.seat c.desk.inside.kept c.desk.inside.past c.args.self.now.layout c.args.desk.now c.args.hold.now less c.in-Some.item c.len-left.result c.desk.view_is c.requires.own.layout c.requires.hold.0 one c.len-left.ensures.value

pub returns-clause-hold : goal.returns-clause-hold
returns-clause-hold c =
    let row = c.hold.inside.row in
    let e = c.in-Some.ensures.items in
    let less : HoldView = record { row = row; items = c.pop.new.self.items } in
    let one : c.args.hold.now ≡ with_one less c.in-Some.item = sym c.hold.view_is ∙ (λ j. record { row = row; items = e j }) in
    let k = c.len-left.result in
    let did = steps_as c.args.self.now.layout (Give row.row k) c.desk.inside.seat c.undo_at.new.seat c.desk.inside.kept c.desk.inside.past c.args.desk.now c.desk.view_is (ap (λ (d : DeskView). d.layout) c.desk.view_is ∙ c.requires.own.layout) c.undo_at.ensures in
    (hold_gives c.in-Some.item k c.args.desk.now (desk_view c.undo_at.new.seat c.desk.inside.kept c.desk.inside.past) c.args.hold.now less one (subst (λ (r : ℕ). Stepped (Give r k) c.args.desk.now (desk_view c.undo_at.new.seat c.desk.inside.kept c.desk.inside.past)) (ap (λ (h : HoldView). h.row.row) c.hold.view_is) did) c.requires.hold.0, did.same.5 ∙ c.requires.hold.1)

pub returns-clause-given : goal.returns-clause-given
returns-clause-given c =
    let row = c.hold.inside.row in
    let k = c.len-left.result in
    let did = steps_as c.args.self.now.layout (Give row.row k) c.desk.inside.seat c.undo_at.new.seat c.desk.inside.kept c.desk.inside.past c.args.desk.now c.desk.view_is (ap (λ (d : DeskView). d.layout) c.desk.view_is ∙ c.requires.own.layout) c.undo_at.ensures in
    subst (λ (x : ℕ × ℕ). Stepped (Give x.0 x.1) c.args.desk.now (desk_view c.undo_at.new.seat c.desk.inside.kept c.desk.inside.past)) (λ j. (ap (λ (h : HoldView). h.row.row) c.hold.view_is j, c.len-left.ensures.value j)) did

pub returns-clause-own : goal.returns-clause-own
returns-clause-own c =
    let row = c.hold.inside.row in
    let k = c.len-left.result in
    let did = steps_as c.args.self.now.layout (Give row.row k) c.desk.inside.seat c.undo_at.new.seat c.desk.inside.kept c.desk.inside.past c.args.desk.now c.desk.view_is (ap (λ (d : DeskView). d.layout) c.desk.view_is ∙ c.requires.own.layout) c.undo_at.ensures in
    still_alone (Give row.row k) c.args.self.now c.args.desk.now (desk_view c.undo_at.new.seat c.desk.inside.kept c.desk.inside.past) refl c.requires.hold.1 did c.requires.own

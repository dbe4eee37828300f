use Rattle.std.proofs.Common.{ℕ, ◌+◌, ap, ◌∙◌, subst, sym, refl}
use Rattle.history_model.specs.declared.entry.Step.TheVariants.{Give}
use Rattle.claim_rule.specs.Rule.{DeskView}
use Rattle.claim_rule.specs.Desks.{Stepped}
use Rattle.claim_rule.specs.Seats.{desk_view, CanGive}
use Rattle.claim_rule.specs.Endings.{EndingView, IsEndingOf}
use Rattle.claim_rule.proofs.Desks.{steps_as}
use Rattle.claim_rule.proofs.EndingLemmas.{end_gives, still_ending, end_can_give, item_read}
use Rattle.claim_rule.proofs.books.Books.step_give.Goals as goal

pub undo_at-requires-clause-row : goal.undo_at-requires-clause-row
undo_at-requires-clause-row c = subst (λ (x : ℕ × ℕ). CanGive c.args.self.now.layout c.desk.inside.seat x.0 x.1 c.index-deref-ending.result) (λ i. (sym (ap (λ (e : EndingView). e.row.row) c.ending.view_is) i, sym (ap (λ (e : EndingView). e.given) c.ending.view_is) i))
    (end_can_give c.desk.inside.seat c.desk.inside.kept c.desk.inside.past c.args.self.now.layout c.args.desk.now c.args.ending.now c.desk.view_is c.requires.own.layout c.requires.ending c.index-deref-ending.result c.requires.read
    (item_read (record { row = c.ending.inside.row; kind = c.ending.inside.kind; end = c.ending.inside.end; items = c.ending.inside.items.items; given = c.ending.inside.given; read = c.ending.inside.read }) c.args.ending.now c.deref.result.now c.index-deref-ending.result c.ending.view_is c.deref.ensures.0 c.requires.left c.index-deref-ending.is))

pub returns-clause-given : goal.returns-clause-given
returns-clause-given c =
    let did = steps_as c.args.self.now.layout (Give c.ending.inside.row.row c.ending.inside.given) c.desk.inside.seat c.undo_at.new.seat c.desk.inside.kept c.desk.inside.past c.args.desk.now c.desk.view_is (ap (λ (d : DeskView). d.layout) c.desk.view_is ∙ c.requires.own.layout) c.undo_at.ensures in
    subst (λ (x : ℕ × ℕ). Stepped (Give x.0 x.1) c.args.desk.now (desk_view c.undo_at.new.seat c.desk.inside.kept c.desk.inside.past)) (λ i. (ap (λ (e : EndingView). e.row.row) c.ending.view_is i, ap (λ (e : EndingView). e.given) c.ending.view_is i)) did

pub returns-clause-own : goal.returns-clause-own
returns-clause-own c = still_ending c.args.self.now c.args.desk.now (desk_view c.undo_at.new.seat c.desk.inside.kept c.desk.inside.past) c.args.ending.now (Give c.args.ending.now.row.row c.args.ending.now.given) refl (λ r q. q) c.requires.ending (returns-clause-given c) c.requires.own

pub returns-clause-ending : goal.returns-clause-ending
returns-clause-ending c =
    subst (λ (e : EndingView). IsEndingOf (desk_view c.undo_at.new.seat c.desk.inside.kept c.desk.inside.past) (record e { given = e.given + 1 })) (sym c.ending.view_is)
    (end_gives c.index-deref-ending.result c.args.desk.now (desk_view c.undo_at.new.seat c.desk.inside.kept c.desk.inside.past) c.args.ending.now c.requires.read
    (item_read (record { row = c.ending.inside.row; kind = c.ending.inside.kind; end = c.ending.inside.end; items = c.ending.inside.items.items; given = c.ending.inside.given; read = c.ending.inside.read }) c.args.ending.now c.deref.result.now c.index-deref-ending.result c.ending.view_is c.deref.ensures.0 c.requires.left c.index-deref-ending.is)
    (returns-clause-given c) c.requires.ending)

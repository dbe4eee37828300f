use Rattle.std.proofs.Common.{ℕ, ap, ◌∙◌, refl, subst, sym}
use Rattle.claim_rule.specs.Rule.{DeskView}
use Rattle.claim_rule.specs.Desks.{Stepped}
use Rattle.claim_rule.specs.Seats.{desk_view, CanNote}
use Rattle.claim_rule.specs.Holds.{HoldView}
use Rattle.claim_rule.proofs.Desks.{steps_as}
use Rattle.claim_rule.proofs.Holding.{hold_notes, still_alone, can_note}
use Rattle.claim_rule.proofs.books.Books.step_note.Goals as goal
use Rattle.history_model.specs.declared.entry.Step.TheVariants.{Note}

pub note_at-requires-clause-row : goal.note_at-requires-clause-row
note_at-requires-clause-row c = subst (λ (r : ℕ). CanNote c.args.self.now.layout c.desk.inside.seat r c.args.word) (sym (ap (λ (h : HoldView). h.row.row) c.hold.view_is))
    (can_note c.desk.inside.seat c.desk.inside.kept c.desk.inside.past c.args.self.now.layout c.args.desk.now c.args.hold.now c.desk.view_is c.requires.own.layout c.requires.hold.0 c.args.word c.requires.word)

pub returns-clause-noted : goal.returns-clause-noted
returns-clause-noted c =
    let did = steps_as c.args.self.now.layout (Note c.hold.inside.row.row c.args.word c.args.value) c.desk.inside.seat c.note_at.new.seat c.desk.inside.kept c.desk.inside.past c.args.desk.now c.desk.view_is (ap (λ (d : DeskView). d.layout) c.desk.view_is ∙ c.requires.own.layout) c.note_at.ensures in
    subst (λ (r : ℕ). Stepped (Note r c.args.word c.args.value) c.args.desk.now (desk_view c.note_at.new.seat c.desk.inside.kept c.desk.inside.past)) (ap (λ (h : HoldView). h.row.row) c.hold.view_is) did

pub returns-clause-own : goal.returns-clause-own
returns-clause-own c = still_alone (Note c.args.hold.now.row.row c.args.word c.args.value) c.args.self.now c.args.desk.now (desk_view c.note_at.new.seat c.desk.inside.kept c.desk.inside.past) refl c.requires.hold.1 (returns-clause-noted c) c.requires.own

pub returns-clause-hold : goal.returns-clause-hold
returns-clause-hold c = let did = returns-clause-noted c in
    ((hold_notes c.args.word c.args.value c.args.desk.now (desk_view c.note_at.new.seat c.desk.inside.kept c.desk.inside.past) c.args.hold.now did c.requires.hold.0, did.same.5 ∙ c.requires.hold.1), refl)

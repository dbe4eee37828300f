use Rattle.std.proofs.Common.{ℕ, ap, ◌∙◌, refl, subst, sym}
use Rattle.history_model.specs.declared.entry.Step.TheVariants.{Note}
use Rattle.claim_rule.specs.Rule.{DeskView}
use Rattle.claim_rule.specs.Desks.{Stepped}
use Rattle.claim_rule.specs.Seats.{desk_view, CanNote}
use Rattle.claim_rule.specs.Endings.{EndingView}
use Rattle.claim_rule.proofs.Desks.{steps_as}
use Rattle.claim_rule.proofs.EndingLemmas.{end_notes, still_ending, end_can_note}
use Rattle.claim_rule.proofs.books.Books.step_end.Goals as goal

pub note_at-requires-clause-row : goal.note_at-requires-clause-row
note_at-requires-clause-row c = subst (λ (r : ℕ). CanNote c.args.self.now.layout c.desk.inside.seat r c.args.word) (sym (ap (λ (e : EndingView). e.row.row) c.ending.view_is))
    (end_can_note c.desk.inside.seat c.desk.inside.kept c.desk.inside.past c.args.self.now.layout c.args.desk.now c.args.ending.now c.desk.view_is c.requires.own.layout c.requires.ending c.args.word c.requires.word)

pub returns-clause-noted : goal.returns-clause-noted
returns-clause-noted c =
    let did = steps_as c.args.self.now.layout (Note c.ending.inside.row.row c.args.word c.args.value) c.desk.inside.seat c.note_at.new.seat c.desk.inside.kept c.desk.inside.past c.args.desk.now c.desk.view_is (ap (λ (d : DeskView). d.layout) c.desk.view_is ∙ c.requires.own.layout) c.note_at.ensures in
    subst (λ (r : ℕ). Stepped (Note r c.args.word c.args.value) c.args.desk.now (desk_view c.note_at.new.seat c.desk.inside.kept c.desk.inside.past)) (ap (λ (e : EndingView). e.row.row) c.ending.view_is) did

pub returns-clause-own : goal.returns-clause-own
returns-clause-own c = still_ending c.args.self.now c.args.desk.now (desk_view c.note_at.new.seat c.desk.inside.kept c.desk.inside.past) c.args.ending.now (Note c.args.ending.now.row.row c.args.word c.args.value) refl (λ r q. q) c.requires.ending (returns-clause-noted c) c.requires.own

pub returns-clause-ending : goal.returns-clause-ending
returns-clause-ending c = (end_notes c.args.word c.args.value c.args.desk.now (desk_view c.note_at.new.seat c.desk.inside.kept c.desk.inside.past) c.args.ending.now (returns-clause-noted c) c.requires.ending, refl)

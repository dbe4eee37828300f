use Rattle.std.proofs.Common.{◌<◌, ℕ, ap, ◌∙◌, subst, sym, refl}
use Rattle.history_model.specs.declared.entry.Step.TheVariants.{Close}
use Rattle.claim_rule.specs.Rule.{DeskView}
use Rattle.claim_rule.specs.Desks.{Stepped}
use Rattle.claim_rule.specs.Seats.{desk_view}
use Rattle.claim_rule.specs.Endings.{EndingView}
use Rattle.claim_rule.proofs.Desks.{steps_as}
use Rattle.claim_rule.proofs.EndingLemmas.{still_ending, end_can_close}
use Rattle.claim_rule.proofs.books.Books.step_close.Goals as goal

pub close_at-requires-clause-row : goal.close_at-requires-clause-row
close_at-requires-clause-row c = subst (λ (r : ℕ). r < c.args.self.now.layout.rows) (sym (ap (λ (e : EndingView). e.row.row) c.ending.view_is)) c.requires.ready.0

pub close_at-requires-clause-ready : goal.close_at-requires-clause-ready
close_at-requires-clause-ready c =
    end_can_close c.desk.inside.seat c.desk.inside.kept c.desk.inside.past c.args.self.now.layout c.args.desk.now c.args.ending c.desk.view_is c.requires.own.layout c.requires.ending c.requires.ready.1 c.ending.inside.row c.ending.inside.kind
    (ap (λ (e : EndingView). e.row) c.ending.view_is) (ap (λ (e : EndingView). e.kind) c.ending.view_is)

pub returns-clause-closed : goal.returns-clause-closed
returns-clause-closed c =
    let did = steps_as c.args.self.now.layout (Close c.ending.inside.row.row) c.desk.inside.seat c.close_at.new.seat c.desk.inside.kept c.desk.inside.past c.args.desk.now c.desk.view_is (ap (λ (d : DeskView). d.layout) c.desk.view_is ∙ c.requires.own.layout) c.close_at.ensures in
    subst (λ (r : ℕ). Stepped (Close r) c.args.desk.now (desk_view c.close_at.new.seat c.desk.inside.kept c.desk.inside.past)) (ap (λ (e : EndingView). e.row.row) c.ending.view_is) did

pub returns-clause-own : goal.returns-clause-own
returns-clause-own c = still_ending c.args.self.now c.args.desk.now (desk_view c.close_at.new.seat c.desk.inside.kept c.desk.inside.past) c.args.ending (Close c.args.ending.row.row) refl (λ r q. q) c.requires.ending (returns-clause-closed c) c.requires.own

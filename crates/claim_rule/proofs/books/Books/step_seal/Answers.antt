use Rattle.std.proofs.Common.{ℕ, ap, sym, ◌∙◌, subst, refl}
use Rattle.claim_rule.specs.Rule.{DeskView}
use Rattle.claim_rule.specs.Desks.{Stepped}
use Rattle.claim_rule.specs.Seats.{desk_view, CanSeal}
use Rattle.claim_rule.specs.Holds.{HoldView}
use Rattle.claim_rule.proofs.Desks.{steps_as}
use Rattle.claim_rule.proofs.Holding.{can_seal, still_alone}
use Rattle.claim_rule.proofs.books.Books.step_seal.Goals as goal
use Rattle.history_model.specs.declared.entry.Step.TheVariants.{Seal}

pub seal_at-requires-clause-ready : goal.seal_at-requires-clause-ready
seal_at-requires-clause-ready c =
    let lay = c.args.self.now.layout in
    subst (λ (x : DeskView × HoldView). CanSeal lay x.0.seen x.0.number x.1.row c.args.phase) (λ i. (sym c.desk.view_is i, sym c.hold.view_is i))
    (can_seal lay c.args.desk.now c.args.hold c.args.phase c.requires.own.layout c.requires.hold.0 c.requires.ready)

pub returns-clause-sealed : goal.returns-clause-sealed
returns-clause-sealed c =
    let did = steps_as c.args.self.now.layout (Seal c.hold.inside.row.row c.args.phase) c.desk.inside.seat c.seal_at.new.seat c.desk.inside.kept c.desk.inside.past c.args.desk.now c.desk.view_is (ap (λ (d : DeskView). d.layout) c.desk.view_is ∙ c.requires.own.layout) c.seal_at.ensures in
    subst (λ (r : ℕ). Stepped (Seal r c.args.phase) c.args.desk.now (desk_view c.seal_at.new.seat c.desk.inside.kept c.desk.inside.past)) (ap (λ (h : HoldView). h.row.row) c.hold.view_is) did

pub returns-clause-own : goal.returns-clause-own
returns-clause-own c = still_alone (Seal c.args.hold.row.row c.args.phase) c.args.self.now c.args.desk.now (desk_view c.seal_at.new.seat c.desk.inside.kept c.desk.inside.past) refl c.requires.hold.1 (returns-clause-sealed c) c.requires.own

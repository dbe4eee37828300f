use Rattle.std.proofs.Common.{sym, ap, ◌∙◌, subst}
use Rattle.claim_rule.specs.Rule.{DeskView}
use Rattle.claim_rule.specs.Holds.{HoldView, StandsFor}
use Rattle.claim_rule.specs.Desks.{IsOf}
use Rattle.claim_rule.specs.Seats.{desk_view}
use Rattle.claim_rule.proofs.Holding.{still_kept}
use Rattle.claim_rule.proofs.desk.Desk.keep.Goals as goal

pub returns-clause-own : goal.returns-clause-own
returns-clause-own c books of =
    let desk = desk_view c.self.inside.seat c.self.inside.kept c.self.inside.past in
    let hold : HoldView = record { row = c.hold.inside.row; items = c.hold.inside.items.items } in
    still_kept books desk hold (subst (λ (x : DeskView × HoldView). StandsFor x.0 x.1) (λ i. (sym c.self.view_is i, sym c.hold.view_is i)) c.requires.hold.0)
    (ap (λ (h : HoldView). h.items) c.hold.view_is ∙ c.requires.empty) (subst (IsOf books) (sym c.self.view_is) of)

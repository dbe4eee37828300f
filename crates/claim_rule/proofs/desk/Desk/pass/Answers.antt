use Rattle.std.proofs.Common.{◌≤◌, sym, subst}
use Rattle.claim_rule.specs.Rule.{DeskView}
use Rattle.claim_rule.specs.Desks.{AreTaken, IsOf}
use Rattle.claim_rule.specs.Seats.{desk_view}
use Rattle.claim_rule.proofs.Holding.{still_past}
use Rattle.claim_rule.proofs.desk.Desk.pass.Goals as goal

pub returns-clause-own : goal.returns-clause-own
returns-clause-own c books of =
    still_past books (desk_view c.self.inside.seat c.self.inside.kept c.self.inside.past) c.args.row (subst (λ (d : DeskView). AreTaken d c.args.row) (sym c.self.view_is) c.requires.taken)
    (subst (λ (d : DeskView). c.args.row ≤ d.layout.rows) (sym c.self.view_is) c.requires.within) (subst (IsOf books) (sym c.self.view_is) of)

use Rattle.std.proofs.Common.{sym, subst}
use Rattle.claim_rule.specs.Holds.{HoldView}
use Rattle.claim_rule.specs.Desks.{IsOf}
use Rattle.claim_rule.specs.Seats.{desk_view}
use Rattle.claim_rule.specs.Out.{HoldsNone}
use Rattle.claim_rule.proofs.Holding.{still_unkept, unkept_holding}
use Rattle.claim_rule.proofs.desk.Desk.kept.Goals as goal

pub returns-clause-own : goal.returns-clause-own
returns-clause-own c books of = still_unkept books (desk_view c.self.inside.seat c.self.inside.kept c.self.inside.past) (subst (IsOf books) (sym c.self.view_is) of)

pub returns-clause-holding : goal.returns-clause-holding
returns-clause-holding c books of none =
    let hold : HoldView = record { row = c.in_ok-row.row; items = c.new.result.items } in
    unkept_holding books (desk_view c.self.inside.seat c.self.inside.kept c.self.inside.past) c.in_ok-row.row hold c.in_ok-row.was (λ i. record { row = c.in_ok-row.row; items = c.new.ensures i })
    (subst (IsOf books) (sym c.self.view_is) of) (subst HoldsNone (sym c.self.view_is) none)

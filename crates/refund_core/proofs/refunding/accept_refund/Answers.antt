use Rattle.std.proofs.Common.{rules, ◌≡◌, ◌≢◌, ◌≤◌, ℕ, Bool, true, false, Some, refl, sym, subst, ap, ◌∙◌}
use Rattle.history_model.specs.declared.phase.Phase.{Phase as PhaseShown}
use Rattle.history_model.specs.declared.phase.EndKind.TheVariants.{Refund}
use Rattle.booking_rows.specs.declared.turns.Aim.TheVariants as aim
use Rattle.booking_rows.specs.Views.{RowSeen}
use Rattle.claim_rule.specs.Calls.{AddsStepsBy}
use Rattle.claim_rule.proofs.Out.{holds_then}
use Rattle.confirm_core.specs.RowEnds.{EndsBooking}
use Rattle.refund_core.specs.Quotes.{phase_named}
use Rattle.refund_core.proofs.RefundSteps.{may_refund, none_refunded, wrong_refund, refunds, gives_refund_away, loses_refund, ended_bound, lost_bound}
use Rattle.refund_core.proofs.refunding.accept_refund.Goals as goal

pub returns-in_default-clause-entries : goal.returns-in_default-clause-entries
returns-in_default-clause-entries c =
    none_refunded c.args.cat.now c.args.books.now.layout.rows c.args.retailer.0 c.args.now c.args.code.now c.args.desk.now c.find_booking.new.desk (sym c.is_stale.ensures.stale ∙ c.if-is_stale.false) c.in_default.ensures.entries

pub returns-in_default-clause-none : goal.returns-in_default-clause-none
returns-in_default-clause-none c = c.find_booking.ensures.endings.none c.requires.none

pub returns-then-refund_at-code-clause-none : goal.returns-then-refund_at-code-clause-none
returns-then-refund_at-code-clause-none c = c.find_booking.ensures.endings.none c.requires.none

pub returns-then-not-is_named-clause-entries : goal.returns-then-not-is_named-clause-entries
returns-then-not-is_named-clause-entries c =
    let other : c.view.inside.phase ≢ phase_named c.args.code.now.fulfilled = λ e. let no : ◌≡◌ {A = Bool} false true = sym c.if-not-is_named.true ∙ c.is_named.ensures.named.1 e in cc in
    wrong_refund c.args.cat.now c.args.books.now.layout.rows c.args.retailer.0 c.args.now c.args.code.now c.in-Some.view c.view.inside.phase c.args.desk.now c.find_booking.new.desk
    (sym c.is_stale.ensures.stale ∙ c.if-is_stale.false) (sym c.if-refund_at-code.false ∙ c.refund_at.ensures.value) (ap (λ (v : RowSeen). v.phase) (sym c.view.view_is)) other
    c.in-Some.ensures.entries

pub returns-then-not-is_named-clause-none : goal.returns-then-not-is_named-clause-none
returns-then-not-is_named-clause-none c = c.find_booking.ensures.endings.none c.requires.none

pub end_row-requires-clause-turn : goal.end_row-requires-clause-turn
end_row-requires-clause-turn c =
    let years : c.args.now ≤ 4102444799 = search rules in
    may_refund c.args.books.now.layout c.find_booking.new.desk c.args.code.now.row c.phase_named-from.result c.args.code.now.fulfilled c.args.now c.args.code.now.amount c.phase_named-from.ensures.phase c.find_booking.ensures.own.layout
    c.in-Some.ensures.entries.1.0 years (subst (λ (n : ℕ). n ≤ 99999999999) c.if-refund_at-code.false c.refund_at.ensures.most) c.in-Some.ensures.sealed

pub end_row-requires-clause-none : goal.end_row-requires-clause-none
end_row-requires-clause-none c = c.find_booking.ensures.endings.none c.requires.none

pub returns-in_default-end_row-clause-entries : goal.returns-in_default-end_row-clause-entries
returns-in_default-end_row-clause-entries c =
    refunds c.args.cat.now c.args.books.now.layout.rows c.args.retailer.0 c.args.now c.args.code.now c.in-Some.view c.phase_named-from.result c.args.desk.now c.find_booking.new.desk c.end_row.new.desk
    (sym c.is_stale.ensures.stale ∙ c.if-is_stale.false) (sym c.if-refund_at-code.false ∙ c.refund_at.ensures.value) (ap (λ (v : RowSeen). v.phase) (sym c.view.view_is) ∙ c.is_named.ensures.named.0 c.if-not-is_named.false) c.phase_named-from.ensures.phase
    c.in-Some.ensures.entries (c.in_default-end_row.ensures.entries Refund refl)

pub returns-in_default-end_row-clause-refunded : goal.returns-in_default-end_row-clause-refunded
returns-in_default-end_row-clause-refunded c = c.in_default-end_row.ensures.ended Refund refl

pub returns-in_default-end_row-clause-holds : goal.returns-in_default-end_row-clause-holds
returns-in_default-end_row-clause-holds c = holds_then c.args.desk.now c.find_booking.new.desk c.end_row.new.desk c.find_booking.ensures.holds c.end_row.ensures.holds

pub returns-in_default-end_row-clause-bound : goal.returns-in_default-end_row-clause-bound
returns-in_default-end_row-clause-bound c =
    ended_bound c.args.code.now.row c.args.now c.args.code.now.amount c.phase_named-from.result c.args.desk.now c.find_booking.new.desk c.end_row.new.desk
    c.in-Some.ensures.entries.2.same.2 c.find_booking.ensures.bound (c.in_default-end_row.ensures.entries Refund refl)

pub returns-in-Free-clause-entries : goal.returns-in-Free-clause-entries
returns-in-Free-clause-entries c =
    gives_refund_away c.args.cat.now c.args.books.now.layout.rows c.args.retailer.0 c.args.now c.args.code.now c.in-Some.view c.phase_named-from.result c.args.desk.now c.find_booking.new.desk c.end_row.new.desk
    (sym c.is_stale.ensures.stale ∙ c.if-is_stale.false) (sym c.if-refund_at-code.false ∙ c.refund_at.ensures.value) (ap (λ (v : RowSeen). v.phase) (sym c.view.view_is) ∙ c.is_named.ensures.named.0 c.if-not-is_named.false) c.phase_named-from.ensures.phase
    c.in-Some.ensures.entries
    (subst (λ (p : PhaseShown). AddsStepsBy (EndsBooking c.args.code.now.row c.phase_named-from.result Refund (aim.Refund c.args.now c.args.code.now.amount) (Some p)) c.find_booking.new.desk c.end_row.new.desk) c.in-Free.is (c.in-Some-end_row.ensures.entries Refund refl))

pub returns-in-Free-clause-holds : goal.returns-in-Free-clause-holds
returns-in-Free-clause-holds c = holds_then c.args.desk.now c.find_booking.new.desk c.end_row.new.desk c.find_booking.ensures.holds c.end_row.ensures.holds

pub returns-in-Free-clause-bound : goal.returns-in-Free-clause-bound
returns-in-Free-clause-bound c =
    lost_bound c.args.code.now.row c.args.now c.args.code.now.amount c.phase_named-from.result c.in-Some-end_row.found c.args.desk.now c.find_booking.new.desk c.end_row.new.desk
    c.in-Some.ensures.entries.2.same.2 c.find_booking.ensures.bound (c.in-Some-end_row.ensures.entries Refund refl)

pub returns-clause-entries : goal.returns-clause-entries
returns-clause-entries c =
    loses_refund c.args.cat.now c.args.books.now.layout.rows c.args.retailer.0 c.args.now c.args.code.now c.in-Some.view c.phase_named-from.result c.in-Some-end_row.found c.args.desk.now c.find_booking.new.desk c.end_row.new.desk
    (sym c.is_stale.ensures.stale ∙ c.if-is_stale.false) (sym c.if-refund_at-code.false ∙ c.refund_at.ensures.value) (ap (λ (v : RowSeen). v.phase) (sym c.view.view_is) ∙ c.is_named.ensures.named.0 c.if-not-is_named.false) c.phase_named-from.ensures.phase c.in_default-found.not-Free
    c.in-Some.ensures.entries (c.in-Some-end_row.ensures.entries Refund refl)

pub returns-clause-holds : goal.returns-clause-holds
returns-clause-holds c = holds_then c.args.desk.now c.find_booking.new.desk c.end_row.new.desk c.find_booking.ensures.holds c.end_row.ensures.holds

pub returns-clause-bound : goal.returns-clause-bound
returns-clause-bound c =
    lost_bound c.args.code.now.row c.args.now c.args.code.now.amount c.phase_named-from.result c.in-Some-end_row.found c.args.desk.now c.find_booking.new.desk c.end_row.new.desk
    c.in-Some.ensures.entries.2.same.2 c.find_booking.ensures.bound (c.in-Some-end_row.ensures.entries Refund refl)

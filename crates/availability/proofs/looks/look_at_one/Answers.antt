use Rattle.std.proofs.Common.{ℕ, sym, subst}
use Rattle.leg_masks.specs.Interval.{Interval}
use Rattle.claim_rule.specs.Calls.{AddsStepsBy}
use Rattle.availability.specs.Looks.{CountsFree, HasLooked, row_from}
use Rattle.availability.proofs.Rows.{counted_one}
use Rattle.availability.proofs.looks.look_at_one.Goals as goal

pub returns-clause-entries : goal.returns-clause-entries
returns-clause-entries c =
    let look = c.look_free in
    let old = c.args.desk.now in
    let new = look.new.desk in
    let span = c.args.parts.now in
    subst (λ (n : ℕ). AddsStepsBy (CountsFree (row_from c.args.place 1) span n) old new) (sym c.from.ensures)
    (counted_one old new c.args.place span look.result (subst (λ (s : Interval). HasLooked (record { 0 = c.args.place }) s look.result old new) c.parts.view_is look.ensures.entries))

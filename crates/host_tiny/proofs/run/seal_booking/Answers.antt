use Rattle.std.proofs.Common.{◌∷◌, [], subst, length}
use Rattle.history_model.specs.declared.entry.Step.TheVariants.{Seal}
use Rattle.history_model.specs.declared.phase.Phase.TheVariants.{Prebooked}
use Rattle.claim_rule.specs.Holds.{HoldView}
use Rattle.claim_rule.specs.Desks.{AddsSteps}
use Rattle.booking_rows.specs.Notes.{detail_notes}
use Rattle.claim_rule.proofs.Shapes.{shape_then}
use Rattle.host_tiny.proofs.run.seal_booking.Goals as goal

pub returns-clause-entries : goal.returns-clause-entries
returns-clause-entries c =
    let old = c.args.desk.now in
    let mid = c.note_detail.new.desk in
    let new = c.seal-row.new.desk in
    let sealed : AddsSteps mid new (Seal c.args.hold.row.row Prebooked ∷ []) =
    subst (λ (h : HoldView). AddsSteps mid new (Seal h.row.row Prebooked ∷ [])) c.note_detail.ensures.same c.seal-row.ensures.entries in (
      1,
      c.no_limit.result,
      0,
      shape_then old mid new (detail_notes c.args.hold.row.row (record { retailer = record { 0 = 1 }; limit = c.no_limit.result; total = 0 }) (length c.args.hold.items)) (Seal c.args.hold.row.row Prebooked ∷ [])
          c.note_detail.ensures.entries sealed,
    )

-- A booking that was found has an id, and so has its successor; and so they have in another phase, or at an end without
-- one.
use Rattle.std.proofs.Common.{◌≡◌, ℕ, ◌≤◌, Some, sym, subst, arith}
use Rattle.history_model.specs.declared.phase.Phase.{Phase}
use Rattle.history_model.specs.declared.phase.EndKind.{EndKind}
use Rattle.history_model.specs.declared.booking.End.{End}
use Rattle.rail_ids.specs.declared.RowNo.{RowNo}
use Rattle.rail_ids.specs.Spelling.{last_generation}
use Rattle.claim_rule.specs.Rule.{DeskView}
use Rattle.claim_rule.specs.Calls.{AddsStepsBy}
use Rattle.booking_rows.specs.Views.{RowSeen}
use Rattle.refund_core.specs.Quotes.{FindsBooking}
use Rattle.osdm_texts.specs.Bookings.{HasIds}
use Rattle.booking_service.specs.Deciding.{in_phase, at_end}

pub found_ids : (rows : ℕ) (row : RowNo) (retailer : ℕ) (v : RowSeen) (old new : DeskView) → AddsStepsBy (FindsBooking rows row retailer (Some v)) old new → row.generation ≤ last_generation → HasIds row v
found_ids rows row retailer v old new did h = (h, did.1.1.1.0.successor)

pub phased_ids : (row : RowNo) (phase : Phase) (v w : RowSeen) → w ≡ in_phase phase v → row.generation ≤ last_generation → HasIds row w
phased_ids row phase v w is h = subst (λ (v : RowSeen). HasIds row v) (sym is) (h, tt)

pub ended_ids : (row : RowNo) (kind : EndKind) (end : End) (v w : RowSeen) → end.successor ≡ 0 → w ≡ at_end kind end v → row.generation ≤ last_generation → HasIds row w
ended_ids row kind end v w none is h = subst (λ (v : RowSeen). HasIds row v) (sym is) (h, omega arith)

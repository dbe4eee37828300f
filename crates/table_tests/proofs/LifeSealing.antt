-- A hold may be sealed as prebooked.
use Rattle.std.proofs.Common.{inl, refl}
use Rattle.history_model.specs.declared.phase.Phase.TheVariants.{Prebooked}
use Rattle.history_model.specs.Allowed.{MaySealAs}
use Rattle.history_model.proofs.Owners.{on_row}
use Rattle.claim_rule.specs.Holds.{HoldView}
use Rattle.claim_rule.specs.Out.{IsHolding, MaySealHold}
use Rattle.claim_rule.specs.Rule.{DeskView, state_seen}

pub may_prebook : (desk : DeskView) (hold : HoldView) → IsHolding desk hold → MaySealHold desk hold Prebooked
may_prebook desk hold is = on_row (state_seen desk) hold.row.row is.of.0.booking (λ b. MaySealAs (state_seen desk) desk.number b Prebooked) is.of.0.found (inl refl)

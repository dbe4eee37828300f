use Rattle.std.proofs.Common.{◌≡◌, [], ◌∷◌}
use Rattle.history_model.specs.Looks.{look_at}
use Rattle.claim_rule.specs.Rule.{DeskView}
use Rattle.claim_rule.specs.Desks.{IsOf, AddsSteps}
use Rattle.claim_rule.specs.Out.{IsHolding, HasNotedItems, KeepsEndings}
use Rattle.leg_masks.specs.Interval.{IsClear}
use Rattle.hold_core.proofs.Trying.{LookedFree}
use Rattle.hold_core.proofs.tries.take_shown.Given as goal

abbrev pub invariant-loop : goal.invariant-loop
invariant-loop l = record {
  own : IsOf l.books l.desk;
  hold : IsHolding l.desk l.hold;
  noted : HasNotedItems l.fn.desk l.fn.hold → HasNotedItems l.desk l.hold;
  endings : KeepsEndings l.fn.desk l.desk;
  same : l.hold ≡ l.fn.hold;
  clear : IsClear l.shown l.piece;
  looked : (before : DeskView) → AddsSteps before l.fn.desk (look_at l.place.0 l.piece l.first ∷ []) → LookedFree before l.desk l.place.0 l.piece l.counter l.shown;
}

-- A wall is closed as a desk's end leaves it.
use Rattle.std.proofs.Common.{◌≡◌, ◌≤◌, All, length, subst, sym}
use Rattle.leg_masks.specs.Interval.{most_legs, most_places}
use Rattle.history_model.specs.Booking.{Layout}
use Rattle.history_model.specs.History.{IsLegal, state_of}
use Rattle.history_model.specs.Words.{AreWordsOf}
use Rattle.claim_rule.specs.Rule.{DeskView}
use Rattle.claim_rule.specs.Walls.{Finishes, WallView}
use Rattle.cold_store.specs.Exports.{IsClosed}

pub closed_at : (w : WallView) (layout : Layout) (desk : DeskView) → w.layout ≡ layout
    → Finishes layout desk w.words w.history → length layout.legs ≤ most_places → All (λ n. n ≤ most_legs) layout.legs
    → IsClosed w
closed_at w layout desk same ends places legs = record {
  legal = subst (λ (g : Layout). IsLegal g w.history) (sym same) ends.legal;
  are = subst (λ (g : Layout). AreWordsOf g (state_of g w.history) w.words) (sym same) ends.are;
  places = subst (λ (g : Layout). length g.legs ≤ most_places) (sym same) places;
  legs = subst (λ (g : Layout). All (λ n. n ≤ most_legs) g.legs) (sym same) legs;
}

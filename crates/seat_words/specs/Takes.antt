-- What a try to take legs answers, with its entry.
use Rattle.std.specs.Prelude.{◌≡◌, ◌≢◌, ℕ, [], ◌∷◌}
use Rattle.leg_masks.specs.Interval.{Interval, IsClear}
use Rattle.history_model.specs.declared.entry.Step.TheVariants.{Take as TakeStep}
use Rattle.history_model.specs.Looks.{look_at}
use Rattle.claim_rule.specs.Rule.{DeskView}
use Rattle.claim_rule.specs.Desks.{AddsSteps}
use Rattle.claim_rule.specs.Holds.{HoldView, with_one}
use Rattle.seat_words.specs.declared.Take.{Take}
use Rattle.seat_words.specs.declared.Take.TheVariants.{Won, Taken, Moving}

-- won: the legs are the hold's; else one look showed another word than the one expected, taken on the span or not
abbrev pub HasTried : DeskView → HoldView → ℕ → Interval → ℕ → DeskView → HoldView → Take → Type 0
HasTried old hold place span expected new held Won =
    AddsSteps old new (TakeStep hold.row.row place span ∷ [])
    × (held ≡ with_one hold (record { place = place; span = span }))
HasTried old hold place span expected new held (Taken n) =
    AddsSteps old new (look_at place span n ∷ []) × (n ≢ expected) × (held ≡ hold) × (¬ IsClear n span)
HasTried old hold place span expected new held (Moving n) =
    AddsSteps old new (look_at place span n ∷ []) × (n ≢ expected) × (held ≡ hold) × IsClear n span

-- What a take answers.
use Rattle.std.specs.Prelude.{◌≡◌, ◌≢◌, ℕ}
use Rattle.leg_masks.specs.Interval.{PlacedSpan as Item}
use Rattle.history_model.specs.declared.entry.Step.TheVariants.{Take}
use Rattle.history_model.specs.Looks.{look_at}
use Rattle.claim_rule.specs.Rule.{DeskView}
use Rattle.claim_rule.specs.Holds.{HoldView, with_one}
use Rattle.claim_rule.specs.Desks.{Stepped}

-- the item is taken, and is now the hold's last
abbrev pub HasTaken : Item → DeskView → HoldView → DeskView → HoldView → Type 0
HasTaken item old before new after =
    Stepped (Take before.row.row item.place item.span) old new × (after ≡ with_one before item)

-- the word of the item's half was another than the expected one, and the hold is the same
abbrev pub HasMissed : Item → ℕ → ℕ → DeskView → HoldView → DeskView → HoldView → Type 0
HasMissed item expected shown old before new after =
    (shown ≢ expected) × Stepped (look_at item.place item.span shown) old new × (after ≡ before)

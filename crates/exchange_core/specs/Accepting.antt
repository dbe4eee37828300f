-- Carrying an exchange out.
use Rattle.std.specs.Prelude.{◌≡◌, ◌≤◌, List, ◌∷◌, ◌++◌, length}
use Rattle.leg_masks.specs.Interval.{PlacedSpan as Item}
use Rattle.history_model.specs.declared.booking.End.{End}
use Rattle.history_model.specs.declared.entry.Step.{Step}
use Rattle.history_model.specs.declared.entry.Step.TheVariants.{Seal}
use Rattle.history_model.specs.declared.phase.Phase.TheVariants.{Confirmed, Ending}
use Rattle.history_model.specs.declared.phase.EndKind.TheVariants.{Exchange}
use Rattle.history_model.specs.Booking.{most_items, successor_word}
use Rattle.history_model.specs.WholeEnds.{end_at, end_turn}
use Rattle.rail_ids.specs.declared.RowNo.{RowNo}
use Rattle.claim_rule.specs.Rule.{DeskView}
use Rattle.claim_rule.specs.Holds.{HoldView}
use Rattle.claim_rule.specs.Endings.{items_read}
use Rattle.claim_rule.specs.EndSteps.{ending_steps}
use Rattle.booking_rows.specs.Aims.{LosesTurn}
use Rattle.booking_rows.specs.Ends.{IsEndedAs}
use Rattle.refund_core.specs.Quotes.{phase_named}
use Rattle.exchange_core.specs.Ready.{ReadyView}
use Rattle.exchange_core.specs.declared.accepting.Exchanged.{Exchanged}
use Rattle.exchange_core.specs.declared.accepting.Exchanged.TheVariants.{Done, WrongState}

-- the end of the old booking: its moment is that of the check, and its successor the new booking
abbrev pub exchange_end : ReadyView → RowNo → End
exchange_end ready successor =
    end_at ready.moment ready.code.difference (successor_word successor.row successor.generation)

-- the old booking is turned from the phase that the code names, and its items are read; the new one is sealed; the old
-- one is ended
abbrev pub exchange_steps : ReadyView → RowNo → List Item → List Step
exchange_steps ready successor items =
    end_turn ready.code.row.row (phase_named ready.code.fulfilled) (Ending Exchange) (exchange_end ready successor)
    ∷ items_read ready.code.row.row items ++ Seal successor.row Confirmed
    ∷ ending_steps ready.code.row.row Exchange (exchange_end ready successor) items

-- the steps of an exchange for a hold of this booking, by what it answers
abbrev pub AcceptsExchange : ReadyView → RowNo → Exchanged → List Step → Type 0
AcceptsExchange ready successor (Done new difference) es =
    (new ≡ successor) × (difference ≡ ready.code.difference)
    × ((items : List Item) × (length items ≤ most_items) × (es ≡ exchange_steps ready successor items))
AcceptsExchange ready successor (WrongState shown hold) es =
    LosesTurn ready.code.row (phase_named ready.code.fulfilled) shown es

-- what holds where the exchange was carried out, and of the hold where its turn was lost
abbrev pub OnDone : Exchanged → Type 0 → Type 0
OnDone (Done new difference) P = P
OnDone (WrongState shown hold) P = Unit {0}

abbrev pub OnLost : Exchanged → (HoldView → Type 0) → Type 0
OnLost (Done new difference) P = Unit {0}
OnLost (WrongState shown hold) P = P hold

-- the booking has ended by exchange with this end, and all its items are given back
abbrev pub IsExchanged : DeskView → RowNo → End → Type 0
IsExchanged desk row end = IsEndedAs desk row Exchange end

-- What is there again of what was answered.
use Rattle.std.specs.Prelude.{length, List}
use Rattle.history_model.specs.declared.entry.Entry.{Entry}
use Rattle.history_model.specs.Booking.{Layout}
use Rattle.history_model.specs.History.{state_of}
use Rattle.claim_rule.specs.Walls.{WallView}
use Rattle.cold_store.specs.Imports.{OpensAs}
use Rattle.row_cuts.specs.Cuts.{Cut, folded_text}
use Rattle.row_cuts.specs.Told.{EndsAt, HasAllOf}
use Rattle.host_journal.specs.Moments.{Moment, TakenCut}
use Rattle.host_journal.specs.Ahead.{HasWritten, IsKeptAnswer, OnlyLooked}

-- Books that open with the fold of the cuts up to this one have all bookings of what was told. The wall is the one that
-- the books would have been closed to while the rows were looked at for this cut
abbrev pub IsThereAgain : TakenCut → List Entry → Type 0
IsThereAgain cut told =
    (w : WallView) (cuts : List Cut) (opened : Layout) → EndsAt w cuts → OnlyLooked cut.began w.history
    → OpensAs w.layout.legs w.layout.rows (folded_text (length w.layout.legs) w.layout.rows cuts) opened
    → HasAllOf (state_of w.layout told) opened.opening

-- of each answer whose cut is kept the journal has a cut with which all that was told is there again
abbrev pub AnswersAreThereAgain : Type 0
AnswersAreThereAgain =
    (later : Moment) (told : List Entry) → IsKeptAnswer later told → HasWritten later (λ c. IsThereAgain c told)

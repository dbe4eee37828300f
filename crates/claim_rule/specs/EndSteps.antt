-- The steps that end a row.
use Rattle.std.specs.Prelude.{ℕ, zero, suc, List, [], ◌∷◌, ◌++◌, length}
use Rattle.leg_masks.specs.Interval.{PlacedSpan as Item}
use Rattle.history_model.specs.declared.booking.End.{End}
use Rattle.history_model.specs.declared.entry.Step.{Step}
use Rattle.history_model.specs.declared.entry.Step.TheVariants.{Give, Note, Close}
use Rattle.history_model.specs.declared.phase.EndKind.{EndKind}
use Rattle.history_model.specs.Booking.{amount_word, end_successor_word, end_amount_word, end_moment_word}

-- this number of gives of a row's items, from the item of the second number on
abbrev pub gives_from : ℕ → ℕ → ℕ → List Step
gives_from row item zero = []
gives_from row item (suc more) = Give row item ∷ gives_from row (suc item) more

-- the notes of the end's words, and the close
abbrev pub closing : ℕ → EndKind → End → List Step
closing row kind end =
    Note row end_successor_word end.successor ∷ Note row end_amount_word (amount_word kind end.amount)
    ∷ Note row end_moment_word end.moment ∷ Close row ∷ []

-- all items are given back, the end is noted, and the row closed
abbrev pub ending_steps : ℕ → EndKind → End → List Item → List Step
ending_steps row kind end items = gives_from row 0 (length items) ++ closing row kind end

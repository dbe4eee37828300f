-- Looks at the words of places, and entries that change such a word.
use Rattle.std.specs.Prelude.{◌≡◌, ◌≢◌, ℕ, List, [], ◌∷◌, ◌++◌}
use Rattle.leg_masks.specs.Interval.{Interval, half_of}
use Rattle.history_model.specs.declared.entry.Entry.{Entry}
use Rattle.history_model.specs.declared.entry.Step.{Step}
use Rattle.history_model.specs.declared.entry.Step.TheVariants.{Look}
use Rattle.history_model.specs.Booking.{Layout}
use Rattle.history_model.specs.History.{state_of}
use Rattle.history_model.specs.Words.{place_word}

-- the look at the word of a place that has the piece's legs, which shows this word
abbrev pub look_at : ℕ → Interval → ℕ → Step
look_at place piece shown = Look place (half_of piece) shown

-- after this history, one of the entries changes the word of this half of the place
abbrev pub ChangesPlace : Layout → List Entry → ℕ → ℕ → List Entry → Type 0
ChangesPlace g history place half entries =
    (front : List Entry) × (change : Entry) × (back : List Entry) × (entries ≡ front ++ change ∷ back)
    × (place_word (state_of g ((history ++ front) ++ change ∷ [])) place half
    ≢ place_word (state_of g (history ++ front)) place half)

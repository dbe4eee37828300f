-- Why looks at one place show unlike words.
use Rattle.std.specs.Prelude.{◌≡◌, ◌≢◌, ℕ, List, [], ◌∷◌, ◌++◌}
use Rattle.history_model.specs.declared.entry.Entry.{Entry}
use Rattle.history_model.specs.declared.entry.Step.TheVariants.{Look}
use Rattle.history_model.specs.Booking.{Layout}
use Rattle.history_model.specs.History.{entry, state_of}
use Rattle.history_model.specs.Words.{place_word}

-- after this history, one of the entries is another desk's and changes the word of this half of the place
abbrev pub IsChangedByAnother : Layout → List Entry → ℕ → ℕ → ℕ → List Entry → Type 0
IsChangedByAnother g history place half desk entries =
    (front : List Entry) × (change : Entry) × (back : List Entry) × (entries ≡ front ++ change ∷ back)
    × (change.desk ≢ desk)
    × (place_word (state_of g ((history ++ front) ++ change ∷ [])) place half ≢ place_word
    (state_of g (history ++ front)) place half)

-- after this history the entries hold the desk's looks at this half of the place, which show these words in turn;
-- between each two neighbouring looks stands an entry of another desk that changes the word
abbrev pub ChangesBetween : Layout → List Entry → ℕ → ℕ → ℕ → List Entry → List ℕ → Type 0
ChangesBetween g history place half desk entries [] = Unit {0}
ChangesBetween g history place half desk entries (a ∷ []) = Unit {0}
ChangesBetween g history place half desk entries (a ∷ b ∷ more) =
    (front : List Entry) × (between : List Entry) × (back : List Entry)
    × (entries ≡ front ++ entry desk (Look place half a) ∷ (between ++ entry desk (Look place half b) ∷ back))
    × IsChangedByAnother g ((history ++ front) ++ entry desk (Look place half a) ∷ []) place half desk between
    × ChangesBetween g ((history ++ front) ++ entry desk (Look place half a) ∷ between) place half desk
    (entry desk (Look place half b) ∷ back) (b ∷ more)

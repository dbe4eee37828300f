-- What a journal keeps, where it tells it.
use Rattle.std.specs.Prelude.{◌≡◌, ◌⊎◌, ◌≤◌, ◌<◌, ℕ, Bool, true, false, List, [], length, take, Option, option_map, ⊤}
use Rattle.rail_io.specs.Told.{with_end}
use Rattle.rail_io.specs.declared.journal.JournalOpened.{JournalOpened}
use Rattle.rail_io.specs.declared.journal.JournalOpened.TheVariants.{Text, Missing, TooLarge, Locked, Failed, NoMemory}

-- What the opening of a journal with these bytes answers, where there is room for this number of bytes.
abbrev pub Opens : List ℕ → ℕ → JournalOpened → Type 0
Opens kept room (Text text) = (kept ≡ text.items) × (length text.items ≤ room)
Opens kept room Missing = kept ≡ []
Opens kept room TooLarge = room < length kept
Opens kept room Locked = ⊤
Opens kept room Failed = ⊤
Opens kept room NoMemory = ⊤

-- this text, where the journal tells what it keeps
abbrev pub instead : Option (List ℕ) → List ℕ → Option (List ℕ)
instead told text = option_map (λ kept. text) told

-- What is kept after a text was to stand for all: the text; or, where that failed, the one or the other.
abbrev pub Replaces : Option (List ℕ) → Option (List ℕ) → List ℕ → Bool → Type 0
Replaces before after text true = after ≡ instead before text
Replaces before after text false = (after ≡ before) ⊎ (after ≡ instead before text)

-- What is kept after a piece was to be appended: all of it too; or, where that failed, its first bytes, maybe none.
abbrev pub Appends : Option (List ℕ) → Option (List ℕ) → List ℕ → Bool → Type 0
Appends before after piece true = after ≡ with_end before piece
Appends before after piece false = (n : ℕ) × (n ≤ length piece) × (after ≡ with_end before (take n piece))

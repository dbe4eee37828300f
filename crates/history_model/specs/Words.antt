-- The words that a state shows.
use Rattle.std.specs.Prelude.{ℕ, zero, suc, ◌+◌, ◌^◌, ◌==◌, Bool, if◌then◌else◌, ◌≡◌, ◌*◌, ◌<◌, List, length, slice_index}
use Rattle.std.specs.Option.{option_map_or}
use Rattle.leg_masks.specs.Interval.{word_legs, halves, leg_of}
use Rattle.history_model.specs.declared.word.Word.{Word}
use Rattle.history_model.specs.declared.word.Word.TheVariants.{Place, Row}
use Rattle.history_model.specs.Phase.{row_word_of}
use Rattle.history_model.specs.Booking.{Layout, row_words, State, present, word_at, is_occupied, standing_word}

-- the number with exactly those bits below n that pass
unfoldable pub number_of_bits : (ℕ → Bool) → ℕ → ℕ
number_of_bits test zero = 0
number_of_bits test (suc n) = number_of_bits test n + (if test n then 2 ^ n else 0)

-- the word of a half of a place: the occupied legs of that half as bits
abbrev pub place_word : State → ℕ → ℕ → ℕ
place_word s place half = number_of_bits (λ bit. is_occupied s place (leg_of half bit)) word_legs

-- word w of a row: the phase and generation of its present booking, or a word of it
abbrev pub row_word : State → ℕ → ℕ → ℕ
row_word s row w =
    option_map_or (λ b. if w == standing_word then row_word_of b.phase b.generation else word_at b w) (present s row) 0

-- how many words the places have
abbrev pub place_words : Layout → ℕ
place_words g = halves * length g.legs

-- the number of the word of a half of a place in the table of words
abbrev pub place_number : ℕ → ℕ → ℕ
place_number place half = halves * place + half

-- the number of word w of a row
abbrev pub row_number : Layout → ℕ → ℕ → ℕ
row_number g row w = place_words g + (row_words * row + w)

abbrev pub index : Layout → Word → ℕ
index g (Place place half) = place_number place half
index g (Row row w) = row_number g row w

abbrev pub IsWord : Layout → Word → Type 0
IsWord g (Place place half) = (place < length g.legs) × (half < halves)
IsWord g (Row row w) = (row < g.rows) × (w < row_words)

-- how many words there are
abbrev pub word_count : Layout → ℕ
word_count g = place_words g + row_words * g.rows

-- what a state has in a word
abbrev pub value : State → Word → ℕ
value s (Place place half) = place_word s place half
value s (Row row w) = row_word s row w

-- the words are those of the state
pub record AreWordsOf (g : Layout) (s : State) (words : List ℕ) : Type 0 where
  pub length_is : length words ≡ word_count g
  pub each : (a : Word) → IsWord g a → slice_index words (index g a) ≡ value s a

-- the word a of the second state has n, and the others are as in the first
pub record Writes (s t : State) (a : Word) (n : ℕ) : Type 0 where
  pub here : value t a ≡ n
  pub rest : (b : Word) → (b ≡ a → ⊥) → value t b ≡ value s b

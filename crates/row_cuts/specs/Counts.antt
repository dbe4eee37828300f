-- What a count of rows and of places is.
use Rattle.std.specs.Prelude.{◌≡◌, ◌≤◌, ℕ, suc, ◌+◌, ◌/◌, ◌%◌, Bool, true, false, List, [], ◌∷◌, count_by, length, max}
use Rattle.history_model.specs.declared.entry.Step.{Step}
use Rattle.history_model.specs.declared.entry.Step.TheVariants.{SawRow}
use Rattle.history_model.specs.declared.phase.Phase.{Phase}
use Rattle.history_model.specs.declared.phase.Phase.TheVariants.{Free, Making, Prebooked, Confirmed, Fulfilled, Ending, Ended}
use Rattle.history_model.specs.Booking.{standing_word}
use Rattle.history_model.specs.Phase.{generation_words, said_phase}
use Rattle.row_cuts.specs.declared.counts.RowCount.{RowCount}

-- the phase that a look at word 0 of a row showed, and the generation, which is 0 where none has begun
abbrev pub phase_in : ℕ → Phase
phase_in word = said_phase (word % generation_words)

abbrev pub generation_by : Phase → ℕ → ℕ
generation_by Free word = 0
generation_by _ word = word / generation_words

abbrev pub generation_in : ℕ → ℕ
generation_in word = generation_by (phase_in word) word

-- one look at word 0 of each row, in rising number from one on, and the words that they showed
abbrev pub standing_looks : ℕ → List ℕ → List Step
standing_looks row [] = []
standing_looks row (word ∷ words) = SawRow row standing_word word ∷ standing_looks (suc row) words

abbrev pub is_free : Phase → Bool
is_free Free = true
is_free _ = false

abbrev pub is_making : Phase → Bool
is_making Making = true
is_making _ = false

abbrev pub is_prebooked : Phase → Bool
is_prebooked Prebooked = true
is_prebooked _ = false

abbrev pub is_confirmed : Phase → Bool
is_confirmed Confirmed = true
is_confirmed _ = false

abbrev pub is_fulfilled : Phase → Bool
is_fulfilled Fulfilled = true
is_fulfilled _ = false

abbrev pub is_ending : Phase → Bool
is_ending (Ending _) = true
is_ending _ = false

abbrev pub has_ended : Phase → Bool
has_ended (Ended _) = true
has_ended _ = false

-- how many of the words show such a phase
abbrev pub how_many : (Phase → Bool) → List ℕ → ℕ
how_many is words = count_by (λ word. is (phase_in word)) words

-- the greatest of the generations
abbrev pub greatest_in : List ℕ → ℕ
greatest_in [] = 0
greatest_in (word ∷ words) = max (generation_in word) (greatest_in words)

-- the count is that of these words
pub record IsCountOf (words : List ℕ) (count : RowCount) : Type 0 where
  pub never_used : count.never_used ≡ how_many is_free words
  pub making : count.making ≡ how_many is_making words
  pub prebooked : count.prebooked ≡ how_many is_prebooked words
  pub confirmed : count.confirmed ≡ how_many is_confirmed words
  pub fulfilled : count.fulfilled ≡ how_many is_fulfilled words
  pub ending : count.ending ≡ how_many is_ending words
  pub ended : count.ended ≡ how_many has_ended words
  pub greatest : count.greatest_generation ≡ greatest_in words

-- one look at each row, in order; the count is that of what they showed
pub record CountsRows (rows : ℕ) (count : RowCount) (es : List Step) : Type 0 where
  pub words : List ℕ
  pub every : length words ≡ rows
  pub steps : es ≡ standing_looks 0 words
  pub counts : IsCountOf words count

-- the look at one row showed a word of this phase and this generation
abbrev pub ShowsRow : ℕ → Phase → ℕ → List Step → Type 0
ShowsRow row phase generation es =
    (word : ℕ) × (phase_in word ≡ phase) × (generation_in word ≡ generation) × (es ≡ SawRow row standing_word word ∷ [])

-- one row more of this phase
abbrev pub with_one : Phase → RowCount → RowCount
with_one Free n = record n { never_used = n.never_used + 1 }
with_one Making n = record n { making = n.making + 1 }
with_one Prebooked n = record n { prebooked = n.prebooked + 1 }
with_one Confirmed n = record n { confirmed = n.confirmed + 1 }
with_one Fulfilled n = record n { fulfilled = n.fulfilled + 1 }
with_one (Ending _) n = record n { ending = n.ending + 1 }
with_one (Ended _) n = record n { ended = n.ended + 1 }

-- and of this generation
abbrev pub with_row : Phase → ℕ → RowCount → RowCount
with_row phase generation n =
    record (with_one phase n) { greatest_generation = max generation n.greatest_generation }

-- no count of rows is greater than this
abbrev pub AreFew : RowCount → ℕ → Type 0
AreFew n k =
    (n.never_used ≤ k) × (n.making ≤ k) × (n.prebooked ≤ k) × (n.confirmed ≤ k) × (n.fulfilled ≤ k) × (n.ending ≤ k)
    × (n.ended ≤ k)

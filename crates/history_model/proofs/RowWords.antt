-- What words that are those of a state say of a row.
use Rattle.std.proofs.Common.{◌≡◌, ◌∙◌, ℕ, ◌<◌, List, Option, Some, None, refl, sym, ap, arith}
use Rattle.std.specs.Prelude.{slice_get}
use Rattle.std.specs.Option.{option_map_or}
use Rattle.std.proofs.lemmas.Option.{get_or_from_slice_get}
use Rattle.history_model.specs.declared.phase.Phase.TheVariants.{Free}
use Rattle.history_model.specs.declared.word.Word.TheVariants.{Row}
use Rattle.history_model.specs.Allows.{IsNoRowWord}
use Rattle.history_model.specs.Booking.{Booking, Layout, State, present, row_words}
use Rattle.history_model.specs.Laws.{IsWellFormed}
use Rattle.history_model.specs.Phase.{row_word_of}
use Rattle.history_model.specs.Words.{AreWordsOf, row_number, row_word}
use Rattle.history_model.proofs.Writing.{sound_of}

-- the word that stands there
pub word_there : (g : Layout) (s : State) (words : List ℕ) (row word n : ℕ) → AreWordsOf g s words → row < g.rows → word < row_words
    → slice_get words (row_number g row word) ≡ Some n → n ≡ row_word s row word
word_there g s words row word n are within some is = sym (get_or_from_slice_get words (row_number g row word) n 0 is) ∙ are.each (Row row word) (within, some)

-- word 0 of a row is that of a phase
pub some_phase : (g : Layout) (s : State) (row : ℕ) → IsWellFormed g s → ¬ IsNoRowWord (row_word s row 0)
some_phase g s row good none = go (present s row) refl
  where
    go : (o : Option Booking) → present s row ≡ o → ⊥
    go None e = none Free 0 (omega arith) (sym (ap (λ (p : Option Booking). option_map_or (λ (b : Booking). row_word_of b.phase b.generation) p 0) e))
    go (Some b) e =
        let fits = (sound_of g s row b good e).generation in
        none b.phase b.generation (omega (arith, fits)) (sym (ap (λ (p : Option Booking). option_map_or (λ (b : Booking). row_word_of b.phase b.generation) p 0) e))

use Rattle.std.proofs.Common.{◌≡◌, ◌∙◌, ◌<◌, refl, ℕ, false, Option, Some, None, ap, sym, arith}
use Rattle.std.specs.Option.{option_map_or}
use Rattle.std.proofs.lemmas.Option.{get_or_from_slice_get}
use Rattle.history_model.specs.declared.phase.Phase.{Phase}
use Rattle.history_model.specs.declared.phase.Phase.TheVariants.{Free}
use Rattle.history_model.specs.Phase.{is_live, row_word_of}
use Rattle.history_model.specs.History.{state_of}
use Rattle.history_model.specs.Booking.{Booking, State, present, phase_of_row, row_words}
use Rattle.history_model.specs.Words.{AreWordsOf, row_word, row_number}
use Rattle.std.specs.Prelude.{slice_get}
use Rattle.claim_rule.specs.Walls.{WallView}
use Rattle.history_model.specs.declared.word.Word.TheVariants.{Row}
use Rattle.std.specs.List.{AllByRecursion}
use Rattle.history_model.specs.Booking.{Layout}
use Rattle.history_model.specs.Allows.{IsNoRowWord}
use Rattle.history_model.specs.Laws.{IsSound}
use Rattle.history_model.proofs.Ranges.{all_found}
use Rattle.history_model.proofs.PhaseWords.{row_word_same}
use Rattle.claim_rule.proofs.Moves.{is_sound}
use Rattle.host_drill.proofs.counts.is_sold.Goals as goal

-- the phase and generation that a row's word says are those of its present booking
said : (s : State) (row : ℕ) (phase : Phase) (generation : ℕ) → row_word_of phase generation ≡ row_word s row 0 → phase ≡ phase_of_row s row
said s row phase generation is = go (present s row) is where
  go : (o : Option Booking) → row_word_of phase generation ≡ option_map_or (λ (b : Booking). row_word_of b.phase b.generation) o 0 → phase ≡ option_map_or (λ (b : Booking). b.phase) o Free
  go None e = (row_word_same phase Free generation 0 e).0
  go (Some b) e = (row_word_same phase b.phase generation b.generation e).0

-- the word of a row is that of a phase, so a word that isn't leaves no live booking
unsaid : (g : Layout) (s : State) (row word : ℕ) → AllByRecursion (IsSound g) s → word ≡ row_word s row 0 → IsNoRowWord word → false ≡ is_live (phase_of_row s row)
unsaid g s row word sound is none = go (present s row) refl where
  go : (o : Option Booking) → present s row ≡ o → false ≡ is_live (phase_of_row s row)
  go None e = sym (ap (λ (p : Option Booking). is_live (option_map_or (λ (b : Booking). b.phase) p Free)) e)
  go (Some b) e =
      let fits = (all_found (IsSound g) s row b sound e).generation in
      let there : row_word_of b.phase b.generation ≡ word = sym (is ∙ ap (λ (p : Option Booking). option_map_or (λ (b : Booking). row_word_of b.phase b.generation) p 0) e) in
      absurd (none b.phase b.generation (omega (arith, fits)) there)

-- the word that the wall has there
word_there : (wall : WallView) (row n : ℕ) → AreWordsOf wall.layout (state_of wall.layout wall.history) wall.words → row < wall.layout.rows → slice_get wall.words (row_number wall.layout row 0) ≡ Some n
    → n ≡ row_word (state_of wall.layout wall.history) row 0
word_there wall row n words within is =
    let some : 0 < row_words = omega arith in
    sym (get_or_from_slice_get wall.words (row_number wall.layout row 0) n 0 is) ∙ words.each (Row row 0) (within, some)

pub returns-in-Some-read_row_word : goal.returns-in-Some-read_row_word
returns-in-Some-read_row_word c =
    let wall = c.args.wall.now in
    c.is_live_phase.ensures
    ∙ ap is_live
    (said (state_of wall.layout wall.history) c.args.row c.in-Some-read_row_word.phase _ (c.in-Some-read_row_word.ensures.found ∙ word_there wall c.args.row c.in-Some.word c.requires.words c.requires.within c.in-Some.ensures.word))

pub returns-in-None : goal.returns-in-None
returns-in-None c =
    let wall = c.args.wall.now in
    unsaid wall.layout (state_of wall.layout wall.history) c.args.row c.in-Some.word (is_sound wall.layout wall.history c.requires.legal).each
    (word_there wall c.args.row c.in-Some.word c.requires.words c.requires.within c.in-Some.ensures.word) c.in-None.ensures.none

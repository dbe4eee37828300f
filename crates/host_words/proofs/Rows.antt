-- The values of words, from the rows that `clap` gives.
use Rattle.std.proofs.Common.{◌≡◌, ◌∙◌, ℕ, List, Option, Some, None, refl, sym, ap, codes}
use Rattle.std.specs.Prelude.{option_and_then}
use Rattle.clap.specs.Words.{App, Row, Text, first_of, first_value, one_text, rows_of}
use Rattle.clap.specs.declared.parser.matches.Found.{Found}
use Rattle.clap.proofs.WalkLemmas.{first_value-rows, one_text-rows}
use Rattle.rail_time.specs.Moments.{moment_of}
use Rattle.host_words.specs.Options.{number_in, number_of, matched}
use Rattle.host_words.specs.Replay.{found_moment, input_app, input_words, replay_of}

-- the text that a getter gave
pub text_given : (f : Found) (id : Text) (o : Option Text) → o ≡ first_value f id → first_of id (rows_of f) ≡ o
text_given f id o is = sym (is ∙ first_value-rows f id)

-- the number that a getter gave
pub number_given : (f : Found) (id : Text) (least most : ℕ) (o : Option ℕ) → o ≡ option_and_then (number_in least most) (one_text f id) → number_of least most id (rows_of f) ≡ o
number_given f id least most o is = sym (is ∙ ap (option_and_then (number_in least most)) (one_text-rows f id))

-- the rows that the words give
pub rows_given : (app same : App) (words : List Text) (o : Option (List Row)) → app ≡ same → matched app words ≡ o → matched same words ≡ o
rows_given app same words o is given = rw (← is) given

module _ (command : Text) (words : List Text) (rows : List Row) (rows_are : matched (input_app command) words ≡ Some rows) where
  pub no_catalogue : first_of (codes "catalogue") rows ≡ None → input_words command words ≡ None
  no_catalogue none = ap (option_and_then replay_of) rows_are ∙ rw none refl

  pub no_start_text : (name : Text) → first_of (codes "catalogue") rows ≡ Some name → first_of (codes "start") rows ≡ None → input_words command words ≡ None
  no_start_text name named none = ap (option_and_then replay_of) rows_are ∙ rw (named, none) refl

  pub no_start : (name text : Text) → first_of (codes "catalogue") rows ≡ Some name → first_of (codes "start") rows ≡ Some text
      → found_moment (moment_of text) ≡ None → input_words command words ≡ None
  no_start name text named given none = ap (option_and_then replay_of) rows_are ∙ rw (named, given, none) refl

  pub no_tick : (name text : Text) (start : ℕ) → first_of (codes "catalogue") rows ≡ Some name → first_of (codes "start") rows ≡ Some text
      → found_moment (moment_of text) ≡ Some start → number_of 0 86400 (codes "tick") rows ≡ None → input_words command words ≡ None
  no_tick name text start named given read none = ap (option_and_then replay_of) rows_are ∙ rw (named, given, read, none) refl

  pub all_read : (name text : Text) (start tick : ℕ) (from : Option Text) → first_of (codes "catalogue") rows ≡ Some name → first_of (codes "start") rows ≡ Some text
      → found_moment (moment_of text) ≡ Some start → number_of 0 86400 (codes "tick") rows ≡ Some tick
      → first_of (codes "from") rows ≡ from → input_words command words ≡ Some (record { catalogue = name; from = from; start = start; tick = tick })
  all_read name text start tick from named given read ticks other = ap (option_and_then replay_of) rows_are ∙ rw (named, given, read, ticks, other) refl

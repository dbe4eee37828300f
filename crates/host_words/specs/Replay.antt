-- The words of `replay`, and of `export`, which takes the same.
use Rattle.std.specs.Prelude.{ℕ, List, Option, Some, None, Ok, Err, Result, codes, option_and_then, option_map}
use Rattle.clap.specs.Words.{App, Row, Text, new_app, new_rule, with_rule, first_of}
use Rattle.rail_time.specs.Moments.{moment_of}
use Rattle.rail_time.specs.declared.moment.MomentFault.{MomentFault}
use Rattle.host_words.specs.Limits.{most_seconds}
use Rattle.host_words.specs.Options.{option_rule, numbered, required, with_default, number_of, matched}

-- `NAME CATALOGUE --start MOMENT --tick N --from EXPORT`
abbrev pub input_app : Text → App
input_app name = with_rule (with_rule (with_rule (with_rule (new_app name)
    (required (new_rule (codes "catalogue"))))
    (with_default (codes "1970-01-01T00:00:00Z") (option_rule (codes "start"))))
    (with_default (codes "0") (numbered 0 most_seconds (option_rule (codes "tick")))))
    (option_rule (codes "from"))

-- what the words say
pub record ReplayView : Type 0 where
  pub catalogue : Text
  -- the name of the export that the books open with
  pub from : Option Text
  -- the first reading of the clock, in seconds
  pub start : ℕ
  -- the seconds from one reading to the next
  pub tick : ℕ

abbrev pub found_moment : Result ℕ MomentFault → Option ℕ
found_moment (Ok seconds) = Some seconds
found_moment (Err fault) = None

abbrev pub start_of : List Row → Option ℕ
start_of rows = option_and_then (λ text. found_moment (moment_of text)) (first_of (codes "start") rows)

abbrev pub replay_of : List Row → Option ReplayView
replay_of rows =
    option_and_then (λ catalogue.
    option_and_then (λ start.
    option_map
    (λ tick. record { catalogue = catalogue; from = first_of (codes "from") rows; start = start; tick = tick })
    (number_of 0 most_seconds (codes "tick") rows))
    (start_of rows))
    (first_of (codes "catalogue") rows)

-- what the words of a command of this name say, and nothing where they are refused: by `clap`, by a value out of its
-- range, or by a text that is no moment
abbrev pub input_words : Text → List Text → Option ReplayView
input_words name words = option_and_then replay_of (matched (input_app name) words)

abbrev pub replay_words : List Text → Option ReplayView
replay_words words = input_words (codes "replay") words

abbrev pub export_words : List Text → Option ReplayView
export_words words = input_words (codes "export") words

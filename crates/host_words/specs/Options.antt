-- What `clap` reads of the words of a command.
use Rattle.std.specs.Prelude.{ℕ, pos, Bool, true, false, List, [], ◌∷◌, Option, Some, None, map, if◌then◌else◌}
use Rattle.std.specs.Prelude.{option_and_then, String, string_bytes, codes}
use Rattle.std.specs.Str.{bytes_eq}
use Rattle.std.specs.Str.Parse.{digits_value, without_leading_plus}
use Rattle.std.specs.declared.alloc.Global.{Global}
use Rattle.clap.specs.Words.{App, Row, Rule, Text, new_rule, one_of, fault_of, matches_of}
use Rattle.clap.specs.Walk.{is_empty}
use Rattle.clap.specs.ValueTests.{is_unsigned_in}
use Rattle.clap.specs.declared.builder.action.ArgAction.TheVariants.{SetTrue}
use Rattle.clap.specs.declared.builder.value_parser.ValueParser.TheVariants.{Signed}

abbrev pub words_texts : List (String Global) → List Text
words_texts words = map string_bytes words

-- `--NAME VALUE`
abbrev pub option_rule : Text → Rule
option_rule name = record (new_rule name) { long = Some name }

-- `--NAME`
abbrev pub flag_rule : Text → Rule
flag_rule name = record (option_rule name) { action = Some SetTrue }

-- the flag with this value was given
abbrev pub is_set : Option Text → Bool
is_set (Some text) = bytes_eq text (codes "true")
is_set None = false

-- a whole number from `least` to `most`
abbrev pub numbered : ℕ → ℕ → Rule → Rule
numbered least most rule = record rule { parser = Some (Signed (pos least) (pos most)) }

abbrev pub required : Rule → Rule
required rule = record rule { required = true }

abbrev pub with_default : Text → Rule → Rule
with_default text rule = record rule { defaults = text ∷ [] }

-- the number that a value spells, if it lies from `least` to `most`: digits, after a plus or none
abbrev pub number_in : ℕ → ℕ → Text → Option ℕ
number_in least most text =
    if is_unsigned_in least most text then Some (digits_value 10 (without_leading_plus text)) else None

-- the number of an option
abbrev pub number_of : ℕ → ℕ → Text → List Row → Option ℕ
number_of least most name rows = option_and_then (number_in least most) (one_of name rows)

-- the values of the words, which begin with the command's name, where `clap` takes them
abbrev pub matched : App → List Text → Option (List Row)
matched app words = if is_empty (fault_of app words) then Some (matches_of app words) else None

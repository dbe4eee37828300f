-- The words of `drill`.
use Rattle.std.specs.Prelude.{List, Option, Some, codes, option_and_then, option_map}
use Rattle.clap.specs.Words.{App, Row, Rule, Text, new_app, with_rule}
use Rattle.clap.specs.declared.builder.value_parser.ValueParser.{ValueParser}
use Rattle.host_words.specs.Limits.{most_requests, most_run_places, most_seed, most_workers}
use Rattle.host_words.specs.Options.{option_rule, numbered, required, number_of, matched}
use Rattle.host_words.specs.declared.drill.DrillWords.{DrillWords}

-- the values are those that the parser takes
abbrev pub parsed_by : ValueParser → Rule → Rule
parsed_by parser rule = record rule { parser = Some parser }

-- `drill --seed N --workers N --size N --places N`
abbrev pub drill_app : App
drill_app = with_rule (with_rule (with_rule (with_rule (new_app (codes "drill"))
    (required (numbered 0 most_seed (option_rule (codes "seed")))))
    (required (numbered 1 most_workers (option_rule (codes "workers")))))
    (required (numbered 1 most_requests (option_rule (codes "size")))))
    (required (numbered 1 most_run_places (option_rule (codes "places"))))

abbrev pub drill_of : List Row → Option DrillWords
drill_of rows =
    option_and_then (λ seed.
    option_and_then (λ workers.
    option_and_then (λ size.
    option_map (λ places. record { seed = seed; workers = workers; size = size; places = places })
    (number_of 1 most_run_places (codes "places") rows))
    (number_of 1 most_requests (codes "size") rows))
    (number_of 1 most_workers (codes "workers") rows))
    (number_of 0 most_seed (codes "seed") rows)

-- what the words say, and nothing where they are refused: by `clap`, or by a value out of its range
abbrev pub drill_words : List Text → Option DrillWords
drill_words words = option_and_then drill_of (matched drill_app words)

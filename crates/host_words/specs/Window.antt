-- The operator's window, in the words of `serve`.
use Rattle.std.specs.Prelude.{List, Option, codes, option_and_then, option_map}
use Rattle.clap.specs.Words.{Row, Text}
use Rattle.host_words.specs.declared.window.WindowWords.{WindowWords}
use Rattle.host_words.specs.Limits.{most_port, most_workers}
use Rattle.host_words.specs.Options.{matched, number_of}
use Rattle.host_words.specs.Serve.{serve_app}

abbrev pub window_of : List Row → Option WindowWords
window_of rows =
    option_and_then (λ port.
    option_map (λ workers. record { port = port; workers = workers })
    (number_of 1 most_workers (codes "workers") rows))
    (number_of 1 most_port (codes "window") rows)

-- what the words say of it, and nothing where they are refused or ask for none
abbrev pub window_words : List Text → Option WindowWords
window_words words = option_and_then window_of (matched serve_app words)

-- The words of `serve`.
use Rattle.std.specs.Prelude.{◌≤◌, Bool, List, Option, codes, option_and_then, option_map}
use Rattle.clap.specs.Words.{App, Row, Text, new_app, new_rule, with_rule, first_of}
use Rattle.host_words.specs.declared.serve.Serving.{Serving}
use Rattle.host_words.specs.Limits.{most_connections, most_port, most_seconds, most_workers}
use Rattle.host_words.specs.Options.{flag_rule, is_set, option_rule, numbered, required, with_default}
use Rattle.host_words.specs.Options.{matched, number_of}

-- `serve CATALOGUE --port N --workers N --connections N --sweep N --from EXPORT --journal JOURNAL --export --window N
-- --address A`
abbrev pub serve_app : App
serve_app =
    with_rule (with_rule (with_rule (with_rule (with_rule (with_rule (with_rule (with_rule (with_rule (with_rule
    (new_app (codes "serve"))
    (required (new_rule (codes "catalogue"))))
    (required (numbered 1 most_port (option_rule (codes "port")))))
    (with_default (codes "4") (numbered 1 most_workers (option_rule (codes "workers")))))
    (with_default (codes "4294967295") (numbered 1 most_connections (option_rule (codes "connections")))))
    (with_default (codes "30") (numbered 1 most_seconds (option_rule (codes "sweep")))))
    (option_rule (codes "from")))
    (option_rule (codes "journal")))
    (flag_rule (codes "export")))
    (numbered 1 most_port (option_rule (codes "window"))))
    (option_rule (codes "address"))

-- what the words say
pub record ServeView : Type 0 where
  pub catalogue : Text
  -- the name of the export that the books open with
  pub from : Option Text
  -- the name of the journal that is kept
  pub journal : Option Text
  pub numbers : Serving
  -- the export of the books is written at the end
  pub export : Bool

-- the numbers lie in their ranges
pub record IsInRange (n : Serving) : Type 0 where
  pub port : (1 ≤ n.port) × (n.port ≤ most_port)
  pub workers : (1 ≤ n.workers) × (n.workers ≤ most_workers)
  pub connections : 1 ≤ n.connections
  pub sweep : (1 ≤ n.sweep) × (n.sweep ≤ most_seconds)

abbrev pub numbers_of : List Row → Option Serving
numbers_of rows =
    option_and_then (λ port.
    option_and_then (λ workers.
    option_and_then (λ connections.
    option_map (λ sweep. record { port = port; workers = workers; connections = connections; sweep = sweep })
    (number_of 1 most_seconds (codes "sweep") rows))
    (number_of 1 most_connections (codes "connections") rows))
    (number_of 1 most_workers (codes "workers") rows))
    (number_of 1 most_port (codes "port") rows)

abbrev pub serve_of : List Row → Option ServeView
serve_of rows =
    option_and_then (λ catalogue.
    option_map (λ numbers. record {
      catalogue = catalogue;
      from = first_of (codes "from") rows;
      journal = first_of (codes "journal") rows;
      numbers = numbers;
      export = is_set (first_of (codes "export") rows);
    })
    (numbers_of rows))
    (first_of (codes "catalogue") rows)

-- what the words say, and nothing where they are refused: by `clap`, or by a number out of its range
abbrev pub serve_words : List Text → Option ServeView
serve_words words = option_and_then serve_of (matched serve_app words)

-- What the words of `serve` say of the window, from the rows that `clap` gives.
use Rattle.std.proofs.Common.{◌≡◌, ◌∙◌, ℕ, List, Option, Some, None, refl, ap, codes}
use Rattle.std.specs.Prelude.{option_and_then}
use Rattle.clap.specs.Words.{Row, Text}
use Rattle.host_words.specs.Options.{number_of, matched}
use Rattle.host_words.specs.Serve.{serve_app}
use Rattle.host_words.specs.Window.{window_of, window_words}

module _ (rows : List Row) where
  pub no_port : number_of 1 65535 (codes "window") rows ≡ None → window_of rows ≡ None
  no_port none = rw none refl

  pub no_workers : (port : ℕ) → number_of 1 65535 (codes "window") rows ≡ Some port → number_of 1 16 (codes "workers") rows ≡ None → window_of rows ≡ None
  no_workers port p none = rw (p, none) refl

  pub both : (port workers : ℕ) → number_of 1 65535 (codes "window") rows ≡ Some port → number_of 1 16 (codes "workers") rows ≡ Some workers
      → window_of rows ≡ Some (record { port = port; workers = workers })
  both port workers p w = rw (p, w) refl

pub said : (words : List Text) (found : Option (List Row)) → matched serve_app words ≡ found → window_words words ≡ option_and_then window_of found
said words found is = ap (option_and_then window_of) is

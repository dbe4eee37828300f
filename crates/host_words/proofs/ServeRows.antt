-- The values of the words of `serve`, from the rows that `clap` gives.
use Rattle.std.proofs.Common.{◌≡◌, ◌∙◌, ℕ, Bool, List, Option, Some, None, refl, ap, codes}
use Rattle.std.specs.Prelude.{option_and_then}
use Rattle.clap.specs.Words.{Row, Text, first_of}
use Rattle.host_words.specs.declared.serve.Serving.{Serving}
use Rattle.host_words.specs.Options.{is_set, number_of, matched}
use Rattle.host_words.specs.Serve.{numbers_of, serve_app, serve_of, serve_words}

module _ (rows : List Row) where
  pub no_port : number_of 1 65535 (codes "port") rows ≡ None → numbers_of rows ≡ None
  no_port none = rw none refl

  pub no_workers : (port : ℕ) → number_of 1 65535 (codes "port") rows ≡ Some port → number_of 1 16 (codes "workers") rows ≡ None → numbers_of rows ≡ None
  no_workers port p none = rw (p, none) refl

  pub no_connections : (port workers : ℕ) → number_of 1 65535 (codes "port") rows ≡ Some port → number_of 1 16 (codes "workers") rows ≡ Some workers
      → number_of 1 4294967295 (codes "connections") rows ≡ None → numbers_of rows ≡ None
  no_connections port workers p w none = rw (p, w, none) refl

  pub no_sweep : (port workers connections : ℕ) → number_of 1 65535 (codes "port") rows ≡ Some port → number_of 1 16 (codes "workers") rows ≡ Some workers
      → number_of 1 4294967295 (codes "connections") rows ≡ Some connections → number_of 1 86400 (codes "sweep") rows ≡ None → numbers_of rows ≡ None
  no_sweep port workers connections p w c none = rw (p, w, c, none) refl

  pub all_numbers : (port workers connections sweep : ℕ) → number_of 1 65535 (codes "port") rows ≡ Some port → number_of 1 16 (codes "workers") rows ≡ Some workers
      → number_of 1 4294967295 (codes "connections") rows ≡ Some connections → number_of 1 86400 (codes "sweep") rows ≡ Some sweep
      → numbers_of rows ≡ Some (record { port = port; workers = workers; connections = connections; sweep = sweep })
  all_numbers port workers connections sweep p w c s = rw (p, w, c, s) refl

pub not_matched : (words : List Text) → matched serve_app words ≡ None → serve_words words ≡ None
not_matched words none = ap (option_and_then serve_of) none

module _ (words : List Text) (rows : List Row) (rows_are : matched serve_app words ≡ Some rows) where
  pub no_catalogue : first_of (codes "catalogue") rows ≡ None → serve_words words ≡ None
  no_catalogue none = ap (option_and_then serve_of) rows_are ∙ rw none refl

  pub no_numbers : (name : Text) → first_of (codes "catalogue") rows ≡ Some name → numbers_of rows ≡ None → serve_words words ≡ None
  no_numbers name named none = ap (option_and_then serve_of) rows_are ∙ rw (named, none) refl

  pub all_said : (name : Text) (numbers : Serving) (from journal : Option Text) (export : Bool) → first_of (codes "catalogue") rows ≡ Some name
      → numbers_of rows ≡ Some numbers → first_of (codes "from") rows ≡ from → first_of (codes "journal") rows ≡ journal
      → is_set (first_of (codes "export") rows) ≡ export
      → serve_words words ≡ Some (record { catalogue = name; from = from; journal = journal; numbers = numbers; export = export })
  all_said name numbers from journal export named are other kept flag = ap (option_and_then serve_of) rows_are ∙ rw (named, are, other, kept, flag) refl

use Rattle.std.proofs.Common.{◌≡◌, [], List, Some, ap, sym}
use Rattle.clap.specs.Words.{App, Row, Text, app_of, fault_of, matches_of}
use Rattle.clap.proofs.WalkLemmas.{both}
use Rattle.host_words.specs.Options.{matched, words_texts}
use Rattle.host_words.proofs.options.matches_of.Goals as goal

is_taken : (app : App) (words : List Text) (rows : List Row) → fault_of app words ≡ [] → rows ≡ matches_of app words → matched app words ≡ Some rows
is_taken app words rows none is = rw none (ap Some (sym is))

pub returns-in-Ok-clause-ok : goal.returns-in-Ok-clause-ok
returns-in-Ok-clause-ok c =
    let simple = (both _ _ c.requires).0 in
    is_taken (app_of c.args.command) (words_texts c.args.words.now) _ (c.in-Ok.ensures.kinds c.requires) (c.in-Ok.ensures.matches simple).0

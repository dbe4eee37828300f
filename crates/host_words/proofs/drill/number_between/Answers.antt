use Rattle.std.proofs.Common.{◌≡◌, ◌≤◌, ℕ, Option, Some, None}
use Rattle.std.specs.Prelude.{IfSome, option_and_then}
use Rattle.clap.specs.Words.{Text, found_of, one_text}
use Rattle.host_words.specs.Options.{number_in}
use Rattle.host_words.proofs.Drilling.{found_within}
use Rattle.host_words.proofs.drill.number_between.Goals as goal

all_within : (least most : ℕ) (text : Option Text) (r : Option ℕ) → r ≡ option_and_then (number_in least most) text → IfSome r (λ n. (least ≤ n) × (n ≤ most))
all_within least most text None is = tt
all_within least most text (Some v) is = found_within least most v text is

pub returns-clause-within : goal.returns-clause-within
returns-clause-within c = all_within c.args.least c.args.most (one_text (found_of c.args.matches.now) c.args.name.now) c.number_of.result c.number_of.ensures

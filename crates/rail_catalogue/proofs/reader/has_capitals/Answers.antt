use Rattle.std.proofs.Common.{rules, tests}
use Rattle.std.proofs.lemmas.Iterator.{YieldsList-from_slice}
use Rattle.std.proofs.lemmas.Iterator.Search.{all_from_yields_List}
use Rattle.rail_catalogue.specs.Format.{is_capital}
use Rattle.rail_catalogue.proofs.reader.has_capitals.Goals as goal

pub returns : goal.returns
returns c = all_from_yields_List is_capital _ _ _ c.all.ensures.ran (YieldsList-from_slice c.args.text.now cc) (λ x b q k. search (rules, tests))

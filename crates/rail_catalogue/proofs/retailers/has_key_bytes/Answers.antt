use Rattle.std.proofs.Common.{rules, tests}
use Rattle.std.proofs.lemmas.Iterator.{YieldsList-from_slice}
use Rattle.std.proofs.lemmas.Iterator.Search.{all_from_yields_List}
use Rattle.rail_catalogue.specs.Retailers.{is_key_byte}
use Rattle.rail_catalogue.proofs.retailers.has_key_bytes.Goals as goal

pub returns : goal.returns
returns c = all_from_yields_List is_key_byte _ _ _ c.all.ensures.ran (YieldsList-from_slice c.args.key.now cc) (λ x b q k. search (rules, tests))

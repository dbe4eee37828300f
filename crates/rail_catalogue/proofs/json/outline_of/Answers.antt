use Rattle.std.proofs.Common.{arith}
use Rattle.rail_catalogue.proofs.JsonFacts.{json_of-none}
use Rattle.rail_catalogue.proofs.json.outline_of.Goals as goal

pub returns-in-Err-NotJson-clause-err : goal.returns-in-Err-NotJson-clause-err
returns-in-Err-NotJson-clause-err c = json_of-none _ (c.read_outline.ensures.err (grind arith))

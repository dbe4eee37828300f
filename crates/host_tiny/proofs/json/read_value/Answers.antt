use Rattle.std.proofs.Common.{rules}
use Rattle.host_tiny.proofs.JsonFacts.{json_of-some, json_of-none}
use Rattle.host_tiny.proofs.json.read_value.Goals as goal

pub returns-in-Ok-clause-ok : goal.returns-in-Ok-clause-ok
returns-in-Ok-clause-ok c = json_of-some _ _ c.in-Ok.ensures.ok.0 c.in-Ok.ensures.ok.1

pub returns-in-Err-2-clause-err : goal.returns-in-Err-2-clause-err
returns-in-Err-2-clause-err c = λ e. json_of-none _ (c.in-Err-2.ensures.err (search rules))

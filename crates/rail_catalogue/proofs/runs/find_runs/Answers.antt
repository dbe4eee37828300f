use Rattle.std.proofs.Common.{◌≡◌, ◌≤◌, is_some, true, IfSome, IsUtf8, MatchOption, None, option_and_then}
use Rattle.serde_json.specs.Events.{items_len}
use Rattle.json_text.specs.Ahead.{ahead, IsListOf}
use Rattle.json_text.specs.Outlines.{member_at}
use Rattle.rail_catalogue.specs.Json.{list_of}
use Rattle.rail_catalogue.specs.Listed.{AreListed}
use Rattle.rail_catalogue.proofs.Fronts.{found, of_answer}
use Rattle.rail_catalogue.proofs.runs.find_runs.Goals as goal

pub returns : goal.returns
returns c =
    let member = member_at c.in-Some.place c.args.text.now in
    let there : is_some member ≡ true = rw c.in-Some.is at c.requires.there in
    rw c.in-Some.is (of_answer (λ l. IsUtf8 c.args.text.now → IsListOf member l) (λ l. IfSome (option_and_then ahead l) (λ ds. items_len ds ≤ 9_223_372_036_854_775_807))
    (λ l. MatchOption l (list_of member ≡ None) (λ i. AreListed member i)) (λ l is few. found l member there (is c.requires.utf8) few) c.items_at.result c.items_at.ensures.items c.items_at.ensures.few)

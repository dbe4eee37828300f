use Rattle.std.proofs.Common.{◌≡◌, Ok, rules, arith}
use Rattle.std.proofs.lemmas.Grind.{common_steps}
use Rattle.json_text.specs.View.{view}
use Rattle.osdm_json.specs.Asked.{accept_exchange}
use Rattle.osdm_json.specs.IdBodies.{accept_exchange_of}
use Rattle.osdm_json.proofs.orders.read_accept_exchange.Goals as goal

pub returns-clause-ok : goal.returns-clause-ok
returns-clause-ok c =
    let asked : accept_exchange_of c.args.id.now (view c.args.body.now) ≡ Ok (accept_exchange c.args.id.now c.in-Some.offer.now) = first_of (search rules, grind (arith, common_steps)) in
    (c.args.id.now, c.in-Some.offer.now, asked, c.row_of.ensures, rw c.as_bytes.ensures.value at c.exchange_of.ensures.spelled)

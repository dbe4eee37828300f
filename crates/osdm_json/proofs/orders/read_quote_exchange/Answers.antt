use Rattle.std.proofs.Common.{◌≡◌, Ok, rules, arith}
use Rattle.std.proofs.lemmas.Grind.{common_steps}
use Rattle.json_text.specs.View.{view}
use Rattle.osdm_json.specs.Asked.{quote_exchange}
use Rattle.osdm_json.specs.IdBodies.{quote_exchange_of}
use Rattle.osdm_json.proofs.orders.read_quote_exchange.Goals as goal

pub returns-clause-ok : goal.returns-clause-ok
returns-clause-ok c =
    let asked : quote_exchange_of (view c.args.body.now) ≡ Ok (quote_exchange c.in-Some.booking.now c.in-Some-text_in.offer.now) = first_of (search rules, grind (arith, common_steps)) in
    (c.in-Some.booking.now, c.in-Some-text_in.offer.now, asked, rw c.as_bytes.ensures.value at c.row_of.ensures, rw c.as_bytes-2.ensures.value at c.offer_of.ensures.spelled)

use Rattle.std.proofs.Common.{◌≡◌, Ok, rules, arith}
use Rattle.std.proofs.lemmas.Grind.{common_steps}
use Rattle.json_text.specs.View.{view}
use Rattle.osdm_json.specs.Asked.{book}
use Rattle.osdm_json.specs.IdBodies.{book_of}
use Rattle.osdm_json.proofs.orders.read_book.Goals as goal

pub returns-clause-ok : goal.returns-clause-ok
returns-clause-ok c =
    let asked : book_of (view c.args.body.now) ≡ Ok (book c.in-Some.offer.now c.in-Some-flag_in.together) = first_of (search rules, grind (arith, common_steps)) in
    (c.in-Some.offer.now, asked, rw c.as_bytes.ensures.value at c.offer_of.ensures.spelled)

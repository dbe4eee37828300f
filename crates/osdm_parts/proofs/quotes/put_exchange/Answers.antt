use Rattle.std.proofs.Common.{◌≡◌, ◌∙◌, refl, rules, FitsSigned, w64, to_z-of_z}
use Rattle.offer_codes.specs.Exchanges.{exchange_view}
use Rattle.osdm_parts.specs.Ids.{exchange_id}
use Rattle.osdm_parts.proofs.Chains.{one, step, last}
use Rattle.osdm_parts.proofs.quotes.put_exchange.Goals as goal

pub returns : goal.returns
returns c =
    let fits : FitsSigned w64 c.args.code.now.difference = search rules in
    let id : c.text_of.result.now ≡ exchange_id (exchange_view c.args.code.now) = c.text_of.ensures ∙ c.as_slice.ensures.value ∙ c.exchange_id-id.ensures.text in
    last c.end_object.result
    (step (step (step (one c.in_ok-begin_object.ensures) (simp (to_z-of_z, c.currency_text.ensures.value) at c.in_ok-put_amount.ensures)) (rw id at c.in_ok-put_text.ensures)) (rw c.later.ensures at c.in_ok-put_time.ensures))
    c.end_object.ensures refl

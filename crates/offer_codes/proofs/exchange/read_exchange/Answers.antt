use Rattle.std.proofs.Common.{◌≡◌, ◌∙◌, ap, sym, Some, None, true≢false}
use Rattle.std.proofs.lemmas.Slice.Eq.{bytes_eq-Decides}
use Rattle.offer_codes.specs.Exchanges.{exchange_text, exchange_view}
use Rattle.offer_codes.proofs.Complete.{none_some}
use Rattle.offer_codes.proofs.Quotes.{exchange_found, few_in_exchange}
use Rattle.offer_codes.proofs.exchange.read_exchange.Goals as goal

pub returns-in_err-numbers-clause-spelled : goal.returns-in_err-numbers-clause-spelled
returns-in_err-numbers-clause-spelled c = λ x h is. absurd (few_in_exchange c.args.text.now c.in_err-numbers.ensures.none x h is)

pub returns-in_err-code-clause-spelled : goal.returns-in_err-code-clause-spelled
returns-in_err-code-clause-spelled c = λ x h is.
    none_some x (exchange_found c.args.text.now c.as_slice.result.now c.has_letter.result c.has_letter-2.result None (c.as_slice.ensures.value ∙ c.in_ok-numbers.ensures.some) c.has_letter.ensures c.has_letter-2.ensures c.in_err-code.ensures.value x h is)

pub returns-then-eq-clause-spelled : goal.returns-then-eq-clause-spelled
returns-then-eq-clause-spelled c = λ x h is.
    exchange_found c.args.text.now c.as_slice.result.now c.has_letter.result c.has_letter-2.result (Some (exchange_view c.in_ok-code.code)) (c.as_slice.ensures.value ∙ c.in_ok-numbers.ensures.some) c.has_letter.ensures c.has_letter-2.ensures c.in_ok-code.ensures.value x h is

pub returns-else-eq-clause-spelled : goal.returns-else-eq-clause-spelled
returns-else-eq-clause-spelled c = λ x h is.
    let read = exchange_found c.args.text.now c.as_slice.result.now c.has_letter.result c.has_letter-2.result (Some (exchange_view c.in_ok-code.code)) (c.as_slice.ensures.value ∙ c.in_ok-numbers.ensures.some) c.has_letter.ensures c.has_letter-2.ensures c.in_ok-code.ensures.value x h is in
    let same : exchange_view c.in_ok-code.code ≡ x = cc in
    let text : c.as_slice-2.result.now ≡ c.args.text.now = c.as_slice-2.ensures.value ∙ c.write_exchange.ensures.spelling ∙ ap exchange_text same ∙ sym is in
    absurd (true≢false (sym ((bytes_eq-Decides c.as_slice-2.result.now c.args.text.now).1 text) ∙ sym c.eq.ensures ∙ c.if-eq.false))

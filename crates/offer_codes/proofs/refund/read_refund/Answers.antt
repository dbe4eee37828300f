use Rattle.std.proofs.Common.{◌≡◌, ◌∙◌, ap, sym, Some, None, true≢false}
use Rattle.std.proofs.lemmas.Slice.Eq.{bytes_eq-Decides}
use Rattle.offer_codes.specs.Refunds.{refund_text}
use Rattle.offer_codes.proofs.Complete.{none_some}
use Rattle.offer_codes.proofs.Quotes.{refund_found, few_in_refund}
use Rattle.offer_codes.proofs.refund.read_refund.Goals as goal

pub returns-in_err-numbers-clause-spelled : goal.returns-in_err-numbers-clause-spelled
returns-in_err-numbers-clause-spelled c = λ r h is. absurd (few_in_refund c.args.text.now c.in_err-numbers.ensures.none r h is)

pub returns-in_err-code-clause-spelled : goal.returns-in_err-code-clause-spelled
returns-in_err-code-clause-spelled c = λ r h is.
    none_some r (refund_found c.args.text.now c.as_slice.result.now c.has_letter.result None (c.as_slice.ensures.value ∙ c.in_ok-numbers.ensures.some) c.has_letter.ensures c.in_err-code.ensures.value r h is)

pub returns-then-eq-clause-spelled : goal.returns-then-eq-clause-spelled
returns-then-eq-clause-spelled c = λ r h is.
    refund_found c.args.text.now c.as_slice.result.now c.has_letter.result (Some c.in_ok-code.code) (c.as_slice.ensures.value ∙ c.in_ok-numbers.ensures.some) c.has_letter.ensures c.in_ok-code.ensures.value r h is

pub returns-else-eq-clause-spelled : goal.returns-else-eq-clause-spelled
returns-else-eq-clause-spelled c = λ r h is.
    let read = refund_found c.args.text.now c.as_slice.result.now c.has_letter.result (Some c.in_ok-code.code) (c.as_slice.ensures.value ∙ c.in_ok-numbers.ensures.some) c.has_letter.ensures c.in_ok-code.ensures.value r h is in
    let same : c.in_ok-code.code ≡ r = cc in
    let text : c.as_slice-2.result.now ≡ c.args.text.now = c.as_slice-2.ensures.value ∙ c.write_refund.ensures.spelling ∙ ap refund_text same ∙ sym is in
    absurd (true≢false (sym ((bytes_eq-Decides c.as_slice-2.result.now c.args.text.now).1 text) ∙ sym c.eq.ensures ∙ c.if-eq.false))

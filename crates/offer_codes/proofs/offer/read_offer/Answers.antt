use Rattle.std.proofs.Common.{◌≡◌, ◌∙◌, ap, sym, Some, None, true≢false}
use Rattle.std.proofs.lemmas.Slice.Eq.{bytes_eq-Decides}
use Rattle.offer_codes.specs.Offers.{offer_view, offer_text}
use Rattle.offer_codes.proofs.Complete.{found, not_too_many, none_some}
use Rattle.offer_codes.proofs.offer.read_offer.Goals as goal

pub returns-in_err-numbers-clause-spelled : goal.returns-in_err-numbers-clause-spelled
returns-in_err-numbers-clause-spelled c = λ o h is. absurd (not_too_many c.args.text.now c.in_err-numbers.ensures.none o h is)

pub returns-in_err-code-clause-spelled : goal.returns-in_err-code-clause-spelled
returns-in_err-code-clause-spelled c = λ o h is.
    none_some o (found c.args.text.now c.as_slice.result.now None (c.as_slice.ensures.value ∙ c.in_ok-numbers.ensures.some) c.in_err-code.ensures.value o h is)

pub returns-then-eq-clause-spelled : goal.returns-then-eq-clause-spelled
returns-then-eq-clause-spelled c = λ o h is.
    found c.args.text.now c.as_slice.result.now (Some (offer_view c.in_ok-code.code)) (c.as_slice.ensures.value ∙ c.in_ok-numbers.ensures.some) c.in_ok-code.ensures.value o h is

pub returns-else-eq-clause-spelled : goal.returns-else-eq-clause-spelled
returns-else-eq-clause-spelled c = λ o h is.
    let read = found c.args.text.now c.as_slice.result.now (Some (offer_view c.in_ok-code.code)) (c.as_slice.ensures.value ∙ c.in_ok-numbers.ensures.some) c.in_ok-code.ensures.value o h is in
    let same : offer_view c.in_ok-code.code ≡ o = cc in
    let text : c.as_slice-2.result.now ≡ c.args.text.now = c.as_slice-2.ensures.value ∙ c.write_offer.ensures.spelling ∙ ap offer_text same ∙ sym is in
    absurd (true≢false (sym ((bytes_eq-Decides c.as_slice-2.result.now c.args.text.now).1 text) ∙ sym c.eq.ensures ∙ c.if-eq.false))

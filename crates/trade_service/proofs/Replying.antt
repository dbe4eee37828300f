-- The replies to commands on refunds.
use Rattle.std.proofs.Common.{◌≡◌, ◌∙◌, inl, inr, ℕ, Option, Some, None, Result, Ok, Err, IfOk, IfErr, refl, ap, subst}
use Rattle.rail_ids.specs.declared.RowNo.{RowNo}
use Rattle.claim_rule.specs.Rule.{DeskView}
use Rattle.claim_rule.specs.Calls.{AddsStepsBy}
use Rattle.history_model.specs.declared.phase.Phase.{Phase}
use Rattle.booking_rows.specs.Views.{RowSeen}
use Rattle.catalogue_contents.specs.Contents.{CatalogueView}
use Rattle.offer_codes.specs.declared.code.RefundCode.{RefundCode}
use Rattle.refund_core.specs.declared.quoting.Quoted.TheVariants as quoted
use Rattle.refund_core.specs.declared.refunding.Refunded.{Refunded}
use Rattle.refund_core.specs.declared.refunding.Refunded.TheVariants as refunded
use Rattle.refund_core.specs.Refunding.{QuotesRefund, AcceptsRefund, IfRefunded, IsRefunded}
use Rattle.osdm_parts.specs.declared.problem.Problem.{Problem}
use Rattle.osdm_parts.specs.declared.problem.Problem.TheVariants.{UnknownBooking, WrongState, NoMemory}
use Rattle.osdm_texts.specs.Answers.{refund_offer, problem, Told, refused as refused_told, reply_told, told_of, Tells}
use Rattle.osdm_texts.specs.declared.written.Written.{Written}
use Rattle.osdm_texts.proofs.Telling.{of_problem}
use Rattle.refund_core.specs.Quotes.{FindsBooking}
use Rattle.booking_service.specs.Deciding.{OnBooking, Answered}
use Rattle.trade_service.specs.Refunds.{AnswersRefundQuote, RefundsFound, refusal_of, unless, refund_reply}

-- the replies to a quote

pub offers_refund : (cat : CatalogueView) (rows : ℕ) (row : RowNo) (retailer now : ℕ) (code : RefundCode) (old new : DeskView) (r : Result Written Problem)
    → AddsStepsBy (QuotesRefund cat rows row retailer now (quoted.Done code)) old new → IfOk r (Tells cat (refund_offer code)) → IfErr r (λ p. p ≡ NoMemory)
    → Answered cat (AnswersRefundQuote cat rows row retailer now) old new (told_of r)
offers_refund cat rows row retailer now code old new (Ok w) did is none = (refund_offer code, (quoted.Done code, did, inl refl), is)
offers_refund cat rows row retailer now code old new (Err p) did is none = (problem NoMemory, (quoted.Done code, did, inr refl), ap refused_told none ∙ of_problem cat NoMemory)

pub offers_unknown : (cat : CatalogueView) (rows : ℕ) (row : RowNo) (retailer now : ℕ) (old new : DeskView)
    → AddsStepsBy (QuotesRefund cat rows row retailer now quoted.Unknown) old new
    → Answered cat (AnswersRefundQuote cat rows row retailer now) old new (refused_told UnknownBooking)
offers_unknown cat rows row retailer now old new did = (problem UnknownBooking, (quoted.Unknown, did, refl), of_problem cat UnknownBooking)

pub offers_wrong : (cat : CatalogueView) (rows : ℕ) (row : RowNo) (retailer now : ℕ) (shown : Phase) (old new : DeskView)
    → AddsStepsBy (QuotesRefund cat rows row retailer now (quoted.WrongState shown)) old new
    → Answered cat (AnswersRefundQuote cat rows row retailer now) old new (refused_told (WrongState shown))
offers_wrong cat rows row retailer now shown old new did = (problem (WrongState shown), (quoted.WrongState shown, did, refl), of_problem cat (WrongState shown))

-- the replies to an acceptance

pub decided : (cat : CatalogueView) (rows retailer : ℕ) (code : RefundCode) (now : ℕ) (v : RowSeen) (a : Refunded) (old mid new : DeskView) (said : Told)
    → AddsStepsBy (FindsBooking rows code.row retailer (Some v)) old mid → AddsStepsBy (AcceptsRefund cat rows retailer code now a) mid new
    → said ≡ reply_told cat (refund_reply code now v a)
    → Answered cat (OnBooking rows code.row retailer (RefundsFound cat rows retailer code now)) old new said
decided cat rows retailer code now v a old mid new said found did is = (refund_reply code now v a, inr (v, mid, found, inl (a, did, refl)), is)

-- an acceptance that was refused, and one that was not
pub refused : (cat : CatalogueView) (code : RefundCode) (now : ℕ) (v : RowSeen) (a : Refunded) (p : Problem) → Some p ≡ refusal_of a
    → refused_told p ≡ reply_told cat (refund_reply code now v a)
refused cat code now v a p is = of_problem cat p ∙ ap (λ (o : Option Problem). reply_told cat (unless o (refund_reply code now v (refunded.Done 0)))) is

pub not_refused : (cat : CatalogueView) (code : RefundCode) (now : ℕ) (v : RowSeen) (a : Refunded) (said : Told) → None ≡ refusal_of a
    → said ≡ reply_told cat (refund_reply code now v (refunded.Done 0)) → said ≡ reply_told cat (refund_reply code now v a)
not_refused cat code now v a said is told_so = told_so ∙ ap (λ (o : Option Problem). reply_told cat (unless o (refund_reply code now v (refunded.Done 0)))) is

-- so the booking has ended, with the amount of the code
pub is_refunded : (cat : CatalogueView) (rows retailer : ℕ) (code : RefundCode) (now : ℕ) (a : Refunded) (old new : DeskView) → None ≡ refusal_of a
    → AddsStepsBy (AcceptsRefund cat rows retailer code now a) old new → IfRefunded a (IsRefunded new code.row now) → IsRefunded new code.row now code.amount
is_refunded cat rows retailer code now (refunded.Done amount) old new is (es, did, added) ended = subst (IsRefunded new code.row now) did.0 ended
is_refunded cat rows retailer code now refunded.Unknown old new is did ended = absurd cc
is_refunded cat rows retailer code now (refunded.WrongState shown) old new is did ended = absurd cc
is_refunded cat rows retailer code now (refunded.QuoteStale made at) old new is did ended = absurd cc
is_refunded cat rows retailer code now refunded.QuoteWrong old new is did ended = absurd cc

-- Quoting and accepting a refund: what is done, and what is answered.
use Rattle.std.specs.Prelude.{◌≡◌, ◌⊎◌, ℕ, Option, Some, None}
use Rattle.rail_ids.specs.declared.RowNo.{RowNo}
use Rattle.history_model.specs.declared.phase.EndKind.TheVariants as kind
use Rattle.claim_rule.specs.Calls.{AddsStepsBy}
use Rattle.booking_rows.specs.Views.{RowSeen}
use Rattle.booking_rows.specs.Aims.{end_of}
use Rattle.booking_rows.specs.declared.turns.Aim.TheVariants as aim
use Rattle.catalogue_contents.specs.Contents.{CatalogueView}
use Rattle.offer_codes.specs.declared.code.RefundCode.{RefundCode}
use Rattle.refund_core.specs.declared.quoting.Quoted.{Quoted}
use Rattle.refund_core.specs.declared.quoting.Quoted.TheVariants as quoted
use Rattle.refund_core.specs.declared.refunding.Refunded.{Refunded}
use Rattle.refund_core.specs.declared.refunding.Refunded.TheVariants as refunded
use Rattle.refund_core.specs.Refunding.{QuotesRefund, AcceptsRefund}
use Rattle.osdm_parts.specs.declared.problem.Problem.{Problem}
use Rattle.osdm_parts.specs.declared.problem.Problem.TheVariants.{UnknownBooking, WrongState, OfferTooOld, QuoteWrong, NoMemory}
use Rattle.osdm_texts.specs.Answers.{Reply, booking, refund_offer, problem}
use Rattle.booking_service.specs.Deciding.{Replying, at_end}

-- the quote, or that there is no memory for it; a refusal takes none
abbrev pub IsQuoteReply : Quoted → Reply → Type 0
IsQuoteReply (quoted.Done code) reply = (reply ≡ refund_offer code) ⊎ (reply ≡ problem NoMemory)
IsQuoteReply quoted.Unknown reply = reply ≡ problem UnknownBooking
IsQuoteReply (quoted.WrongState shown) reply = reply ≡ problem (WrongState shown)

abbrev pub AnswersRefundQuote : CatalogueView → ℕ → RowNo → ℕ → ℕ → Replying
AnswersRefundQuote cat rows row retailer now old new reply =
    (a : Quoted) × AddsStepsBy (QuotesRefund cat rows row retailer now a) old new × IsQuoteReply a reply

-- the problem of a refusal, if it is one
abbrev pub refusal_of : Refunded → Option Problem
refusal_of (refunded.Done amount) = None
refusal_of refunded.Unknown = Some UnknownBooking
refusal_of (refunded.WrongState shown) = Some (WrongState shown)
refusal_of (refunded.QuoteStale made now) = Some (OfferTooOld made now)
refusal_of refunded.QuoteWrong = Some QuoteWrong

abbrev pub unless : Option Problem → Reply → Reply
unless None reply = reply
unless (Some p) reply = problem p

-- the booking at its end, unless it was refused
abbrev pub refund_reply : RefundCode → ℕ → RowSeen → Refunded → Reply
refund_reply code now v a =
    unless (refusal_of a) (booking code.row (at_end kind.Refund (end_of (aim.Refund now code.amount)) v))

abbrev pub RefundsFound : CatalogueView → ℕ → ℕ → RefundCode → ℕ → RowSeen → Replying
RefundsFound cat rows retailer code now v old new reply =
    (a : Refunded) × AddsStepsBy (AcceptsRefund cat rows retailer code now a) old new
    × (reply ≡ refund_reply code now v a)

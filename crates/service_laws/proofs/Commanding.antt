-- Commands that sweep, and that accept a quote.
use Rattle.std.proofs.Common.{◌≡◌, ℕ, inl, inr, ⊎_elim, false, List, [], ◌++◌, refl, sym, ap, ◌∙◌, subst, append-nil, append_assoc}
use mathlib.Core.List.{IsPrefix}
use Rattle.rail_ids.specs.declared.RowNo.{RowNo}
use Rattle.history_model.specs.declared.entry.Entry.{Entry}
use Rattle.history_model.specs.declared.entry.Step.{Step}
use Rattle.history_model.specs.History.{own}
use Rattle.history_model.proofs.Seen.{own_between}
use Rattle.claim_rule.specs.Rule.{DeskView}
use Rattle.claim_rule.specs.Calls.{AddsStepsBy}
use Rattle.claim_rule.specs.Desks.{AddsSteps}
use Rattle.booking_rows.specs.Views.{RowSeen}
use Rattle.expiry_sweeper.specs.AllRows.{Sweeps}
use Rattle.catalogue_contents.specs.Contents.{CatalogueView}
use Rattle.offer_codes.specs.declared.code.RefundCode.{RefundCode}
use Rattle.offer_codes.specs.declared.code.ExchangeCode.{ExchangeCode}
use Rattle.offer_codes.specs.Offers.{OfferView, offer_view}
use Rattle.offer_codes.specs.Exchanges.{ExchangeView, exchange_view}
use Rattle.refund_core.specs.Quotes.{is_stale}
use Rattle.refund_core.specs.Refunding.{QuotesRefund}
use Rattle.refund_core.specs.declared.quoting.Quoted.{Quoted}
use Rattle.refund_core.specs.declared.quoting.Quoted.TheVariants as quoted
use Rattle.refund_core.specs.declared.refunding.Refunded.{Refunded}
use Rattle.refund_core.specs.declared.refunding.Refunded.TheVariants as refunded
use Rattle.exchange_core.specs.Exchanges.{QuotesExchange, Readies}
use Rattle.exchange_core.specs.declared.quoting.QuotedExchange.{QuotedExchange}
use Rattle.exchange_core.specs.declared.quoting.QuotedExchange.TheVariants as quoted_exchange
use Rattle.exchange_core.specs.declared.readying.Readied.{Readied}
use Rattle.exchange_core.specs.declared.readying.Readied.TheVariants as readied
use Rattle.osdm_parts.specs.declared.problem.Problem.{Problem}
use Rattle.osdm_texts.specs.Answers.{Reply, refund_offer, exchange_offer, problem}
use Rattle.trade_service.specs.Exchanges.{IsExchangeQuote, IsUnready}
use Rattle.trade_service.specs.Refunds.{IsQuoteReply, refund_reply}
use Rattle.service_laws.specs.Begun.{BeginsAfter}
use Rattle.service_laws.specs.Honoured.{HonoursRefund, HonoursExchange}
use Rattle.service_laws.specs.Commands.{SweepCommandsAreComplete, RefundCommandsAreHonoured, ExchangeCommandsAreHonoured, RepliesHonour, TriesExchange}
use Rattle.service_laws.proofs.Calls.{begin_one}
use Rattle.expiry_sweeper.proofs.Completing.{leaves_none}
use Rattle.service_laws.proofs.Honouring.{in_time, refunds_honoured, exchanges_honoured}

pub sweep_commands_complete : SweepCommandsAreComplete
sweep_commands_complete cat books old new retailer now reply of rows (swept, swept_by, is) =
    leaves_none books old new now swept of (subst (λ (n : ℕ). AddsStepsBy (Sweeps n now swept) old new) rows swept_by)

-- the second part of a call begins after all that the whole does
begins_later : (earlier old mid new : DeskView) (first second : List Step) → AddsSteps old mid first → AddsSteps mid new second → BeginsAfter earlier old new → BeginsAfter earlier mid new
begins_later earlier old mid new first second one two (inl none) =
    inl (subst (λ (d : ℕ). own new.seen d ≡ own mid.seen d) (sym one.same.2) (sym (own_between old.number old.seen mid.seen new.seen one.front two.front (sym none))))
begins_later earlier old mid new first second one two (inr (begun, begins, on)) = ⊎_elim
    (λ (p : IsPrefix begun mid.seen). inr (mid.seen, record { had = ([], append-nil mid.seen); goes_on = two.front; none_yet = refl }, prefix_on earlier.seen begun mid.seen on p))
    (λ (p : IsPrefix mid.seen begun). inr (
      begun,
      record {
        had = p;
        goes_on = begins.goes_on;
        none_yet = subst (λ (d : ℕ). own begun d ≡ own mid.seen d) (sym one.same.2) (sym (own_between old.number old.seen mid.seen begun one.front p (sym begins.none_yet)));
      },
      on,
    ))
    (begin_one begun mid.seen begins.goes_on.0 two.front.0 (begins.goes_on.1 ∙ sym two.front.1))
  where
    prefix_on : (a b c : List Entry) → IsPrefix a b → IsPrefix b c → IsPrefix a c
    prefix_on a b c (s, e) (t, f) = (s ++ t, sym (append_assoc a s t) ∙ (ap (λ (l : List Entry). l ++ t) e ∙ f))

-- what was quoted, where a quote was answered
quoted_so : (cat : CatalogueView) (rows retailer made : ℕ) (row : RowNo) (code : RefundCode) (a : Quoted) (asking asked : DeskView) → AddsStepsBy (QuotesRefund cat rows row retailer made a) asking asked → IsQuoteReply a (refund_offer code)
    → AddsStepsBy (QuotesRefund cat rows row retailer made (quoted.Done code)) asking asked
quoted_so cat rows retailer made row code (quoted.Done c) asking asked did (inl is) =
    let same : c ≡ code = cc in
    subst (λ (x : RefundCode). AddsStepsBy (QuotesRefund cat rows row retailer made (quoted.Done x)) asking asked) same did
quoted_so cat rows retailer made row code (quoted.Done c) asking asked did (inr is) = absurd cc
quoted_so cat rows retailer made row code quoted.Unknown asking asked did is = absurd cc
quoted_so cat rows retailer made row code (quoted.WrongState shown) asking asked did is = absurd cc

replied : (code : RefundCode) (now : ℕ) (v : RowSeen) (a : Refunded) (new : DeskView) (reply : Reply) → HonoursRefund code new a → reply ≡ refund_reply code now v a → RepliesHonour code now new reply
replied code now v (refunded.Done amount) new reply honours is = inl (v, is)
replied code now v refunded.Unknown new reply honours is = inr (inr (honours, inl is))
replied code now v (refunded.WrongState shown) new reply honours is = inr (inr (honours, inr (shown, is)))
replied code now v (refunded.QuoteStale made at) new reply honours is = absurd honours
replied code now v refunded.QuoteWrong new reply honours is = absurd honours

pub refund_commands_honoured : RefundCommandsAreHonoured
refund_commands_honoured cat retailer made now row code reply asking asked old new (a, asks, is_quote) (inl ((es, none, did), is)) after time =
    let quote = quoted_so cat cat.rows retailer made row code a asking asked asks is_quote in
    let fresh : is_stale code.made now ≡ false = subst (λ (m : ℕ). is_stale m now ≡ false) (sym (ap (λ (c : RefundCode). c.made) quote.1.1.3)) (in_time made now time) in
    inr (inr (refunds_honoured cat cat.rows retailer made now row code refunded.Unknown asking asked old new quote (es, inl (fresh, none), did) after time, inl is))
refund_commands_honoured cat retailer made now row code reply asking asked old new (a, asks, is_quote) (inr (v, mid, found, inl (b, accepts, is))) after time =
    let quote = quoted_so cat cat.rows retailer made row code a asking asked asks is_quote in
    replied code now v b new reply (refunds_honoured cat cat.rows retailer made now row code b asking asked mid new quote accepts (begins_later asked old mid new found.0 accepts.0 found.2 accepts.2 after) time) is
refund_commands_honoured cat retailer made now row code reply asking asked old new (a, asks, is_quote) (inr (v, mid, found, inr (same, is))) after time = inr (inl is)

-- an exchange

exchange_quoted : (cat : CatalogueView) (rows retailer made : ℕ) (row : RowNo) (offer : OfferView) (code : ExchangeCode) (a : QuotedExchange) (asking asked : DeskView) → AddsStepsBy (QuotesExchange cat rows row retailer offer made a) asking asked → IsExchangeQuote a (exchange_offer code)
    → AddsStepsBy (QuotesExchange cat rows row retailer offer made (quoted_exchange.Done code)) asking asked
exchange_quoted cat rows retailer made row offer code (quoted_exchange.Done c) asking asked did (inl is) =
    let same : c ≡ code = cc in
    subst (λ (x : ExchangeCode). AddsStepsBy (QuotesExchange cat rows row retailer offer made (quoted_exchange.Done x)) asking asked) same did
exchange_quoted cat rows retailer made row offer code (quoted_exchange.Done c) asking asked did (inr is) = absurd cc
exchange_quoted cat rows retailer made row offer code quoted_exchange.Unknown asking asked did is = absurd cc
exchange_quoted cat rows retailer made row offer code (quoted_exchange.WrongState shown) asking asked did is = absurd cc

unready : (cat : CatalogueView) (retailer now : ℕ) (code : ExchangeView) (a : Readied) (p : Problem) (old new : DeskView) (reply : Reply) → HonoursExchange code new a → IsUnready a p → reply ≡ problem p → TriesExchange cat retailer code now old new reply
unready cat retailer now code (readied.Fine ready) p old new reply honours why is = absurd why
unready cat retailer now code readied.Unknown p old new reply honours why is = inr (honours, inl (is ∙ ap (λ (x : Problem). problem x) why))
unready cat retailer now code (readied.WrongState shown) p old new reply honours why is = inr (honours, inr (shown, is ∙ ap (λ (x : Problem). problem x) why))
unready cat retailer now code (readied.QuoteStale made at) p old new reply honours why is = absurd honours
unready cat retailer now code readied.QuoteWrong p old new reply honours why is = absurd honours

pub exchange_commands_honoured : ExchangeCommandsAreHonoured
exchange_commands_honoured cat retailer made now row offer told code reply asking asked old new (a, asks, is_quote) same (inl (b, p, readies, why, is)) after time =
    let quote = exchange_quoted cat cat.rows retailer made row (offer_view offer) told a asking asked asks is_quote in
    let checks = subst (λ (x : ExchangeView). AddsStepsBy (Readies cat cat.rows retailer x now b) old new) (sym same) readies in
    let honours = exchanges_honoured cat cat.rows retailer made now row (offer_view offer) told b asking asked old new quote checks after time in
    unready cat retailer now (exchange_view code) b p old new reply (subst (λ (x : ExchangeView). HonoursExchange x new b) same honours) why is
exchange_commands_honoured cat retailer made now row offer told code reply asking asked old new quote same (inr tried) after time = inl tried

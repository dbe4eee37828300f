-- Calls on refunds leave a desk at home, and a tidy one tidy.
use Rattle.std.proofs.Common.{inl, inr, ℕ, List, Some, None, refl, sym, subst}
use Rattle.history_model.specs.declared.entry.Step.{Step}
use Rattle.history_model.specs.declared.phase.EndKind.TheVariants.{Refund}
use Rattle.history_model.specs.Work.{NoStep}
use Rattle.rail_ids.specs.declared.RowNo.{RowNo}
use Rattle.history_model.specs.declared.phase.Phase.{Phase}
use Rattle.history_model.specs.declared.phase.Phase.TheVariants.{Free}
use Rattle.claim_rule.specs.Rule.{BooksView, DeskView}
use Rattle.claim_rule.specs.Desks.{IsOf}
use Rattle.claim_rule.specs.Calls.{AddsStepsBy}
use Rattle.claim_rule.specs.Out.{exchanges, KeepsHolds, KeepsEndings, EndsNone}
use Rattle.booking_rows.specs.Views.{RowSeen}
use Rattle.booking_rows.specs.Aims.{end_of}
use Rattle.booking_rows.specs.declared.turns.Aim.TheVariants as aim
use Rattle.booking_rows.proofs.Looked.{row_looked}
use Rattle.catalogue_contents.specs.Contents.{CatalogueView}
use Rattle.offer_codes.specs.declared.code.RefundCode.{RefundCode}
use Rattle.refund_core.specs.Quotes.{SeesOwn, SeesNone}
use Rattle.refund_core.specs.Refunding.{QuotesRefund, LosesQuoted, AcceptsRefund}
use Rattle.refund_core.specs.declared.quoting.Quoted.{Quoted}
use Rattle.refund_core.specs.declared.quoting.Quoted.TheVariants as quoted
use Rattle.refund_core.specs.declared.refunding.Refunded.{Refunded}
use Rattle.refund_core.specs.declared.refunding.Refunded.TheVariants as refunded
use Rattle.shop.specs.Homes.{IsAtHome, StaysHome}
use Rattle.booking_service.proofs.Calm.{AreCalm, calm_looks, calm_append, calm_end, calm_find, home_by, home_after}

pub calm_own : (row : RowNo) (retailer : ℕ) (v : RowSeen) → AreCalm (SeesOwn row retailer v)
calm_own row retailer v es saw = calm_looks es (row_looked row (Some v) es saw.1)

pub calm_none : (rows : ℕ) (row : RowNo) (retailer : ℕ) → AreCalm (SeesNone rows row retailer)
calm_none rows row retailer = calm_find rows row retailer None

calm_quotes : (cat : CatalogueView) (rows : ℕ) (row : RowNo) (retailer now : ℕ) (a : Quoted) → AreCalm (QuotesRefund cat rows row retailer now a)
calm_quotes cat rows row retailer now (quoted.Done code) es (here, (v, saw, phase, is)) = calm_own row retailer v es saw
calm_quotes cat rows row retailer now quoted.Unknown es none = calm_none rows row retailer es none
calm_quotes cat rows row retailer now (quoted.WrongState shown) es (here, one, two, (v, saw, is)) = calm_own row retailer v es saw

calm_lost : (code : RefundCode) (v : RowSeen) (front : List Step) (shown : Phase) (es : List Step) → NoStep exchanges front → LosesQuoted code v front shown es → NoStep exchanges es
calm_lost code v front shown es calm (phase, back, (n, ne, shows, lost), is) =
    subst (NoStep exchanges) (sym is) (calm_append front back calm (subst (NoStep exchanges) (sym lost) (refl, tt)))

calm_accepts : (cat : CatalogueView) (rows retailer : ℕ) (code : RefundCode) (now : ℕ) (a : Refunded) → AreCalm (AcceptsRefund cat rows retailer code now a)
calm_accepts cat rows retailer code now (refunded.Done amount) es (same, (v, front, items, right, phase, few, is)) =
    subst (NoStep exchanges) (sym is) (calm_append front _ (calm_own code.row retailer v front right.sees) (refl, calm_end code.row.row Refund (end_of (aim.Refund now code.amount)) items))
calm_accepts cat rows retailer code now refunded.Unknown es (inl (fresh, none)) = calm_none rows code.row retailer es none
calm_accepts cat rows retailer code now refunded.Unknown es (inr (v, front, right, lost)) = calm_lost code v front Free es (calm_own code.row retailer v front right.sees) lost
calm_accepts cat rows retailer code now (refunded.WrongState shown) es (v, front, right, inl (phase, ne, is)) = subst (NoStep exchanges) (sym is) (calm_own code.row retailer v front right.sees)
calm_accepts cat rows retailer code now (refunded.WrongState shown) es (v, front, right, inr (kept, lost)) = calm_lost code v front shown es (calm_own code.row retailer v front right.sees) lost
calm_accepts cat rows retailer code now (refunded.QuoteStale made at) es (stale, one, two, is) = subst (NoStep exchanges) (sym is) tt
calm_accepts cat rows retailer code now refunded.QuoteWrong es (fresh, here, (v, saw, ne)) = calm_own code.row retailer v es saw

-- the calls

pub quoted_home : (cat : CatalogueView) (rows : ℕ) (row : RowNo) (retailer now : ℕ) (a : Quoted) (books : BooksView) (old new : DeskView) → IsOf books new → AddsStepsBy (QuotesRefund cat rows row retailer now a) old new → KeepsHolds old new → KeepsEndings old new → IsAtHome books old → StaysHome books old new
quoted_home cat rows row retailer now a books old new = home_by (QuotesRefund cat rows row retailer now a) books old new (calm_quotes cat rows row retailer now a)

pub accepted_home : (cat : CatalogueView) (rows retailer : ℕ) (code : RefundCode) (now : ℕ) (a : Refunded) (books : BooksView) (old new : DeskView) → IsOf books new → AddsStepsBy (AcceptsRefund cat rows retailer code now a) old new → KeepsHolds old new → EndsNone new → IsAtHome books old → StaysHome books old new
accepted_home cat rows retailer code now a books old new = home_after (AcceptsRefund cat rows retailer code now a) books old new (calm_accepts cat rows retailer code now a)

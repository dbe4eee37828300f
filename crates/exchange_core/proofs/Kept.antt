-- A quote that was checked.
use Rattle.std.proofs.Common.{◌≡◌, ◌≢◌, ℕ, ℤ, pos, negsuc, ◌≤ℤ◌, ◌<◌, false, List, Some, sym, subst, arith}
use Rattle.std.proofs.lemmas.Int.{ints}
use Rattle.history_model.specs.declared.entry.Step.{Step}
use Rattle.history_model.specs.declared.phase.Phase.{Phase}
use Rattle.history_model.specs.Booking.{Layout}
use Rattle.claim_rule.specs.Rule.{DeskView}
use Rattle.claim_rule.specs.Desks.{AddsSteps}
use Rattle.booking_rows.proofs.ViewLemmas.{sealed_on}
use Rattle.booking_rows.specs.Views.{RowSeen}
use Rattle.history_model.specs.declared.phase.EndKind.TheVariants.{Exchange}
use Rattle.history_model.specs.Allowed.{IsAmountOf}
use Rattle.claim_rule.specs.Calls.{AddsStepsBy}
use Rattle.booking_rows.specs.SealedRows.{IsSealedRow}
use Rattle.catalogue_contents.specs.Contents.{CatalogueView}
use Rattle.offer_codes.specs.Exchanges.{ExchangeView}
use Rattle.refund_core.specs.Quotes.{FindsBooking, phase_named, is_stale}
use Rattle.exchange_core.specs.declared.readying.Readied.TheVariants as readied
use Rattle.exchange_core.specs.Exchanges.{difference_at, Readies}
use Rattle.exchange_core.specs.Ready.{ReadyView, IsReadyFor}

-- what was made ready stays so
pub ready_on : (old new : DeskView) (es : List Step) (ready : ReadyView) → AddsSteps old new es → IsReadyFor old ready → IsReadyFor new ready
ready_on old new es ready did is = record {
  row = subst (λ (g : Layout). ready.code.row.row < g.rows) (sym did.same.1) is.row;
  sealed = sealed_on old new es ready.code.row did is.sealed;
  difference = is.difference;
}

-- the booking was seen in the phase that the code names, and the code has the difference of when it was made
pub fine : (cat : CatalogueView) (rows retailer now : ℕ) (code : ExchangeView) (v : RowSeen) (r : ReadyView) (a b : DeskView) → r ≡ record { code = code; retailer = retailer; moment = now } → is_stale code.made now ≡ false
    → code.difference ≡ difference_at cat v code.made code.fulfilled code.offer → v.phase ≡ phase_named code.fulfilled → AddsStepsBy (FindsBooking rows code.row retailer (Some v)) a b → AddsStepsBy (Readies cat rows retailer code now (readied.Fine r)) a b
fine cat rows retailer now code v r a b is fresh difference phase did =
    let f = did.1 in (did.0, (is, (v, record { fresh = fresh; row = f.0; sees = f.1; difference = difference }, phase)), did.2)

-- it was seen in another phase
pub in_other_phase : (cat : CatalogueView) (rows retailer now : ℕ) (code : ExchangeView) (v : RowSeen) (shown : Phase) (a b : DeskView) → is_stale code.made now ≡ false → code.difference ≡ difference_at cat v code.made code.fulfilled code.offer → v.phase ≡ shown
    → shown ≢ phase_named code.fulfilled → AddsStepsBy (FindsBooking rows code.row retailer (Some v)) a b → AddsStepsBy (Readies cat rows retailer code now (readied.WrongState shown)) a b
in_other_phase cat rows retailer now code v shown a b fresh difference phase other did =
    let f = did.1 in (did.0, (other, (v, record { fresh = fresh; row = f.0; sees = f.1; difference = difference }, phase)), did.2)

-- it may be carried out
pub is_ready : (g : Layout) (desk : DeskView) (code : ExchangeView) (retailer now : ℕ) (r : ReadyView) (d : ℤ) → r ≡ record { code = code; retailer = retailer; moment = now } → desk.layout ≡ g → code.row.row < g.rows → IsSealedRow desk code.row → d ≡ code.difference
    → negsuc 99999999998 ≤ℤ d → d ≤ℤ pos 99999999999 → IsReadyFor desk r
is_ready g desk code retailer now r d is same row sealed amount least most =
    subst (IsReadyFor desk) (sym is) (record {
      row = subst (λ (x : Layout). code.row.row < x.rows) (sym same) row;
      sealed = sealed;
      difference = subst (IsAmountOf Exchange) amount (least, most_difference d most);
    })
  where
    most_difference : (d : ℤ) → d ≤ℤ pos 99999999999 → d ≤ℤ pos 100009999999
    most_difference d l = omega (arith, ints, l)

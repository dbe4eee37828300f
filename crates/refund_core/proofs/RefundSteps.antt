-- The steps of an acceptance, from those of its look and of its end.
use Rattle.std.proofs.Common.{◌≡◌, ◌≢◌, inl, inr, ℕ, pos, ◌≤ℤ◌, ◌<◌, ◌≤◌, Bool, true, false, List, ◌++◌, length, Some, None, refl, subst, sym, arith, ◌+◌, ◌*◌}
use Rattle.std.proofs.lemmas.Int.{ints}
use Rattle.history_model.specs.History.{own}
use Rattle.rail_ids.specs.declared.RowNo.{RowNo}
use Rattle.history_model.specs.Booking.{Layout, most_items}
use Rattle.history_model.specs.declared.phase.Phase.{Phase}
use Rattle.history_model.specs.declared.phase.Phase.TheVariants.{Free, Ending}
use Rattle.history_model.specs.declared.phase.EndKind.TheVariants.{Refund}
use Rattle.history_model.specs.declared.entry.Step.{Step}
use Rattle.history_model.specs.Phase.{is_turn}
use Rattle.history_model.specs.WholeEnds.{end_at}
use Rattle.claim_rule.specs.Rule.{DeskView}
use Rattle.claim_rule.specs.Desks.{AddsAtMost, CanTurn}
use Rattle.claim_rule.specs.Calls.{AddsStepsBy}
use Rattle.claim_rule.proofs.Shapes.{shape_then, adds_length}
use Rattle.booking_rows.specs.declared.turns.Aim.TheVariants as aim
use Rattle.booking_rows.specs.Aims.{end_of}
use Rattle.booking_rows.specs.Views.{RowSeen}
use Rattle.booking_rows.specs.SealedRows.{IsSealedRow}
use Rattle.confirm_core.specs.RowEnds.{EndsBooking}
use Rattle.confirm_core.proofs.Deciding.{can_turn}
use Rattle.confirm_core.proofs.Finishing.{ends_length}
use Rattle.catalogue_contents.specs.Contents.{CatalogueView}
use Rattle.offer_codes.specs.declared.code.RefundCode.{RefundCode}
use Rattle.refund_core.specs.declared.refunding.Refunded.TheVariants as refunded
use Rattle.refund_core.specs.Quotes.{FindsBooking, phase_named, is_stale, refund_at}
use Rattle.refund_core.specs.Refunding.{IsRight, LosesQuoted, AcceptsRefund}

-- the turn may be made, from whichever of the two phases

named_turns : (f : Bool) → is_turn (phase_named f) (Ending Refund) ≡ true
named_turns true = refl
named_turns false = refl

pub may_refund : (lay : Layout) (desk : DeskView) (row : RowNo) (from : Phase) (f : Bool) (now amount : ℕ) → from ≡ phase_named f → desk.layout ≡ lay → row.row < lay.rows → now ≤ 4102444799 → amount ≤ 99999999999 → IsSealedRow desk row → CanTurn lay desk.seen desk.number row from (Ending Refund) (end_at now (pos amount) 0)
may_refund lay desk row from f now amount is same here years most sealed =
    can_turn lay desk row from (Ending Refund) (end_at now (pos amount) 0) same here (subst (λ (p : Phase). is_turn p (Ending Refund) ≡ true) (sym is) (named_turns f)) years (λ limit. ((least amount, most_amount amount most), refl)) sealed
  where
    least : (n : ℕ) → pos 0 ≤ℤ pos n
    least n = omega (arith, ints)

    most_amount : (n : ℕ) → n ≤ 99999999999 → pos n ≤ℤ pos 99999999999
    most_amount n l = omega (arith, ints, l)

-- the booking was seen, and then the code's phase asked for

right : (cat : CatalogueView) (rows retailer now : ℕ) (code : RefundCode) (v : RowSeen) (a b : DeskView) → is_stale code.made now ≡ false → code.amount ≡ refund_at cat v code.made code.fulfilled
    → (did : AddsStepsBy (FindsBooking rows code.row retailer (Some v)) a b) → IsRight cat rows retailer code now v did.0
right cat rows retailer now code v a b fresh amount did = let f = did.1 in record { fresh = fresh; row = f.0; sees = f.1; amount = amount }

-- a quote that isn't stale, with no booking seen, and one seen in another phase than the code names

pub none_refunded : (cat : CatalogueView) (rows retailer now : ℕ) (code : RefundCode) (a b : DeskView) → is_stale code.made now ≡ false → AddsStepsBy (FindsBooking rows code.row retailer None) a b → AddsStepsBy (AcceptsRefund cat rows retailer code now refunded.Unknown) a b
none_refunded cat rows retailer now code a b fresh did = (did.0, inl (fresh, did.1), did.2)

pub wrong_refund : (cat : CatalogueView) (rows retailer now : ℕ) (code : RefundCode) (v : RowSeen) (shown : Phase) (a b : DeskView) → is_stale code.made now ≡ false → code.amount ≡ refund_at cat v code.made code.fulfilled → v.phase ≡ shown → shown ≢ phase_named code.fulfilled
    → AddsStepsBy (FindsBooking rows code.row retailer (Some v)) a b → AddsStepsBy (AcceptsRefund cat rows retailer code now (refunded.WrongState shown)) a b
wrong_refund cat rows retailer now code v shown a b fresh amount phase other did = (did.0, (v, did.0, right cat rows retailer now code v a b fresh amount did, inl (phase, other, refl)), did.2)

pub refunds : (cat : CatalogueView) (rows retailer now : ℕ) (code : RefundCode) (v : RowSeen) (from : Phase) (a b c : DeskView) → is_stale code.made now ≡ false → code.amount ≡ refund_at cat v code.made code.fulfilled → v.phase ≡ phase_named code.fulfilled
    → from ≡ phase_named code.fulfilled → AddsStepsBy (FindsBooking rows code.row retailer (Some v)) a b → AddsStepsBy (EndsBooking code.row from Refund (aim.Refund now code.amount) None) b c
    → AddsStepsBy (AcceptsRefund cat rows retailer code now (refunded.Done code.amount)) a c
refunds cat rows retailer now code v from a b c fresh amount phase is did was =
    let ended : AddsStepsBy (EndsBooking code.row (phase_named code.fulfilled) Refund (aim.Refund now code.amount) None) b c = subst (λ (p : Phase). AddsStepsBy (EndsBooking code.row p Refund (aim.Refund now code.amount) None) b c) is was in
    let e = ended.1 in
    (did.0 ++ ended.0, (refl, (v, did.0, e.0, right cat rows retailer now code v a b fresh amount did, phase, e.1, (λ i. did.0 ++ e.2 i))), shape_then a b c did.0 ended.0 did.2 ended.2)

-- the turn was lost
loses_quoted : (retailer rows now : ℕ) (code : RefundCode) (v : RowSeen) (from shown : Phase) (a b c : DeskView) → v.phase ≡ phase_named code.fulfilled → from ≡ phase_named code.fulfilled
    → (did : AddsStepsBy (FindsBooking rows code.row retailer (Some v)) a b) (was : AddsStepsBy (EndsBooking code.row from Refund (aim.Refund now code.amount) (Some shown)) b c) → LosesQuoted code v did.0 shown (did.0 ++ was.0)
loses_quoted retailer rows now code v from shown a b c phase is did was =
    (phase, was.0, subst (λ (p : Phase). EndsBooking code.row p Refund (aim.Refund now code.amount) (Some shown) was.0) is was.1, refl)

pub gives_refund_away : (cat : CatalogueView) (rows retailer now : ℕ) (code : RefundCode) (v : RowSeen) (from : Phase) (a b c : DeskView) → is_stale code.made now ≡ false → code.amount ≡ refund_at cat v code.made code.fulfilled → v.phase ≡ phase_named code.fulfilled
    → from ≡ phase_named code.fulfilled → AddsStepsBy (FindsBooking rows code.row retailer (Some v)) a b → AddsStepsBy (EndsBooking code.row from Refund (aim.Refund now code.amount) (Some Free)) b c
    → AddsStepsBy (AcceptsRefund cat rows retailer code now refunded.Unknown) a c
gives_refund_away cat rows retailer now code v from a b c fresh amount phase is did was =
    (did.0 ++ was.0, inr (v, did.0, right cat rows retailer now code v a b fresh amount did, loses_quoted retailer rows now code v from Free a b c phase is did was), shape_then a b c did.0 was.0 did.2 was.2)

pub loses_refund : (cat : CatalogueView) (rows retailer now : ℕ) (code : RefundCode) (v : RowSeen) (from shown : Phase) (a b c : DeskView) → is_stale code.made now ≡ false → code.amount ≡ refund_at cat v code.made code.fulfilled → v.phase ≡ phase_named code.fulfilled
    → from ≡ phase_named code.fulfilled → shown ≢ Free → AddsStepsBy (FindsBooking rows code.row retailer (Some v)) a b → AddsStepsBy (EndsBooking code.row from Refund (aim.Refund now code.amount) (Some shown)) b c
    → AddsStepsBy (AcceptsRefund cat rows retailer code now (refunded.WrongState shown)) a c
loses_refund cat rows retailer now code v from shown a b c fresh amount phase is some did was =
    (did.0 ++ was.0, (v, did.0, right cat rows retailer now code v a b fresh amount did, inr (some, loses_quoted retailer rows now code v from shown a b c phase is did was)), shape_then a b c did.0 was.0 did.2 was.2)

-- how many entries there are

adds_then : (a b c : DeskView) (m n : ℕ) → b.number ≡ a.number → AddsAtMost m a b → AddsAtMost n b c → AddsAtMost (m + n) a c
adds_then a b c m n same few more =
    let here : length (own c.seen a.number) ≤ length (own b.seen a.number) + n = subst (λ (d : ℕ). length (own c.seen d) ≤ length (own b.seen d) + n) same more in
    omega (arith, few, here)

pub ended_bound : (row : RowNo) (now amount : ℕ) (from : Phase) (a b c : DeskView) → b.number ≡ a.number → AddsAtMost (most_items + 9) a b → AddsStepsBy (EndsBooking row from Refund (aim.Refund now amount) None) b c → AddsAtMost (3 * most_items + 15) a c
ended_bound row now amount from a b c same few ended =
    let e = ended.1 in
    adds_then a b c (most_items + 9) (2 * most_items + 6) same few (adds_length b c ended.0 (2 * most_items + 6) ended.2 (subst (λ (k : List Step). length k ≤ 2 * most_items + 6) (sym e.2) (ends_length row.row from Refund (end_of (aim.Refund now amount)) e.0 e.1)))

pub lost_bound : (row : RowNo) (now amount : ℕ) (from shown : Phase) (a b c : DeskView) → b.number ≡ a.number → AddsAtMost (most_items + 9) a b → AddsStepsBy (EndsBooking row from Refund (aim.Refund now amount) (Some shown)) b c → AddsAtMost (3 * most_items + 15) a c
lost_bound row now amount from shown a b c same few lost =
    adds_then a b c (most_items + 9) (2 * most_items + 6) same few (adds_length b c lost.0 (2 * most_items + 6) lost.2 (subst (λ (k : List Step). length k ≤ 2 * most_items + 6) (sym lost.1.3) (omega arith)))

-- The steps of a release, from those of its search and of its end.
use Rattle.std.proofs.Common.{◌≡◌, ◌≢◌, inl, inr, ℕ, ◌≤◌, List, ◌++◌, length, Some, None, refl, sym, ap, ◌∙◌, subst, arith, length-append, ◌+◌, ◌*◌}
use Rattle.rail_ids.specs.declared.RowNo.{RowNo}
use Rattle.history_model.specs.Booking.{most_items}
use Rattle.history_model.specs.declared.entry.Step.{Step}
use Rattle.history_model.specs.declared.phase.Phase.{Phase}
use Rattle.history_model.specs.declared.phase.Phase.TheVariants.{Free, Prebooked}
use Rattle.history_model.specs.declared.phase.EndKind.TheVariants.{Release}
use Rattle.claim_rule.specs.Rule.{DeskView}
use Rattle.claim_rule.specs.Calls.{AddsStepsBy}
use Rattle.claim_rule.proofs.Shapes.{shape_then}
use Rattle.booking_rows.specs.declared.turns.Aim.TheVariants as aim
use Rattle.booking_rows.specs.Aims.{end_of}
use Rattle.confirm_core.specs.Looks.{saw_owner, FindsOwned, SawOwned}
use Rattle.confirm_core.specs.RowEnds.{EndsBooking, ends_as}
use Rattle.confirm_core.proofs.Deciding.{unknown_most, wrong_most, loses_most}
use Rattle.confirm_core.proofs.Finishing.{ends_length}
use Rattle.refund_core.specs.declared.releasing.Released.{Released}
use Rattle.refund_core.specs.declared.releasing.Released.TheVariants as released
use Rattle.refund_core.specs.Releasing.{Releases}

pub wrong_at_look : (rows : ℕ) (row : RowNo) (retailer now : ℕ) (shown : Phase) (a b : DeskView) → shown ≢ Prebooked → AddsStepsBy (FindsOwned rows row retailer (Some shown)) a b → AddsStepsBy (Releases rows row retailer now (released.WrongState shown)) a b
wrong_at_look rows row retailer now shown a b ne did = let f = did.1 in (did.0, (f.0, inl (ne, f.1, f.2)), did.2)

pub releases : (rows : ℕ) (row : RowNo) (retailer now : ℕ) (shown : Phase) (a b c : DeskView) → shown ≡ Prebooked → AddsStepsBy (FindsOwned rows row retailer (Some shown)) a b → AddsStepsBy (EndsBooking row Prebooked Release (aim.Release now) None) b c → AddsStepsBy (Releases rows row retailer now released.Done) a c
releases rows row retailer now shown a b c is did ended =
    let f = did.1 in
    let saw = f.2 in
    let e = ended.1 in
    (did.0 ++ ended.0, (f.0, (saw.0, e.0, saw.1, e.1, (λ i. (saw.2 ∙ ap (λ (p : Phase). saw_owner row p retailer saw.0) is) i ++ e.2 i))), shape_then a b c did.0 ended.0 did.2 ended.2)

pub gives_away : (rows : ℕ) (row : RowNo) (retailer now : ℕ) (was : Phase) (a b c : DeskView) → was ≡ Prebooked → AddsStepsBy (FindsOwned rows row retailer (Some was)) a b → AddsStepsBy (EndsBooking row Prebooked Release (aim.Release now) (Some Free)) b c → AddsStepsBy (Releases rows row retailer now released.Unknown) a c
gives_away rows row retailer now was a b c is did lost =
    let f = did.1 in
    (did.0 ++ lost.0, inr (f.0, (did.0, lost.0, subst (λ (p : Phase). SawOwned row retailer p did.0) is f.2, lost.1, refl)), shape_then a b c did.0 lost.0 did.2 lost.2)

pub loses : (rows : ℕ) (row : RowNo) (retailer now : ℕ) (was shown : Phase) (a b c : DeskView) → was ≡ Prebooked → shown ≢ Free → AddsStepsBy (FindsOwned rows row retailer (Some was)) a b → AddsStepsBy (EndsBooking row Prebooked Release (aim.Release now) (Some shown)) b c → AddsStepsBy (Releases rows row retailer now (released.WrongState shown)) a c
loses rows row retailer now was shown a b c is some did lost =
    let f = did.1 in
    (did.0 ++ lost.0, (f.0, inr (some, did.0, lost.0, subst (λ (p : Phase). SawOwned row retailer p did.0) is f.2, lost.1, refl)), shape_then a b c did.0 lost.0 did.2 lost.2)

-- how many entries there are

owned_length : (row : RowNo) (retailer : ℕ) (was : Phase) (es : List Step) → SawOwned row retailer was es → length es ≤ 3
owned_length row retailer was es saw = subst (λ (k : List Step). length k ≤ 3) (sym saw.2) (omega arith)

pub releases_length : (rows : ℕ) (row : RowNo) (retailer now : ℕ) (answer : Released) (es : List Step) → Releases rows row retailer now answer es → length es ≤ 2 * most_items + 9
releases_length rows row retailer now released.Done es (here, (last, items, kept, few, is)) =
    let l = ends_length row.row Prebooked Release (end_of (aim.Release now)) items few in
    let m = length-append (saw_owner row Prebooked retailer last) (ends_as row.row Prebooked Release (end_of (aim.Release now)) items) in
    subst (λ (k : List Step). length k ≤ 2 * most_items + 9) (sym is) (omega arith)
releases_length rows row retailer now released.Unknown es (inl not) =
    let l = unknown_most rows row retailer 3 (λ shown who last es'. es' ≡ saw_owner row shown who last) (omega arith) (λ shown who last es' saw. subst (λ (k : List Step). length k ≤ 3) (sym saw) (omega arith)) es not in omega arith
releases_length rows row retailer now released.Unknown es (inr (here, lost)) =
    let l = loses_most row 3 Prebooked (SawOwned row retailer) (owned_length row retailer) es lost in omega arith
releases_length rows row retailer now (released.WrongState shown) es (here, wrong) =
    let l = wrong_most row 3 Prebooked shown (SawOwned row retailer) (owned_length row retailer) es wrong in omega arith

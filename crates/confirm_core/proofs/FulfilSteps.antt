-- The steps of a fulfilment, from those of its search and of its turn.
use Rattle.std.proofs.Common.{◌≡◌, ◌≢◌, inl, inr, ℕ, ◌≤◌, List, [], ◌∷◌, ◌++◌, length, Some, None, refl, sym, ap, ◌∙◌, subst, arith}
use Rattle.history_model.specs.declared.entry.Step.{Step}
use Rattle.history_model.specs.declared.phase.Phase.{Phase}
use Rattle.history_model.specs.declared.phase.Phase.TheVariants.{Free, Confirmed}
use Rattle.rail_ids.specs.declared.RowNo.{RowNo}
use Rattle.claim_rule.specs.Rule.{DeskView}
use Rattle.claim_rule.specs.Calls.{AddsStepsBy}
use Rattle.claim_rule.proofs.Shapes.{shape_then}
use Rattle.booking_rows.specs.declared.turns.Aim.TheVariants as aim
use Rattle.booking_rows.specs.Aims.{turn_of, LosesTurn}
use Rattle.confirm_core.specs.Looks.{saw_owner, FindsOwned, SawOwned}
use Rattle.confirm_core.proofs.Deciding.{unknown_most, wrong_most, loses_most}
use Rattle.confirm_core.specs.declared.fulfilling.Fulfilment.{Fulfilment}
use Rattle.confirm_core.specs.declared.fulfilling.Fulfilment.TheVariants as fulfilled
use Rattle.confirm_core.specs.Fulfilling.{Fulfils}

pub unknown : (rows : ℕ) (row : RowNo) (retailer : ℕ) (a b : DeskView) → AddsStepsBy (FindsOwned rows row retailer None) a b → AddsStepsBy (Fulfils rows row retailer fulfilled.Unknown) a b
unknown rows row retailer a b did = (did.0, inl did.1, did.2)

pub wrong_at_look : (rows : ℕ) (row : RowNo) (retailer : ℕ) (shown : Phase) (a b : DeskView) → shown ≢ Confirmed → AddsStepsBy (FindsOwned rows row retailer (Some shown)) a b → AddsStepsBy (Fulfils rows row retailer (fulfilled.WrongState shown)) a b
wrong_at_look rows row retailer shown a b ne did = let f = did.1 in (did.0, (f.0, inl (ne, f.1, f.2)), did.2)

pub fulfils : (rows : ℕ) (row : RowNo) (retailer : ℕ) (shown : Phase) (a b c : DeskView) → shown ≡ Confirmed → AddsStepsBy (FindsOwned rows row retailer (Some shown)) a b → AddsStepsBy (λ es. es ≡ turn_of row.row Confirmed aim.Fulfil ∷ []) b c → AddsStepsBy (Fulfils rows row retailer fulfilled.Done) a c
fulfils rows row retailer shown a b c is did turned =
    let f = did.1 in
    (did.0 ++ turned.0, (f.0, (f.2.0, f.2.1, (λ i. (f.2.2 ∙ ap (λ (p : Phase). saw_owner row p retailer f.2.0) is) i ++ turned.1 i))), shape_then a b c did.0 turned.0 did.2 turned.2)

pub loses : (rows : ℕ) (row : RowNo) (retailer : ℕ) (was shown : Phase) (a b c : DeskView) → was ≡ Confirmed → shown ≢ Free → AddsStepsBy (FindsOwned rows row retailer (Some was)) a b → AddsStepsBy (LosesTurn row Confirmed shown) b c → AddsStepsBy (Fulfils rows row retailer (fulfilled.WrongState shown)) a c
loses rows row retailer was shown a b c is some did lost =
    let f = did.1 in
    (did.0 ++ lost.0, (f.0, inr (some, did.0, lost.0, (f.2.0, f.2.1, f.2.2 ∙ ap (λ (p : Phase). saw_owner row p retailer f.2.0) is), lost.1, refl)), shape_then a b c did.0 lost.0 did.2 lost.2)

pub given_away : (rows : ℕ) (row : RowNo) (retailer : ℕ) (was shown : Phase) (a b c : DeskView) → was ≡ Confirmed → shown ≡ Free → AddsStepsBy (FindsOwned rows row retailer (Some was)) a b → AddsStepsBy (LosesTurn row Confirmed shown) b c → AddsStepsBy (Fulfils rows row retailer fulfilled.Unknown) a c
given_away rows row retailer was shown a b c is free did lost =
    let f = did.1 in
    let away : LosesTurn row Confirmed Free lost.0 = subst (λ (p : Phase). LosesTurn row Confirmed p lost.0) free lost.1 in
    (did.0 ++ lost.0, inr (f.0, (did.0, lost.0, (f.2.0, f.2.1, f.2.2 ∙ ap (λ (p : Phase). saw_owner row p retailer f.2.0) is), away, refl)), shape_then a b c did.0 lost.0 did.2 lost.2)

owned_length : (row : RowNo) (retailer : ℕ) (was : Phase) (es : List Step) → SawOwned row retailer was es → length es ≤ 3
owned_length row retailer was es saw = subst (λ (l : List Step). length l ≤ 3) (sym saw.2) (omega arith)

pub fulfils_length : (rows : ℕ) (row : RowNo) (retailer : ℕ) (answer : Fulfilment) (es : List Step) → Fulfils rows row retailer answer es → length es ≤ 6
fulfils_length rows row retailer fulfilled.Done es (here, (last, kept, is)) = subst (λ (l : List Step). length l ≤ 6) (sym is) (omega arith)
fulfils_length rows row retailer fulfilled.Unknown es (inl not) =
    let l = unknown_most rows row retailer 3 (λ shown who last es'. es' ≡ saw_owner row shown who last) (omega arith) (λ shown who last es' saw. subst (λ (k : List Step). length k ≤ 3) (sym saw) (omega arith)) es not in omega arith
fulfils_length rows row retailer fulfilled.Unknown es (inr (here, lost)) = let l = loses_most row 3 Confirmed (SawOwned row retailer) (owned_length row retailer) es lost in omega arith
fulfils_length rows row retailer (fulfilled.WrongState shown) es (here, wrong) = let l = wrong_most row 3 Confirmed shown (SawOwned row retailer) (owned_length row retailer) es wrong in omega arith

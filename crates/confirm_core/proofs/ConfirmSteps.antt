-- The steps of a confirmation, from those of its search and of its turn.
use Rattle.std.proofs.Common.{◌≡◌, ◌≢◌, inl, inr, ℕ, ◌≤◌, ◌<◌, List, [], ◌∷◌, ◌++◌, length, Some, None, refl, sym, ap, ◌∙◌, subst, arith}
use Rattle.history_model.specs.declared.entry.Step.{Step}
use Rattle.history_model.specs.declared.phase.Phase.{Phase}
use Rattle.history_model.specs.declared.phase.Phase.TheVariants.{Free, Prebooked}
use Rattle.rail_ids.specs.declared.RowNo.{RowNo}
use Rattle.claim_rule.specs.Rule.{DeskView}
use Rattle.claim_rule.specs.Calls.{AddsStepsBy}
use Rattle.claim_rule.proofs.Shapes.{shape_then}
use Rattle.booking_rows.specs.declared.turns.Aim.TheVariants as aim
use Rattle.booking_rows.specs.Aims.{turn_of, LosesTurn}
use Rattle.confirm_core.specs.Looks.{saw_terms}
use Rattle.confirm_core.proofs.Deciding.{unknown_most, wrong_most, loses_most}
use Rattle.confirm_core.specs.declared.confirming.Terms.{Terms}
use Rattle.confirm_core.specs.declared.confirming.Confirmed.{Confirmed}
use Rattle.confirm_core.specs.declared.confirming.Confirmed.TheVariants as confirmed
use Rattle.confirm_core.specs.Confirming.{SawTerms, FindsTerms, SawInTime, Confirms}

pub unknown : (rows : ℕ) (row : RowNo) (retailer now : ℕ) (a b : DeskView) → AddsStepsBy (FindsTerms rows row retailer None) a b → AddsStepsBy (Confirms rows row retailer now confirmed.Unknown) a b
unknown rows row retailer now a b did = (did.0, inl did.1, did.2)

pub wrong_at_look : (rows : ℕ) (row : RowNo) (retailer now : ℕ) (t : Terms) (a b : DeskView) → t.shown ≢ Prebooked → AddsStepsBy (FindsTerms rows row retailer (Some t)) a b → AddsStepsBy (Confirms rows row retailer now (confirmed.WrongState t.shown)) a b
wrong_at_look rows row retailer now t a b ne did =
    let f = did.1 in
    (did.0, (f.0, (t.limit, inl (ne, f.1, ((λ e. absurd (ne e)), f.2)))), did.2)

-- the looks, where they show the booking prebooked
as_prebooked : (row : RowNo) (retailer last : ℕ) (t : Terms) (es : List Step) → t.shown ≡ Prebooked → es ≡ saw_terms row t.shown retailer t.limit last → es ≡ saw_terms row Prebooked retailer t.limit last
as_prebooked row retailer last t es is e = e ∙ ap (λ (p : Phase). saw_terms row p retailer t.limit last) is

pub too_late : (rows : ℕ) (row : RowNo) (retailer now : ℕ) (t : Terms) (a b : DeskView) → t.shown ≡ Prebooked → t.limit < now → AddsStepsBy (FindsTerms rows row retailer (Some t)) a b → AddsStepsBy (Confirms rows row retailer now (confirmed.TooLate t.limit)) a b
too_late rows row retailer now t a b is late did =
    let f = did.1 in
    (did.0, (f.0, late, (f.2.0, f.2.1, as_prebooked row retailer f.2.0 t did.0 is f.2.2)), did.2)

pub confirms : (rows : ℕ) (row : RowNo) (retailer now : ℕ) (t : Terms) (a b c : DeskView) → t.shown ≡ Prebooked → now ≤ t.limit → AddsStepsBy (FindsTerms rows row retailer (Some t)) a b → AddsStepsBy (λ es. es ≡ turn_of row.row Prebooked (aim.Confirm now) ∷ []) b c → AddsStepsBy (Confirms rows row retailer now confirmed.Done) a c
confirms rows row retailer now t a b c is early did turned =
    let f = did.1 in
    (did.0 ++ turned.0, (f.0, (t.limit, f.2.0, early, f.2.1, (λ i. as_prebooked row retailer f.2.0 t did.0 is f.2.2 i ++ turned.1 i))), shape_then a b c did.0 turned.0 did.2 turned.2)

pub loses : (rows : ℕ) (row : RowNo) (retailer now : ℕ) (t : Terms) (shown : Phase) (a b c : DeskView) → t.shown ≡ Prebooked → now ≤ t.limit → shown ≢ Free → AddsStepsBy (FindsTerms rows row retailer (Some t)) a b → AddsStepsBy (LosesTurn row Prebooked shown) b c → AddsStepsBy (Confirms rows row retailer now (confirmed.WrongState shown)) a c
loses rows row retailer now t shown a b c is early some did lost =
    let f = did.1 in
    (did.0 ++ lost.0, (f.0, (t.limit, inr (some, did.0, lost.0, ((λ e. early), (f.2.0, f.2.1, as_prebooked row retailer f.2.0 t did.0 is f.2.2)), lost.1, refl))), shape_then a b c did.0 lost.0 did.2 lost.2)

pub given_away : (rows : ℕ) (row : RowNo) (retailer now : ℕ) (t : Terms) (shown : Phase) (a b c : DeskView) → t.shown ≡ Prebooked → now ≤ t.limit → shown ≡ Free → AddsStepsBy (FindsTerms rows row retailer (Some t)) a b → AddsStepsBy (LosesTurn row Prebooked shown) b c → AddsStepsBy (Confirms rows row retailer now confirmed.Unknown) a c
given_away rows row retailer now t shown a b c is early free did lost =
    let f = did.1 in
    let away : LosesTurn row Prebooked Free lost.0 = subst (λ (p : Phase). LosesTurn row Prebooked p lost.0) free lost.1 in
    (did.0 ++ lost.0, inr (f.0, (t.limit, (did.0, lost.0, ((λ e. early), (f.2.0, f.2.1, as_prebooked row retailer f.2.0 t did.0 is f.2.2)), away, refl))), shape_then a b c did.0 lost.0 did.2 lost.2)

-- few steps

terms_length : (row : RowNo) (shown : Phase) (who last : ℕ) (es : List Step) → SawTerms row shown who last es → length es ≤ 4
terms_length row shown who last es saw = subst (λ (l : List Step). length l ≤ 4) (sym saw.1) (omega arith)

in_time_length : (row : RowNo) (retailer now limit : ℕ) (was : Phase) (es : List Step) → SawInTime row retailer now limit was es → length es ≤ 4
in_time_length row retailer now limit was es saw = subst (λ (l : List Step). length l ≤ 4) (sym saw.1.2) (omega arith)

pub confirms_length : (rows : ℕ) (row : RowNo) (retailer now : ℕ) (answer : Confirmed) (es : List Step) → Confirms rows row retailer now answer es → length es ≤ 6
confirms_length rows row retailer now confirmed.Done es (here, (limit, last, early, kept, is)) = subst (λ (l : List Step). length l ≤ 6) (sym is) (omega arith)
confirms_length rows row retailer now confirmed.Unknown es (inl not) = let l = unknown_most rows row retailer 4 (SawTerms row) (omega arith) (terms_length row) es not in omega arith
confirms_length rows row retailer now confirmed.Unknown es (inr (here, (limit, lost))) =
    let l = loses_most row 4 Prebooked (SawInTime row retailer now limit) (in_time_length row retailer now limit) es lost in omega arith
confirms_length rows row retailer now (confirmed.TooLate limit) es (here, late, (last, kept, is)) = subst (λ (l : List Step). length l ≤ 6) (sym is) (omega arith)
confirms_length rows row retailer now (confirmed.WrongState shown) es (here, (limit, wrong)) =
    let l = wrong_most row 4 Prebooked shown (SawInTime row retailer now limit) (in_time_length row retailer now limit) es wrong in omega arith

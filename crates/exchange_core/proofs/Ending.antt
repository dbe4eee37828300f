-- The successor of an exchange, before it is sealed.
use Rattle.std.proofs.Common.{◌≡◌, inl, inr, suc, Bool, true, false, cond, List, [], ◌∷◌, Option, Some, None, refl, sym, ap, ◌∙◌, subst, arith}
use Rattle.std.specs.List.{Any, find}
use Rattle.history_model.specs.declared.phase.Phase.TheVariants.{Confirmed, Ending}
use Rattle.history_model.specs.declared.phase.EndKind.{EndKind}
use Rattle.history_model.specs.declared.phase.EndKind.TheVariants.{Exchange}
use Rattle.history_model.specs.declared.booking.End.{End}
use Rattle.history_model.specs.Booking.{stands_in, successor_word}
use Rattle.history_model.specs.Allowed.{MaySealAs, IsExchangedFor, IsMadeBy, IsSuccessor}
use Rattle.history_model.proofs.Generations.{present_latest}
use Rattle.history_model.proofs.Owners.{on_row}
use Rattle.claim_rule.specs.Rule.{DeskView, state_seen}
use Rattle.claim_rule.specs.Endings.{EndingView}
use Rattle.claim_rule.specs.Holds.{HoldView}
use Rattle.claim_rule.specs.Out.{IsHolding, IsEnding, MaySealHold}

-- a booking that is found stands in the list
any_found : {X : Type 0} (P : X → Type 0) (p : X → Bool) (xs : List X) (b : X) → find p xs ≡ Some b → P b → Any P xs
any_found {X = X} P p [] b e h = absurd (let no : ◌≡◌ {A = Option X} None (Some b) = e in cc)
any_found {X = X} P p (x ∷ xs) b e h = here (λ f. any_found P p xs b f h) (p x) e
  where
    here : (find p xs ≡ Some b → Any P xs) → (t : Bool) → cond t (Some x) (find p xs) ≡ Some b → Any P (x ∷ xs)
    here later true f = let same : b ≡ x = cc in (0, x, (omega arith), refl, subst P same h)
    here later false f = let t = later f in (suc t.0, t.1, (let l = t.2 in omega arith), t.3, t.4)

-- the booking of a hold is this successor
pub is_successor : (desk : DeskView) (hold : HoldView) → IsHolding desk hold → IsSuccessor (state_seen desk) desk.number (successor_word hold.row.row hold.row.generation)
is_successor desk hold is =
    let st = is.of.0 in
    let s = state_seen desk in
    let row = (present_latest s hold.row.row st.booking st.found).0 in
    any_found (λ b. IsMadeBy desk.number b × (successor_word b.row b.generation ≡ successor_word hold.row.row hold.row.generation)) (stands_in s hold.row.row) s st.booking st.found
    ((st.making, st.owner), λ i. successor_word (row i) (st.generation i))

-- the successor of an exchange that the desk has out may be sealed as confirmed
pub may_seal : (desk : DeskView) (e : EndingView) (hold : HoldView) → IsEnding desk e → IsHolding desk hold → e.kind ≡ Exchange → e.end.successor ≡ successor_word hold.row.row hold.row.generation → MaySealHold desk hold Confirmed
may_seal desk e hold is holds kind successor =
    let s = state_seen desk in
    let b = is.of.booking in
    let st = holds.of.0 in
    let row = (present_latest s hold.row.row st.booking st.found).0 in
    on_row s hold.row.row st.booking (λ b. MaySealAs s desk.number b Confirmed) st.found (inr (
      refl,
      any_found (IsExchangedFor desk.number (successor_word st.booking.row st.booking.generation)) (stands_in s e.row.row) s b is.of.found
          (is.of.owner, ap (λ (x : End). x.successor) is.of.end ∙ (successor ∙ (λ i. successor_word (sym row i) (sym st.generation i))), inl (is.of.phase ∙ ap (λ (k : EndKind). Ending k) kind)),
    ))

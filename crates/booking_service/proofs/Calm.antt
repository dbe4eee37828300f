-- Calls that turn nothing to an exchange leave a desk at home, and a tidy one tidy.
use Rattle.std.proofs.Common.{◌≡◌, inl, inr, ℕ, suc, zero, true, false, List, [], ◌∷◌, ◌++◌, length, Option, Some, None, refl, sym, subst}
use Rattle.leg_masks.specs.Interval.{PlacedSpan as Item}
use Rattle.history_model.specs.declared.entry.Step.{Step}
use Rattle.history_model.specs.declared.entry.Step.TheVariants.{Look, Take, Give, Start, SawRow, Note, Seal, Turn, LostTurn, Close, Met}
use Rattle.rail_ids.specs.declared.RowNo.{RowNo}
use Rattle.history_model.specs.declared.phase.Phase.{Phase}
use Rattle.history_model.specs.declared.phase.Phase.TheVariants.{Free, Prebooked}
use Rattle.history_model.specs.declared.phase.Phase.TheVariants as phase
use Rattle.history_model.specs.declared.phase.EndKind.{EndKind}
use Rattle.history_model.specs.declared.phase.EndKind.TheVariants.{Release}
use Rattle.booking_rows.specs.declared.turns.Aim.TheVariants as aim
use Rattle.history_model.specs.declared.booking.End.{End}
use Rattle.history_model.specs.Work.{NoStep}
use Rattle.claim_rule.specs.Rule.{BooksView, DeskView}
use Rattle.claim_rule.specs.Desks.{IsOf}
use Rattle.claim_rule.specs.Calls.{Calls, AddsStepsBy}
use Rattle.claim_rule.specs.Endings.{item_looks, items_read}
use Rattle.claim_rule.specs.EndSteps.{gives_from, closing, ending_steps}
use Rattle.claim_rule.specs.Out.{is_look, AllLooks, exchanges, KeepsHolds, KeepsEndings, EndsNone}
use Rattle.claim_rule.proofs.Out.{tidy_through, settled_calm, still_idle}
use Rattle.shop.specs.Homes.{IsAtHome, StaysHome}
use Rattle.shop.proofs.Homes.{stays}
use Rattle.booking_rows.specs.Views.{RowSeen, LooksRow}
use Rattle.booking_rows.specs.Aims.{end_of, LosesTurn}
use Rattle.booking_rows.proofs.Looked.{row_looked}
use Rattle.confirm_core.specs.Looks.{saw_owner, IsUnknown, IsWrong, LosesRow, SawOwned, FindsOwned}
use Rattle.confirm_core.specs.Confirming.{SawTerms, SawInTime, Confirms}
use Rattle.confirm_core.specs.declared.confirming.Confirmed.{Confirmed}
use Rattle.confirm_core.specs.declared.confirming.Confirmed.TheVariants as confirmed
use Rattle.confirm_core.specs.Fulfilling.{Fulfils}
use Rattle.confirm_core.specs.declared.fulfilling.Fulfilment.{Fulfilment}
use Rattle.confirm_core.specs.declared.fulfilling.Fulfilment.TheVariants as fulfilled
use Rattle.refund_core.specs.Releasing.{Releases}
use Rattle.refund_core.specs.declared.releasing.Released.{Released}
use Rattle.refund_core.specs.declared.releasing.Released.TheVariants as released
use Rattle.refund_core.specs.Quotes.{FindsBooking}

calm_look : (st : Step) → is_look st ≡ true → exchanges st ≡ false
calm_look (Look place half shown) is = refl
calm_look (SawRow row word value) is = refl
calm_look (LostTurn row wanted shown) is = refl
calm_look Met is = refl
calm_look (Take row place span) is = refl
calm_look (Give row item) is = refl
calm_look (Start row generation) is = refl
calm_look (Note row word value) is = refl
calm_look (Seal row phase) is = refl
calm_look (Close row) is = refl
calm_look (Turn row from to moment amount successor) is = absurd (let no : false ≡ true = is in cc)

pub calm_looks : (es : List Step) → AllLooks es → NoStep exchanges es
calm_looks [] all = tt
calm_looks (st ∷ es) all = (calm_look st all.0, calm_looks es all.1)

pub calm_append : (xs ys : List Step) → NoStep exchanges xs → NoStep exchanges ys → NoStep exchanges (xs ++ ys)
calm_append [] ys p q = q
calm_append (x ∷ xs) ys p q = (p.0, calm_append xs ys p.1 q)

-- steps of calls that hold no turn to an exchange
abbrev pub AreCalm : Calls → Type 0
AreCalm P = (es : List Step) → P es → NoStep exchanges es

-- a desk stays at home through calm steps that leave its holds and its endings
pub home_by : (P : Calls) (books : BooksView) (old new : DeskView) → AreCalm P → IsOf books new → AddsStepsBy P old new → KeepsHolds old new → KeepsEndings old new → IsAtHome books old → StaysHome books old new
home_by P books old new calm own did holds endings =
    stays books old new own holds endings (λ tidy. tidy_through books old new did.0 own did.2 (settled_calm old.number did.0 (calm did.0 did.1)) tidy (still_idle old new holds endings tidy.0))

-- or through calm steps that leave its holds and no ending
pub home_after : (P : Calls) (books : BooksView) (old new : DeskView) → AreCalm P → IsOf books new → AddsStepsBy P old new → KeepsHolds old new → EndsNone new → IsAtHome books old → StaysHome books old new
home_after P books old new calm own did holds none home = record {
  home = record { own = own; idle = (holds.none home.idle.0, none) };
  tidy = λ tidy. tidy_through books old new did.0 own did.2 (settled_calm old.number did.0 (calm did.0 did.1)) tidy (holds.none tidy.0.0, none);
}

calm_row : (row : RowNo) (v : Option RowSeen) → AreCalm (LooksRow row v)
calm_row row v es is = calm_looks es (row_looked row v es is)

pub calm_find : (rows : ℕ) (row : RowNo) (retailer : ℕ) (v : Option RowSeen) → AreCalm (FindsBooking rows row retailer v)
calm_find rows row retailer (Some v) es is = calm_row row (Some v) es is.1.1
calm_find rows row retailer None es (inl is) = subst (NoStep exchanges) (sym is.1) tt
calm_find rows row retailer None es (inr (here, inl is)) = calm_row row None es is
calm_find rows row retailer None es (inr (here, inr is)) = calm_row row (Some is.0) es is.2

calm_unknown : (rows : ℕ) (row : RowNo) (retailer : ℕ) (Saw : Phase → ℕ → ℕ → List Step → Type 0) → ((shown : Phase) (who last : ℕ) → AreCalm (Saw shown who last)) → AreCalm (IsUnknown rows row retailer Saw)
calm_unknown rows row retailer Saw calm es (inl is) = subst (NoStep exchanges) (sym is.1) tt
calm_unknown rows row retailer Saw calm es (inr (here, shown, inl (unsealed, (n, shows, is)))) = subst (NoStep exchanges) (sym is) (refl, tt)
calm_unknown rows row retailer Saw calm es (inr (here, shown, inr (sealed, who, last, ne, saw))) = calm shown who last es saw

calm_lost : (row : RowNo) (wanted shown : Phase) → AreCalm (LosesTurn row wanted shown)
calm_lost row wanted shown es (n, ne, shows, is) = subst (NoStep exchanges) (sym is) (refl, tt)

calm_given_away : (row : RowNo) (wanted : Phase) (Saw : Phase → List Step → Type 0) → ((was : Phase) → AreCalm (Saw was)) → AreCalm (LosesRow row wanted Saw)
calm_given_away row wanted Saw calm es (front, back, saw, lost, is) =
    subst (NoStep exchanges) (sym is) (calm_append front back (calm wanted front saw) (calm_lost row wanted Free back lost))

calm_wrong : (row : RowNo) (wanted shown : Phase) (Saw : Phase → List Step → Type 0) → ((was : Phase) → AreCalm (Saw was)) → AreCalm (IsWrong row wanted shown Saw)
calm_wrong row wanted shown Saw calm es (inl (ne, sealed, saw)) = calm shown es saw
calm_wrong row wanted shown Saw calm es (inr (kept, front, back, saw, lost, is)) =
    subst (NoStep exchanges) (sym is) (calm_append front back (calm wanted front saw) (calm_lost row wanted shown back lost))

calm_terms : (row : RowNo) (shown : Phase) (who last : ℕ) → AreCalm (SawTerms row shown who last)
calm_terms row shown who last es (limit, is) = subst (NoStep exchanges) (sym is) (refl, (refl, (refl, (refl, tt))))

calm_in_time : (row : RowNo) (retailer now limit : ℕ) (was : Phase) → AreCalm (SawInTime row retailer now limit was)
calm_in_time row retailer now limit was es (le, (last, kept, is)) = subst (NoStep exchanges) (sym is) (refl, (refl, (refl, (refl, tt))))

calm_owned : (row : RowNo) (retailer : ℕ) (was : Phase) → AreCalm (SawOwned row retailer was)
calm_owned row retailer was es (last, kept, is) = subst (NoStep exchanges) (sym is) (refl, (refl, (refl, tt)))

calm_none : (rows : ℕ) (row : RowNo) (retailer : ℕ) → AreCalm (FindsOwned rows row retailer None)
calm_none rows row retailer =
    calm_unknown rows row retailer (λ shown who last es'. es' ≡ saw_owner row shown who last) (λ shown who last es' saw. subst (NoStep exchanges) (sym saw) (refl, (refl, (refl, tt))))

pub calm_confirms : (rows : ℕ) (row : RowNo) (retailer now : ℕ) (a : Confirmed) → AreCalm (Confirms rows row retailer now a)
calm_confirms rows row retailer now confirmed.Done es (here, (limit, last, le, kept, is)) = subst (NoStep exchanges) (sym is) (refl, (refl, (refl, (refl, (refl, tt)))))
calm_confirms rows row retailer now confirmed.Unknown es (inl unknown) = calm_unknown rows row retailer (SawTerms row) (calm_terms row) es unknown
calm_confirms rows row retailer now confirmed.Unknown es (inr (here, (limit, lost))) = calm_given_away row Prebooked (SawInTime row retailer now limit) (calm_in_time row retailer now limit) es lost
calm_confirms rows row retailer now (confirmed.TooLate limit) es (here, late, (last, kept, is)) = subst (NoStep exchanges) (sym is) (refl, (refl, (refl, (refl, tt))))
calm_confirms rows row retailer now (confirmed.WrongState shown) es (here, (limit, wrong)) = calm_wrong row Prebooked shown (SawInTime row retailer now limit) (calm_in_time row retailer now limit) es wrong

pub calm_fulfils : (rows : ℕ) (row : RowNo) (retailer : ℕ) (a : Fulfilment) → AreCalm (Fulfils rows row retailer a)
calm_fulfils rows row retailer fulfilled.Done es (here, (last, kept, is)) = subst (NoStep exchanges) (sym is) (refl, (refl, (refl, (refl, tt))))
calm_fulfils rows row retailer fulfilled.Unknown es (inl unknown) = calm_none rows row retailer es unknown
calm_fulfils rows row retailer fulfilled.Unknown es (inr (here, lost)) = calm_given_away row phase.Confirmed (SawOwned row retailer) (calm_owned row retailer) es lost
calm_fulfils rows row retailer (fulfilled.WrongState shown) es (here, wrong) = calm_wrong row phase.Confirmed shown (SawOwned row retailer) (calm_owned row retailer) es wrong

calm_items : (row w : ℕ) (items : List Item) (more : List Step) → NoStep exchanges more → NoStep exchanges (item_looks row w items ++ more)
calm_items row w [] more calm = calm
calm_items row w (i ∷ is) more calm = (refl, calm_items row (suc w) is more calm)

calm_gives : (row k n : ℕ) (more : List Step) → NoStep exchanges more → NoStep exchanges (gives_from row k n ++ more)
calm_gives row k zero more calm = calm
calm_gives row k (suc n) more calm = (refl, calm_gives row (suc k) n more calm)

pub calm_end : (row : ℕ) (kind : EndKind) (end : End) (items : List Item) → NoStep exchanges (items_read row items ++ ending_steps row kind end items)
calm_end row kind end items = (refl, calm_items row _ items (ending_steps row kind end items) (calm_gives row 0 (length items) (closing row kind end) (refl, (refl, (refl, (refl, tt))))))

pub calm_releases : (rows : ℕ) (row : RowNo) (retailer now : ℕ) (a : Released) → AreCalm (Releases rows row retailer now a)
calm_releases rows row retailer now released.Done es (here, (last, items, kept, le, is)) =
    subst (NoStep exchanges) (sym is) (refl, (refl, (refl, (refl, calm_end row.row Release (end_of (aim.Release now)) items))))
calm_releases rows row retailer now released.Unknown es (inl unknown) = calm_none rows row retailer es unknown
calm_releases rows row retailer now released.Unknown es (inr (here, lost)) = calm_given_away row Prebooked (SawOwned row retailer) (calm_owned row retailer) es lost
calm_releases rows row retailer now (released.WrongState shown) es (here, wrong) = calm_wrong row Prebooked shown (SawOwned row retailer) (calm_owned row retailer) es wrong

-- the calls of the commands on a booking

pub found_home : (rows : ℕ) (row : RowNo) (retailer : ℕ) (v : Option RowSeen) (books : BooksView) (old new : DeskView) → IsOf books new → AddsStepsBy (FindsBooking rows row retailer v) old new → KeepsHolds old new → KeepsEndings old new → IsAtHome books old → StaysHome books old new
found_home rows row retailer v books old new = home_by (FindsBooking rows row retailer v) books old new (calm_find rows row retailer v)

pub confirmed_home : (rows : ℕ) (row : RowNo) (retailer now : ℕ) (a : Confirmed) (books : BooksView) (old new : DeskView) → IsOf books new → AddsStepsBy (Confirms rows row retailer now a) old new → KeepsHolds old new → KeepsEndings old new → IsAtHome books old → StaysHome books old new
confirmed_home rows row retailer now a books old new = home_by (Confirms rows row retailer now a) books old new (calm_confirms rows row retailer now a)

pub fulfilled_home : (rows : ℕ) (row : RowNo) (retailer : ℕ) (a : Fulfilment) (books : BooksView) (old new : DeskView) → IsOf books new → AddsStepsBy (Fulfils rows row retailer a) old new → KeepsHolds old new → KeepsEndings old new → IsAtHome books old → StaysHome books old new
fulfilled_home rows row retailer a books old new = home_by (Fulfils rows row retailer a) books old new (calm_fulfils rows row retailer a)

pub released_home : (rows : ℕ) (row : RowNo) (retailer now : ℕ) (a : Released) (books : BooksView) (old new : DeskView) → IsOf books new → AddsStepsBy (Releases rows row retailer now a) old new → KeepsHolds old new → EndsNone new → IsAtHome books old → StaysHome books old new
released_home rows row retailer now a books old new = home_after (Releases rows row retailer now a) books old new (calm_releases rows row retailer now a)

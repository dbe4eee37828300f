-- What a desk has out stays so through calls that leave its rows alone.
use Rattle.std.proofs.Common.{◌≡◌, ◌⊎◌, inl, inr, ⊎_elim, ℕ, ◌+◌, ◌-◌, ◌*◌, ◌%◌, ◌<◌, arith, true, false, not, eqb, ne_eqb, List, [], ◌∷◌, ◌++◌, map, take, drop, length, Option, Some, None, IfSome, IsSomeAnd, option_map, refl, sym, ap, ◌∙◌, subst}
use Rattle.std.proofs.lemmas.Bool.{eqb-true}
use Rattle.std.proofs.lemmas.Nat.{mod-mul-add}
use mathlib.Core.List.{append_cancel_left}
use Rattle.leg_masks.specs.Interval.{item_word}
use Rattle.leg_masks.specs.Interval.{PlacedSpan as Item}
use Rattle.history_model.specs.declared.entry.Entry.{Entry}
use Rattle.history_model.specs.declared.entry.Step.{Step}
use Rattle.history_model.specs.declared.entry.Step.TheVariants.{Look, Take, Give, Start, SawRow, Note, Seal, Turn, LostTurn, Close, Met}
use Rattle.history_model.specs.declared.phase.Phase.{Phase}
use Rattle.history_model.specs.declared.phase.Phase.TheVariants.{Making, Prebooked, Confirmed, Ending, Ended}
use Rattle.history_model.specs.declared.phase.EndKind.{EndKind}
use Rattle.history_model.specs.Booking.{Booking, Layout, State, present, successor_rows, successor_word}
use Rattle.history_model.specs.Allowed.{IsAllowedStep, IsMadeBy, IsBeingEndedBy, MaySealAs, OnRow, IsSealable}
use Rattle.history_model.specs.Apply.{apply_step, in_phase, closed, ended_phase}
use Rattle.history_model.specs.History.{IsLegal, IsLegalFrom, entry, own, state_of, state_after}
use Rattle.history_model.specs.Laws.{is_owners}
use Rattle.history_model.specs.Quiet.{AllQuiet, is_quiet}
use Rattle.history_model.specs.Work.{IsIn, NoStep, starts_row, ends_row}
use Rattle.history_model.specs.WholeEnds.{end_turn}
use Rattle.history_model.specs.declared.booking.End.{End}
use Rattle.history_model.proofs.Keeping.{found}
use Rattle.history_model.proofs.Owners.{on_row, firm_making, firm_ending}
use Rattle.history_model.proofs.Ranges.{all_found}
use Rattle.history_model.proofs.Seen.{legal-front, legal-rest, own-append, state_of-append}
use Rattle.history_model.proofs.Work.{made_since, ended_since, made_step, ended_step}
use Rattle.rail_ids.specs.declared.RowNo.{RowNo}
use Rattle.claim_rule.specs.Rule.{BooksView, DeskView, state_seen}
use Rattle.claim_rule.specs.Holds.{HoldView, StandsFor, empty_hold}
use Rattle.claim_rule.specs.Endings.{EndingView, IsEndingOf}
use Rattle.claim_rule.specs.Desks.{Stepped, HasMet, IsOf, AddsSteps}
use Rattle.claim_rule.specs.Out.{Makes, EndsRow, IsHolding, HoldsNone, IsEnding, EndsNone, IsIdle, KeepsHolds, KeepsEndings, AreSettled, IsTidy, MakesEmpty, exchanges, seals, successor_row, is_look, AllLooks, IsConfirmedNext}
use Rattle.claim_rule.proofs.Shapes.{shape_rest, step_shape, own_through, stands_through}
use Rattle.claim_rule.proofs.EndingLemmas.{ending_through}
use Rattle.claim_rule.proofs.Holding.{legal_before, state_then, own_changes, makes_none}

-- rows that a desk makes or ends come by its own start or turn alone

pub makes_before : (old new : DeskView) (es : List Step) (r : ℕ) → AddsSteps old new es → NoStep (starts_row r) es → Makes new r → Makes old r
makes_before old new es r did calm on =
    let x = shape_rest old new es did in
    made_since old.layout (state_seen old) did.front.0 es old.number r x.0 x.1 calm
    (subst (λ (s : State). OnRow s r (IsMadeBy old.number)) x.2 (subst (λ (n : ℕ). OnRow (state_seen new) r (IsMadeBy n)) did.same.2 on))

ends_as : (s : State) (r d : ℕ) → OnRow s r (IsBeingEndedBy d) → (kind : EndKind) × OnRow s r (IsIn (Ending kind) d)
ends_as s r d on = let n = found (present s r) (IsBeingEndedBy d) on in (n.2.0, on_row s r n.0 (IsIn (Ending n.2.0) d) n.1 n.2.1)

ends_so : (s : State) (r d : ℕ) (kind : EndKind) → OnRow s r (IsIn (Ending kind) d) → OnRow s r (IsBeingEndedBy d)
ends_so s r d kind on = let n = found (present s r) (IsIn (Ending kind) d) on in on_row s r n.0 (IsBeingEndedBy d) n.1 (kind, n.2)

pub ends_before : (old new : DeskView) (es : List Step) (r : ℕ) → AddsSteps old new es → NoStep (ends_row r) es → EndsRow new r → EndsRow old r
ends_before old new es r did calm on =
    let x = shape_rest old new es did in
    let k = ends_as (state_seen old) r old.number in
    let e = ends_as (state_after (state_seen old) did.front.0) r old.number (subst (λ (s : State). OnRow s r (IsBeingEndedBy old.number)) x.2 (subst (λ (n : ℕ). OnRow (state_seen new) r (IsBeingEndedBy n)) did.same.2 on)) in
    ends_so (state_seen old) r old.number e.0 (ended_since old.layout (state_seen old) did.front.0 es e.0 old.number r x.0 x.1 calm e.1)

-- the same for one step, which may be the start or the turn
pub step_makes : (st : Step) (old new : DeskView) (r : ℕ) → Stepped st old new → Makes new r → Makes old r ⊎ (starts_row r st ≡ true)
step_makes st old new r did on =
    let d = old.number in
    let h : List Entry = old.seen ++ did.between in
    let whole = legal_before st old new did in
    let front = legal-front old.layout h (entry d st ∷ []) whole in
    let may : IsAllowedStep old.layout (state_of old.layout h) d st = (legal-rest old.layout h (entry d st ∷ []) whole).0 in
    let now : OnRow (apply_step (state_of old.layout h) d st) r (IsMadeBy d) = subst (λ (s : State). OnRow s r (IsMadeBy d)) (state_then st old new did) (subst (λ (n : ℕ). OnRow (state_seen new) r (IsMadeBy n)) did.same.2 on) in
    ⊎_elim
    (λ (o : OnRow (state_of old.layout h) r (IsMadeBy d)). inl (made_since old.layout (state_seen old) did.between [] d r (legal-rest old.layout old.seen did.between front) did.others tt
    (subst (λ (s : State). OnRow s r (IsMadeBy d)) (state_of-append old.layout old.seen did.between) o)))
    (λ (x : (d ≡ d) × (starts_row r st ≡ true)). inr x.1)
    (made_step old.layout (state_of old.layout h) d st d r may now)

pub step_ends : (st : Step) (old new : DeskView) (r : ℕ) → Stepped st old new → EndsRow new r → EndsRow old r ⊎ (ends_row r st ≡ true)
step_ends st old new r did on =
    let d = old.number in
    let h : List Entry = old.seen ++ did.between in
    let whole = legal_before st old new did in
    let front = legal-front old.layout h (entry d st ∷ []) whole in
    let may : IsAllowedStep old.layout (state_of old.layout h) d st = (legal-rest old.layout h (entry d st ∷ []) whole).0 in
    let e = ends_as (apply_step (state_of old.layout h) d st) r d (subst (λ (s : State). OnRow s r (IsBeingEndedBy d)) (state_then st old new did) (subst (λ (n : ℕ). OnRow (state_seen new) r (IsBeingEndedBy n)) did.same.2 on)) in
    ⊎_elim
    (λ (o : OnRow (state_of old.layout h) r (IsIn (Ending e.0) d)). inl (ends_so (state_seen old) r d e.0 (ended_since old.layout (state_seen old) did.between [] e.0 d r (legal-rest old.layout old.seen did.between front) did.others tt
    (subst (λ (s : State). OnRow s r (IsIn (Ending e.0) d)) (state_of-append old.layout old.seen did.between) o))))
    (λ (x : (d ≡ d) × (ends_row r st ≡ true)). inr x.1)
    (ended_step old.layout (state_of old.layout h) d st e.0 d r may e.1)

-- rows made, and rows ended

pub makes_of : (desk : DeskView) (hold : HoldView) → StandsFor desk hold → Makes desk hold.row.row
makes_of desk hold is = on_row (state_seen desk) hold.row.row is.booking (IsMadeBy desk.number) is.found (is.making, is.owner)

pub ends_of : (desk : DeskView) (e : EndingView) → IsEndingOf desk e → EndsRow desk e.row.row
ends_of desk e is = on_row (state_seen desk) e.row.row is.booking (IsBeingEndedBy desk.number) is.found (e.kind, (is.phase, is.owner))

some_same : (x y : Booking) → Some x ≡ Some y → x ≡ y
some_same x y e = cc

-- no row is both
pub not_both : (desk : DeskView) (q r : ℕ) → Makes desk q → EndsRow desk r → q ≡ r → ⊥
not_both desk q r m e same =
    let a = found (present (state_seen desk) q) (IsMadeBy desk.number) m in
    let b = found (present (state_seen desk) r) (IsBeingEndedBy desk.number) e in
    let is : a.0 ≡ b.0 = some_same a.0 b.0 (sym a.1 ∙ (ap (present (state_seen desk)) same ∙ b.1)) in
    let clash : Making ≡ Ending b.2.0 = sym a.2.0 ∙ (ap (λ (x : Booking). x.phase) is ∙ b.2.1.0) in
    cc

-- what is so of a row that the desk makes stays so
pub made_row : (old new : DeskView) (es : List Step) (r : ℕ) (P : Booking → Type 0) → AddsSteps old new es → AllQuiet r es → Makes old r → OnRow (state_seen old) r P → OnRow (state_seen new) r P
made_row old new es r P did quiet m on =
    let a = found (present (state_seen old) r) (IsMadeBy old.number) m in
    let now = own_through old new es r a.0 did quiet a.1 a.2.1 (firm_making a.0.phase a.2.0) in
    subst (λ (o : Option Booking). IsSomeAnd o P) (a.1 ∙ sym now) on

pub keeps_holds : (old new : DeskView) (es : List Step) → AddsSteps old new es → new.kept ≡ old.kept → ((r : ℕ) → Makes old r → AllQuiet r es) → ((r : ℕ) → NoStep (starts_row r) es) → KeepsHolds old new
keeps_holds old new es did kept quiet calm = record {
  hold = λ hold is. record {
    of = (stands_through old new es hold did (quiet hold.row.row (makes_of old hold is.of.0)) is.of.0, kept ∙ is.of.1);
    only = λ r m. is.only r (makes_before old new es r did (calm r) m);
  };
  noted = λ hold items is on. made_row old new es hold.row.row (λ b. take (length items) (drop 8 b.words) ≡ map (λ (i : Item). item_word i.place i.span) items) did (quiet hold.row.row (makes_of old hold is.of.0)) (makes_of old hold is.of.0) on;
  ready = λ hold is on. made_row old new es hold.row.row IsSealable did (quiet hold.row.row (makes_of old hold is.of.0)) (makes_of old hold is.of.0) on;
  none = λ h r m. ap (λ (o : Option RowNo). option_map (λ (k : RowNo). k.row) o) kept ∙ h r (makes_before old new es r did (calm r) m);
}

pub keeps_endings : (old new : DeskView) (es : List Step) → AddsSteps old new es → ((r : ℕ) → EndsRow old r → AllQuiet r es) → ((r : ℕ) → NoStep (ends_row r) es) → KeepsEndings old new
keeps_endings old new es did quiet calm = record {
  ending = λ e is. record {
    of = ending_through old new es e did (quiet e.row.row (ends_of old e is.of)) is.of;
    only = λ r m. is.only r (ends_before old new es r did (calm r) m);
  };
  none = λ h r m. h r (ends_before old new es r did (calm r) m);
}

-- calls after each other

pub holds_then : (a b c : DeskView) → KeepsHolds a b → KeepsHolds b c → KeepsHolds a c
holds_then a b c p q = record {
  hold = λ hold is. q.hold hold (p.hold hold is);
  noted = λ hold items is on. q.noted hold items (p.hold hold is) (p.noted hold items is on);
  ready = λ hold is on. q.ready hold (p.hold hold is) (p.ready hold is on);
  none = λ h. q.none (p.none h);
}

pub endings_then : (a b c : DeskView) → KeepsEndings a b → KeepsEndings b c → KeepsEndings a c
endings_then a b c p q = record { ending = λ e is. q.ending e (p.ending e is); none = λ h. q.none (p.none h) }

pub holds_same : (a : DeskView) → KeepsHolds a a
holds_same a = record { hold = λ hold is. is; noted = λ hold items is on. on; ready = λ hold is on. on; none = λ h. h }

pub endings_same : (a : DeskView) → KeepsEndings a a
endings_same a = record { ending = λ e is. is; none = λ h. h }

pub still_idle : (a b : DeskView) → KeepsHolds a b → KeepsEndings a b → IsIdle a → IsIdle b
still_idle a b p q is = (p.none is.0, q.none is.1)

-- looks alone touch no row

look_quiet : (st : Step) (r : ℕ) → is_look st ≡ true → (is_quiet r st ≡ true) × (starts_row r st ≡ false) × (ends_row r st ≡ false)
look_quiet (Look p half n) r is = (refl, refl, refl)
look_quiet (Take q p span) r is = absurd (let no : false ≡ true = is in cc)
look_quiet (Give q k) r is = absurd (let no : false ≡ true = is in cc)
look_quiet (Start q j) r is = absurd (let no : false ≡ true = is in cc)
look_quiet (SawRow q w n) r is = (refl, refl, refl)
look_quiet (Note q w n) r is = absurd (let no : false ≡ true = is in cc)
look_quiet (Seal q ph) r is = absurd (let no : false ≡ true = is in cc)
look_quiet (Turn q from to m a x) r is = absurd (let no : false ≡ true = is in cc)
look_quiet (LostTurn q wanted shown) r is = (refl, refl, refl)
look_quiet (Close q) r is = absurd (let no : false ≡ true = is in cc)
look_quiet Met r is = (refl, refl, refl)

pub looks_quiet : (es : List Step) (r : ℕ) → AllLooks es → AllQuiet r es × NoStep (starts_row r) es × NoStep (ends_row r) es
looks_quiet [] r all = (tt, tt, tt)
looks_quiet (st ∷ es) r all = let h = look_quiet st r all.0 in let t = looks_quiet es r all.1 in ((h.0, t.0), (h.1, t.1), (h.2, t.2))

pub looks_holds : (old new : DeskView) (es : List Step) → AddsSteps old new es → new.kept ≡ old.kept → AllLooks es → KeepsHolds old new
looks_holds old new es did kept all = keeps_holds old new es did kept (λ r m. (looks_quiet es r all).0) (λ r. (looks_quiet es r all).1)

pub looks_endings : (old new : DeskView) (es : List Step) → AddsSteps old new es → AllLooks es → KeepsEndings old new
looks_endings old new es did all = keeps_endings old new es did (λ r m. (looks_quiet es r all).0) (λ r. (looks_quiet es r all).2)

-- the steps of a hold leave an ending, and those of an ending leave a hold

apart : (q r : ℕ) → (q ≡ r → ⊥) → not (eqb q r) ≡ true
apart q r other = ap not (ne_eqb q r other)

pub hold_endings : (old new : DeskView) (es : List Step) (hold : HoldView) → AddsSteps old new es → StandsFor old hold → ((r : ℕ) → not (eqb hold.row.row r) ≡ true → AllQuiet r es) → ((r : ℕ) → NoStep (ends_row r) es) → KeepsEndings old new
hold_endings old new es hold did is quiet calm = keeps_endings old new es did (λ r e. quiet r (apart hold.row.row r (not_both old hold.row.row r (makes_of old hold is) e))) calm

pub ending_holds : (old new : DeskView) (es : List Step) (e : EndingView) → AddsSteps old new es → new.kept ≡ old.kept → IsEndingOf old e → ((r : ℕ) → not (eqb e.row.row r) ≡ true → AllQuiet r es) → ((r : ℕ) → NoStep (starts_row r) es) → KeepsHolds old new
ending_holds old new es e did kept is quiet calm = keeps_holds old new es did kept (λ r m. quiet r (apart e.row.row r (λ same. not_both old r e.row.row m (ends_of old e is) (sym same)))) calm

-- a step on the hold's row leaves no other row with the desk
pub hold_only : (st : Step) (old new : DeskView) (hold : HoldView) → Stepped st old new → ((r : ℕ) → starts_row r st ≡ false) → IsHolding old hold → (r : ℕ) → Makes new r → r ≡ hold.row.row
hold_only st old new hold did calm is r m = ⊎_elim (λ (o : Makes old r). is.only r o) (λ (t : starts_row r st ≡ true). absurd (let no : false ≡ true = sym (calm r) ∙ t in cc)) (step_makes st old new r did m)

pub ending_only : (st : Step) (old new : DeskView) (e : EndingView) → Stepped st old new → ((r : ℕ) → ends_row r st ≡ false) → IsEnding old e → (r : ℕ) → EndsRow new r → r ≡ e.row.row
ending_only st old new e did calm is r m = ⊎_elim (λ (o : EndsRow old r). is.only r o) (λ (t : ends_row r st ≡ true). absurd (let no : false ≡ true = sym (calm r) ∙ t in cc)) (step_ends st old new r did m)

-- a start leaves the desk that row alone, and a turn that ending alone
pub started_only : (q j : ℕ) (old new : DeskView) → old.kept ≡ None → HoldsNone old → Stepped (Start q j) old new → (r : ℕ) → Makes new r → r ≡ q
started_only q j old new kept none did r m = ⊎_elim (λ (o : Makes old r). absurd (makes_none old r kept none o)) (λ (t : eqb q r ≡ true). sym (eqb-true q r t)) (step_makes (Start q j) old new r did m)

pub turned_only : (q : ℕ) (from : Phase) (kind : EndKind) (end : End) (old new : DeskView) → EndsNone old → Stepped (end_turn q from (Ending kind) end) old new → (r : ℕ) → EndsRow new r → r ≡ q
turned_only q from kind end old new none did r on = ⊎_elim (λ (o : EndsRow old r). absurd (none r o)) (λ (t : eqb q r ≡ true). sym (eqb-true q r t)) (step_ends (end_turn q from (Ending kind) end) old new r did on)

-- a sealed row is no longer made, and a closed one no longer ended
pub sealed_none : (ph : Phase) (old new : DeskView) (hold : HoldView) → IsHolding old hold → Stepped (Seal hold.row.row ph) old new → HoldsNone new
sealed_none ph old new hold is did r m =
    let at : r ≡ hold.row.row = hold_only (Seal hold.row.row ph) old new hold did (λ _. refl) is r m in
    let st = is.of.0 in
    let now : present (state_seen new) hold.row.row ≡ Some (in_phase ph st.booking) =
    own_changes (Seal hold.row.row ph) old new did hold.row.row st.booking (in_phase ph) (λ s. refl) (λ _. refl) st.found st.owner (firm_making st.booking.phase st.making) in
    let b = found (present (state_seen new) r) (IsMadeBy new.number) m in
    let same : b.0 ≡ in_phase ph st.booking = some_same b.0 (in_phase ph st.booking) (sym b.1 ∙ (ap (present (state_seen new)) at ∙ now)) in
    let h : List Entry = old.seen ++ did.between in
    let may : IsAllowedStep old.layout (state_of old.layout h) old.number (Seal hold.row.row ph) = (legal-rest old.layout h (entry old.number (Seal hold.row.row ph) ∷ []) (legal_before (Seal hold.row.row ph) old new did)).0 in
    let making : ph ≡ Making = sym (ap (λ (x : Booking). x.phase) same) ∙ b.2.0 in
    let on = found (present (state_of old.layout h) hold.row.row) (λ b. IsMadeBy old.number b × IsSealable b × MaySealAs (state_of old.layout h) old.number b ph) may.1 in
    absurd (⊎_elim (λ (e : ph ≡ Prebooked). let no : Prebooked ≡ Making = sym e ∙ making in cc) (λ e. let no : Confirmed ≡ Making = sym e.0 ∙ making in cc) on.2.2)

pub closed_none : (old new : DeskView) (e : EndingView) → IsEnding old e → Stepped (Close e.row.row) old new → EndsNone new
closed_none old new e is did r m =
    let at : r ≡ e.row.row = ending_only (Close e.row.row) old new e did (λ _. refl) is r m in
    let st = is.of in
    let now : present (state_seen new) e.row.row ≡ Some (closed st.booking) =
    own_changes (Close e.row.row) old new did e.row.row st.booking closed (λ s. refl) (λ _. refl) st.found st.owner (firm_ending st.booking.phase e.kind st.phase) in
    let b = found (present (state_seen new) r) (IsBeingEndedBy new.number) m in
    let same : b.0 ≡ closed st.booking = some_same b.0 (closed st.booking) (sym b.1 ∙ (ap (present (state_seen new)) at ∙ now)) in
    let clash : Ended e.kind ≡ Ending b.2.0 = sym (ap ended_phase st.phase) ∙ (sym (ap (λ (x : Booking). x.phase) same) ∙ b.2.1.0) in
    cc

-- a desk of which there is no entry makes and ends nothing
pub new_idle : (lay : Layout) (seen : List Entry) (d r : ℕ) → IsLegal lay seen → own seen d ≡ [] → (OnRow (state_of lay seen) r (IsMadeBy d) → ⊥) × (OnRow (state_of lay seen) r (IsBeingEndedBy d) → ⊥)
new_idle lay seen d r legal none = (
  λ on. settled Making refl (made_since lay lay.opening seen [] d r legal.1 none tt on),
  λ on. let e = ends_as (state_of lay seen) r d on in settled (Ending e.0) refl (ended_since lay lay.opening seen [] e.0 d r legal.1 none tt e.1),
)
  where
    settled : (ph : Phase) → is_owners ph ≡ true → OnRow lay.opening r (IsIn ph d) → ⊥
    settled ph owners on =
        let b = found (present lay.opening r) (IsIn ph d) on in
        let free : is_owners b.0.phase ≡ false = all_found (λ b. is_owners b.phase ≡ false) lay.opening r b.0 legal.0.settled b.1 in
        let no : true ≡ false = sym owners ∙ (sym (ap is_owners b.2.0) ∙ free) in
        cc

-- exchanges that are settled

confirmed_more : (row : ℕ) (xs ys : List Entry) → IsConfirmedNext row xs → IsConfirmedNext row (xs ++ ys)
confirmed_more row [] ys on = absurd on
confirmed_more row (x ∷ xs) ys (inl p) = inl p
confirmed_more row (x ∷ xs) ys (inr more) = inr (more.0, confirmed_more row xs ys more.1)

pub settled_append : (xs ys : List Entry) → AreSettled xs → AreSettled ys → AreSettled (xs ++ ys)
settled_append [] ys p q = q
settled_append (x ∷ xs) ys p q = (λ t. confirmed_more (successor_row x.step) xs ys (p.0 t), settled_append xs ys p.1 q)

pub settled_calm : (d : ℕ) (es : List Step) → NoStep exchanges es → AreSettled (map (entry d) es)
settled_calm d [] calm = tt
settled_calm d (st ∷ es) calm = (λ t. absurd (let no : false ≡ true = sym calm.0 ∙ t in cc), settled_calm d es calm.1)

-- the seal of a row behind steps that seal it not is the next
pub confirmed_behind : (d row : ℕ) (xs ys : List Step) → NoStep (seals row) xs → IsConfirmedNext row (map (entry d) (xs ++ Seal row Confirmed ∷ ys))
confirmed_behind d row [] ys calm = inl refl
confirmed_behind d row (x ∷ xs) ys calm = inr (calm.0, confirmed_behind d row xs ys calm.1)

-- the row of a successor's word
pub row_of_successor : (row generation : ℕ) → row < successor_rows → (successor_word row generation - 1) % successor_rows ≡ row
row_of_successor row generation low =
    let e : 1 + row + 4294967296 * generation - 1 ≡ generation * 4294967296 + row = omega arith in
    ap (λ (n : ℕ). n % successor_rows) e ∙ mod-mul-add generation successor_rows row low

-- a desk that holds none makes no row but an empty one, which it keeps
pub makes_empty : (books : BooksView) (desk : DeskView) → IsOf books desk → HoldsNone desk → MakesEmpty desk
makes_empty books desk of holds row makes = go desk.kept of.kept (holds row makes)
  where
    go : (kept : Option RowNo) → IfSome kept (λ r. StandsFor desk (empty_hold r)) → option_map (λ (k : RowNo). k.row) kept ≡ Some row → OnRow (state_seen desk) row (λ b. b.items ≡ [])
    go None is e = absurd (let no : ◌≡◌ {A = Option ℕ} None (Some row) = e in cc)
    go (Some k) is e =
        let same : k.row ≡ row = cc in
        subst (λ (r : ℕ). OnRow (state_seen desk) r (λ b. b.items ≡ [])) same (on_row (state_seen desk) k.row is.booking (λ b. b.items ≡ []) is.found is.items)

-- a tidy desk stays tidy through a call whose exchanges are settled and which leaves nothing out
pub tidy_through : (books : BooksView) (old new : DeskView) (es : List Step) → IsOf books new → AddsSteps old new es → AreSettled (map (entry old.number) es) → IsTidy old → IsIdle new → IsTidy new
tidy_through books old new es of did settled is idle = (
  idle,
  subst (λ (n : ℕ). AreSettled (own new.seen n)) (sym did.same.2) (subst AreSettled (sym did.mine) (settled_append (own old.seen old.number) (map (entry old.number) es) is.1 settled)),
  makes_empty books new of idle.0,
)

-- meeting

met_rest : (old other new : DeskView) (met : HasMet old other new) → IsLegalFrom old.layout (state_seen old) met.front.0 × (own met.front.0 old.number ≡ map (entry old.number) (Met ∷ [])) × (state_seen new ≡ state_after (state_seen old) met.front.0)
met_rest old other new met =
    let d = old.number in
    let rest = met.front.0 in
    let e = met.front.1 in
    let lay = met.same.1 in
    let whole : IsLegal old.layout (old.seen ++ rest) = subst (λ (l : Layout). IsLegal l (old.seen ++ rest)) lay (subst (IsLegal new.layout) (sym e) met.legal) in (
      legal-rest old.layout old.seen rest whole,
      append_cancel_left (own old.seen d) (own rest d) (entry d Met ∷ []) (sym (own-append old.seen rest d) ∙ (ap (λ (l : List Entry). own l d) e ∙ met.mine)),
      ap (λ (l : Layout). state_of l new.seen) lay ∙ (ap (state_of old.layout) (sym e) ∙ state_of-append old.layout old.seen rest),
    )

pub met_idle : (old other new : DeskView) → HasMet old other new → IsIdle old → IsIdle new
met_idle old other new met is =
    let x = met_rest old other new met in
    let d = old.number in (
      λ r m. ap (λ (o : Option RowNo). option_map (λ (k : RowNo). k.row) o) met.same.4 ∙ is.0 r (made_since old.layout (state_seen old) met.front.0 (Met ∷ []) d r x.0 x.1 (refl, tt)
          (subst (λ (s : State). OnRow s r (IsMadeBy d)) x.2 (subst (λ (n : ℕ). OnRow (state_seen new) r (IsMadeBy n)) met.same.2 m))),
      λ r m. let e = ends_as (state_after (state_seen old) met.front.0) r d (subst (λ (s : State). OnRow s r (IsBeingEndedBy d)) x.2 (subst (λ (n : ℕ). OnRow (state_seen new) r (IsBeingEndedBy n)) met.same.2 m)) in
          is.1 r (ends_so (state_seen old) r d e.0 (ended_since old.layout (state_seen old) met.front.0 (Met ∷ []) e.0 d r x.0 x.1 (refl, tt) e.1)),
    )

pub met_tidy : (books : BooksView) (old other new : DeskView) → IsOf books new → HasMet old other new → IsTidy old → IsTidy new
met_tidy books old other new of met is = let idle = met_idle old other new met is.0 in (
  idle,
  subst (λ (n : ℕ). AreSettled (own new.seen n)) (sym met.same.2)
      (subst AreSettled (sym met.mine) (settled_append (own old.seen old.number) (entry old.number Met ∷ []) is.1 (settled_calm old.number (Met ∷ []) (refl, tt)))),
  makes_empty books new of idle.0,
)

-- parting

pub part_idle : (old new : DeskView) → Stepped Met old (record new { parted = old.parted }) → IsIdle old → IsIdle new
part_idle old new did is =
    let now = record new { parted = old.parted } in
    let shape = step_shape Met old now did in (
      λ r m. ap (λ (o : Option RowNo). option_map (λ (k : RowNo). k.row) o) did.same.5 ∙ is.0 r (makes_before old now (Met ∷ []) r shape (refl, tt) m),
      λ r m. is.1 r (ends_before old now (Met ∷ []) r shape (refl, tt) m),
    )

-- how many desks a desk has parted is nothing to its hold and its ending
made_holding : (desk : DeskView) (m : ℕ) (hold : HoldView) → IsHolding (record desk { parted = m }) hold → IsHolding desk hold
made_holding desk m hold is = let s = is.of.0 in record {
  of = (record { booking = s.booking; found = s.found; generation = s.generation; owner = s.owner; making = s.making; items = s.items; row = s.row; within = s.within }, is.of.1);
  only = is.only;
}

made_ending : (desk : DeskView) (m : ℕ) (e : EndingView) → IsEnding (record desk { parted = m }) e → IsEnding desk e
made_ending desk m e is = let s = is.of in record {
  of = record { booking = s.booking; found = s.found; generation = s.generation; owner = s.owner; phase = s.phase; end = s.end; row = s.row; few = s.few; fresh = s.fresh; items = s.items; within = s.within };
  only = is.only;
}

pub part_holds : (old new : DeskView) → Stepped Met old (record new { parted = old.parted }) → KeepsHolds old new
part_holds old new did =
    let now = record new { parted = old.parted } in
    let kept = looks_holds old now (Met ∷ []) (step_shape Met old now did) did.same.5 (refl, tt) in record {
      hold = λ hold is. made_holding new old.parted hold (kept.hold hold is);
      noted = λ hold items is on. kept.noted hold items is on;
      ready = λ hold is on. kept.ready hold is on;
      none = λ h. kept.none h;
    }

pub part_endings : (old new : DeskView) → Stepped Met old (record new { parted = old.parted }) → KeepsEndings old new
part_endings old new did =
    let now = record new { parted = old.parted } in
    let kept = looks_endings old now (Met ∷ []) (step_shape Met old now did) (refl, tt) in record {
      ending = λ e is. made_ending new old.parted e (kept.ending e is);
      none = λ h. kept.none h;
    }

pub part_tidy : (books : BooksView) (old new : DeskView) → IsOf books new → Stepped Met old (record new { parted = old.parted }) → IsTidy old → IsTidy new
part_tidy books old new of did is =
    let now = record new { parted = old.parted } in
    let idle = part_idle old new did is.0 in (
      idle,
      subst (λ (n : ℕ). AreSettled (own new.seen n)) (sym did.same.2)
          (subst AreSettled (sym (step_shape Met old now did).mine) (settled_append (own old.seen old.number) (entry old.number Met ∷ []) is.1 (settled_calm old.number (Met ∷ []) (refl, tt)))),
      makes_empty books new of idle.0,
    )

pub new_tidy : (desk : DeskView) → IsLegal desk.layout desk.seen → own desk.seen desk.number ≡ [] → IsTidy desk
new_tidy desk legal none = (
  (λ r m. absurd ((new_idle desk.layout desk.seen desk.number r legal none).0 m), λ r m. (new_idle desk.layout desk.seen desk.number r legal none).1 m),
  subst AreSettled (sym none) tt,
  λ r m. absurd ((new_idle desk.layout desk.seen desk.number r legal none).0 m),
)

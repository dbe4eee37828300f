-- A tidy wall has no open row and no held place.
use Rattle.std.proofs.Common.{◌≡◌, ◌≢◌, ◌⊎◌, inl, inr, ⊎_elim, ℕ, zero, suc, ◌+◌, ◌*◌, ◌-◌, ◌%◌, ◌<◌, ◌≤◌, Bool, true, false, ◌||◌, ◌&&◌, cond, eqb, List, [], ◌∷◌, ◌++◌, filter, Option, None, Some, IfSome, IsSomeAnd, refl, sym, ap, ◌∙◌, subst, arith}
use Rattle.std.specs.Prelude.{IfErr, Result, Ok, Err}
use Rattle.std.specs.List.{AllByRecursion, Any, list_any}
use Rattle.std.specs.Option.{option_map_or}
use Rattle.std.proofs.lemmas.Bool.{cases_eq, eq-eqb}
use Rattle.std.proofs.lemmas.List.Folds.{list_any-append}
use Rattle.leg_masks.specs.Interval.{leg_of, word_legs}
use Rattle.history_model.specs.declared.booking.BookedItem.{BookedItem}
use Rattle.history_model.specs.declared.booking.End.{End}
use Rattle.history_model.specs.declared.phase.Phase.{Phase}
use Rattle.history_model.specs.declared.phase.Phase.TheVariants.{Free, Making, Prebooked, Confirmed, Fulfilled, Ending, Ended}
use Rattle.history_model.specs.declared.phase.EndKind.{EndKind}
use Rattle.history_model.specs.declared.phase.EndKind.TheVariants.{Release, Expire, Refund, Exchange}
use Rattle.history_model.specs.declared.entry.Entry.{Entry}
use Rattle.history_model.specs.declared.entry.Step.{Step}
use Rattle.history_model.specs.declared.entry.Step.TheVariants.{Look, Take, Give, Start, SawRow, Note, Seal, Turn, LostTurn, Close, Met}
use Rattle.history_model.specs.Phase.{is_ended, is_live, is_turn}
use Rattle.history_model.specs.Booking.{Booking, Layout, State, booking_at, change, is_occupied, key_of, limit_of, most_rows, next_generation, occupies, phase_at, present, stands_in, successor_rows, successor_word}
use Rattle.history_model.specs.Allowed.{AllGiven, HasEndWords, IsAllowed, IsAllowedStep, IsEndedBy, IsExchangedFor, IsMadeBy, IsRow, IsSealable, IsSuccessor, MayClose, MayGive, MayNote, MaySealAs, OnRow, TurnsWith}
use Rattle.history_model.specs.Apply.{apply, apply_step, words_of_row, started, item_taken, given, noted, in_phase, turned, ended_phase, closed}
use Rattle.history_model.specs.History.{IsLegal, IsLegalFrom, own, state_after}
use Rattle.history_model.specs.Laws.{IsInRange, IsSound, IsWellFormed, MayBecome, stage}
use Rattle.history_model.specs.Words.{number_of_bits, place_word}
use Rattle.history_model.specs.WholeEnds.{end_at, end_turn}
use Rattle.history_model.proofs.Keeping.{found, turned-key}
use Rattle.history_model.proofs.Going.{GoesOn-step, turned-phase}
use Rattle.history_model.proofs.ListLemmas.{All-append, All-both, All-changed, All-found, All-map}
use Rattle.history_model.proofs.Generations.{free_next, key_at, key-changed, key-changed_other, key-started, none_of_free, present_key, present_latest, stands_there, unended_present}
use Rattle.history_model.proofs.Forward.{next-step, stages-step}
use Rattle.history_model.proofs.Legal.{WellFormed-history, WellFormed-step}
use Rattle.history_model.proofs.Owners.{firm_making}
use Rattle.claim_rule.specs.Out.{AreSettled, IsConfirmedNext, exchanges, seals, successor_row}
use Rattle.claim_rule.specs.Walls.{WallView}
use Rattle.cold_store.specs.declared.fault.ExportFault.{ExportFault}
use Rattle.cold_store.specs.declared.fault.ExportFault.TheVariants as fault
use Rattle.cold_store.specs.Exports.{IsExportFault, IsHeldHalf, IsHeldPlace, IsOpenBooking, IsOpenRow, IsUnmade, NoneHeld, NoneOpen, state_on}
use Rattle.cold_store.specs.Tidy.{AreSucceeded, HasSuccessor, IsExchanged, IsMade, IsTidyWall}

-- the bookings lie in rows of the books
abbrev AreInRows : Layout → State → Type 0
AreInRows g s = AllByRecursion (λ b. b.row < g.rows) s

-- in the making still, and sealed by its owner's entries to come
abbrev IsPending : State → List Entry → ℕ → ℕ → Type 0
IsPending s es row generation =
    (p : Booking) × (booking_at s row generation ≡ Some p) × (p.phase ≡ Making) × IsConfirmedNext row (own es p.owner)

abbrev Comes : State → List Entry → ℕ → ℕ → Type 0
Comes s es row generation = IsMade s row generation ⊎ IsPending s es row generation

-- where the booking was exchanged, its successor is made or comes
abbrev Expects : State → List Entry → Booking → Type 0
Expects s es b = IsExchanged b → (row generation : ℕ) → row < successor_rows → b.end.successor ≡ successor_word row generation → Comes s es row generation

made_on : (g : Layout) (s : State) (d : ℕ) (st : Step) (row generation : ℕ) → IsAllowedStep g s d st → IsMade s row generation → IsMade (apply_step s d st) row generation
made_on g s d st row generation may (inl later) = let up = next-step g s d st row may in inl (omega (arith, later, up))
made_on g s d st row generation may (inr sealed) = let up = stages-step g s d st row generation may in inr (omega (arith, sealed, up))

-- a booking in the making stays so under a step that doesn't seal its row
abbrev StaysMaking : State → ℕ → ℕ → Booking → Type 0
StaysMaking t row generation p = (c : Booking) × (booking_at t row generation ≡ Some c) × (c.phase ≡ Making) × (c.owner ≡ p.owner)

by_change : (s : State) (row generation q : ℕ) (f : Booking → Booking) (p : Booking) → ((x : Booking) → key_of (f x) ≡ key_of x) → booking_at s row generation ≡ Some p → present s row ≡ Some p → p.phase ≡ Making
    → (q ≡ row → ((f p).phase ≡ Making) × ((f p).owner ≡ p.owner)) → StaysMaking (change s q f) row generation p
by_change s row generation q f p same at stands making keeps = ⊎_elim
    (λ (here : q ≡ row).
    let k = keeps here in
    let there : booking_at (change s row f) row p.generation ≡ Some (f p) = key-changed s row f p same stands in
    (f p, subst (λ (r : ℕ). booking_at (change s r f) row generation ≡ Some (f p)) (sym here) (ap (booking_at (change s row f) row) (sym (key_at s row generation p at).1) ∙ there), k.0, k.1))
    (λ (other : q ≡ row → ⊥). (p, key-changed_other s q row generation f same (λ e _. other (sym e)) ∙ at, making, refl))
    (cases_eq q row)

same_present : (s : State) (r q : ℕ) (b c : Booking) → present s r ≡ Some b → q ≡ r → present s q ≡ Some c → c ≡ b
same_present s r q b c e same f = let one : ◌≡◌ {A = Option Booking} (Some c) (Some b) = sym f ∙ (ap (present s) same ∙ e) in cc

no_turn : (to : Phase) → is_turn Making to ≡ true → ⊥
no_turn to t = let no : false ≡ true = t in cc

making_stays : (g : Layout) (s : State) (d : ℕ) (st : Step) (row generation : ℕ) (p : Booking) → IsWellFormed g s → IsAllowedStep g s d st → seals row st ≡ false
    → booking_at s row generation ≡ Some p → p.phase ≡ Making → StaysMaking (apply_step s d st) row generation p
making_stays g s d st row generation p good may apart at making = go st may apart
  where
    stands : present s row ≡ Some p
    stands = unended_present s row generation p good.earlier at (ap is_ended making)

    go : (st : Step) → IsAllowedStep g s d st → seals row st ≡ false → StaysMaking (apply_step s d st) row generation p
    go (Look place half shown) may apart = (p, at, making, refl)
    go (Take q place span) may apart = by_change s row generation q (item_taken place span) p (λ _. refl) at stands making (λ _. (making, refl))
    go (Give q item) may apart = by_change s row generation q (given item) p (λ _. refl) at stands making (λ _. (making, refl))
    go (Start q j) may apart = (p, key-started s (started q j d (words_of_row s q)) row generation p at, making, refl)
    go (SawRow q word value) may apart = (p, at, making, refl)
    go (Note q word value) may apart = by_change s row generation q (noted word value) p (λ _. refl) at stands making (λ _. (making, refl))
    go (Seal q phase) may apart = by_change s row generation q (in_phase phase) p (λ _. refl) at stands making
        (λ here. absurd (let yes : eqb q row ≡ true = rw here (eq-eqb row row refl) in let bad : true ≡ false = sym yes ∙ apart in cc))
    go (Turn q from to m x w) may apart =
        let end : End = end_at m x w in
        let b = found (present s q) (λ b. (b.phase ≡ from) × TurnsWith s d (limit_of b) to end) may.3 in
        by_change s row generation q (turned d to end) p (turned-key d to end) at stands making
        (λ here. absurd (no_turn to (subst (λ (ph : Phase). is_turn ph to ≡ true) (sym b.2.0 ∙ (ap (λ (y : Booking). y.phase) (same_present s row q p b.0 stands here b.1) ∙ making)) may.1)))
    go (LostTurn q wanted shown) may apart = (p, at, making, refl)
    go (Close q) may apart =
        let b = found (present s q) (MayClose d) may.1 in
        by_change s row generation q closed p (λ _. refl) at stands making
        (λ here. absurd (let bad : Ending b.2.0 ≡ Making = sym b.2.1.0 ∙ (ap (λ (y : Booking). y.phase) (same_present s row q p b.0 stands here b.1) ∙ making) in cc))
    go Met may apart = (p, at, making, refl)

-- its seal makes it
seal_makes : (s : State) (row generation : ℕ) (p : Booking) → present s row ≡ Some p → booking_at s row generation ≡ Some p → IsMade (change s row (in_phase Confirmed)) row generation
seal_makes s row generation p stands at =
    let there : booking_at (change s row (in_phase Confirmed)) row generation ≡ Some (in_phase Confirmed p) =
    ap (booking_at (change s row (in_phase Confirmed)) row) (sym (key_at s row generation p at).1) ∙ key-changed s row (in_phase Confirmed) p (λ _. refl) stands in
    inr (rw there (omega arith))

-- what comes is nearer or there after an entry
pending_on : (g : Layout) (s : State) (e : Entry) (es : List Entry) (row generation : ℕ) → IsWellFormed g s → IsAllowed g s e → IsPending s (e ∷ es) row generation → Comes (apply s e) es row generation
pending_on g s e es row generation good may (p, at, making, next) = go (eqb e.desk p.owner) refl next
  where
    stands : present s row ≡ Some p
    stands = unended_present s row generation p good.earlier at (ap is_ended making)

    go : (mine : Bool) → eqb e.desk p.owner ≡ mine → IsConfirmedNext row (cond mine (e ∷ own es p.owner) (own es p.owner)) → Comes (apply s e) es row generation
    go true is (inl seal) = inl (subst (λ (st : Step). IsMade (apply_step s e.desk st) row generation) (sym seal) (seal_makes s row generation p stands at))
    go true is (inr (apart, later)) =
        let c = making_stays g s e.desk e.step row generation p good may apart at making in
        inr (c.0, c.1, c.2, subst (λ (d : ℕ). IsConfirmedNext row (own es d)) (sym c.3) later)
    go false is next =
        let on : IsSomeAnd (booking_at (apply s e) row generation) (MayBecome e.desk p) =
        subst (λ (o : Option Booking). IfSome o (λ b. IsSomeAnd (booking_at (apply s e) row generation) (MayBecome e.desk b))) at ((GoesOn-step g s e.desk e.step may).bookings row generation) in
        let n = found (booking_at (apply s e) row generation) (MayBecome e.desk p) on in
        let same : n.0 ≡ p = n.2.owner_alone (firm_making p.phase making) (λ i. absurd (let yes : eqb e.desk p.owner ≡ true = rw i (eq-eqb e.desk e.desk refl) in let bad : true ≡ false = sym yes ∙ is in cc)) in
        inr (p, n.1 ∙ ap (λ (b : Booking). Some b) same, making, next)

comes_on : (g : Layout) (s : State) (e : Entry) (es : List Entry) (row generation : ℕ) → IsWellFormed g s → IsAllowed g s e → Comes s (e ∷ es) row generation → Comes (apply s e) es row generation
comes_on g s e es row generation good may (inl made) = inl (made_on g s e.desk e.step row generation may made)
comes_on g s e es row generation good may (inr pending) = pending_on g s e es row generation good may pending

-- a booking of a state for which this holds
any_at : {X : Type 0} (P : X → Type 0) (xs : List X) → Any P xs → (front : List X) × (x : X) × (rest : List X) × (xs ≡ front ++ x ∷ rest) × P x
any_at P [] (k, x, below, e, p) = absurd (omega arith)
any_at P (y ∷ ys) (zero, x, below, e, p) = ([], y, ys, refl, subst P (sym e) p)
any_at {X} P (y ∷ ys) (suc k, x, below, e, p) =
    let r = any_at P ys (k, x, (omega arith), e, p) in (y ∷ r.0, r.1, r.2, ap (λ (l : List X). y ∷ l) r.3, r.4)

-- a booking that an exchange's turn left expects its successor
turn_expects : (g : Layout) (s : State) (e : Entry) (es : List Entry) (q : ℕ) (from : Phase) (end : End) → IsWellFormed g s → AreInRows g s → g.rows ≤ most_rows
    → e.step ≡ end_turn q from (Ending Exchange) end → IsAllowed g s e → IsSuccessor s e.desk end.successor → IsConfirmedNext ((end.successor - 1) % successor_rows) (own es e.desk)
    → (row generation : ℕ) → row < successor_rows → end.successor ≡ successor_word row generation → Comes (apply s e) es row generation
turn_expects g s e es q from end good range few is may successor next row generation small word =
    let w : ℕ = end.successor in
    let p = any_at (λ b. IsMadeBy e.desk b × (successor_word b.row b.generation ≡ w)) s successor in
    let b : Booking = p.1 in
    let at : booking_at s b.row b.generation ≡ Some b = stands_there s p.0 b p.2 good.keys p.3 in
    let in_rows : b.row < g.rows = All-found (λ (c : Booking). c.row < g.rows) _ s b at range in
    let its : 1 + b.row + 4294967296 * b.generation ≡ w = p.4.1 in
    let given : w ≡ 1 + row + 4294967296 * generation = word in
    let same_row : b.row ≡ row = omega (arith, its, given, in_rows, few, small) in
    let same_generation : b.generation ≡ generation = omega (arith, its, given, in_rows, few, small) in
    let found_row : (w - 1) % 4294967296 ≡ row = omega (arith, given, small) in
    let there : booking_at s row generation ≡ Some b = rw (← same_row, ← same_generation) at in
    let apart : seals row e.step ≡ false = rw is refl in
    let c = making_stays g s e.desk e.step row generation b good may apart there p.4.0.0 in
    inr (c.0, c.1, c.2, subst (λ (d : ℕ). IsConfirmedNext row (own es d)) (sym (c.3 ∙ p.4.0.1)) (subst (λ (r : ℕ). IsConfirmedNext r (own es e.desk)) found_row next))

-- whether a phase is that of an exchange
not_sealed_so : (phase : Phase) (X : Type 0) → (phase ≡ Prebooked) ⊎ ((phase ≡ Confirmed) × X) → (phase ≡ Ending Exchange) ⊎ (phase ≡ Ended Exchange) → ⊥
not_sealed_so phase X (inl a) (inl b) = let bad : Prebooked ≡ Ending Exchange = sym a ∙ b in absurd cc
not_sealed_so phase X (inl a) (inr b) = let bad : Prebooked ≡ Ended Exchange = sym a ∙ b in absurd cc
not_sealed_so phase X (inr a) (inl b) = let bad : Confirmed ≡ Ending Exchange = sym a.0 ∙ b in absurd cc
not_sealed_so phase X (inr a) (inr b) = let bad : Confirmed ≡ Ended Exchange = sym a.0 ∙ b in absurd cc

still_exchanged : (kind : EndKind) (phase : Phase) → phase ≡ Ending kind → (ended_phase phase ≡ Ending Exchange) ⊎ (ended_phase phase ≡ Ended Exchange) → phase ≡ Ending Exchange
still_exchanged kind phase is (inl a) = let bad : Ended kind ≡ Ending Exchange = sym (ap ended_phase is) ∙ a in absurd cc
still_exchanged kind phase is (inr a) = let same : Ended kind ≡ Ended Exchange = sym (ap ended_phase is) ∙ a in let one : kind ≡ Exchange = cc in is ∙ ap (λ (k : EndKind). Ending k) one

-- the entries to come of each desk
abbrev AllSettled : List Entry → Type 0
AllSettled es = (desk : ℕ) → AreSettled (own es desk)

settled_behind : (e : Entry) (es : List Entry) → AllSettled (e ∷ es) → AllSettled es
settled_behind e es all desk = go (eqb e.desk desk) (all desk)
  where
    go : (mine : Bool) → AreSettled (cond mine (e ∷ own es desk) (own es desk)) → AreSettled (own es desk)
    go true all = all.1
    go false all = all

settled_at : (e : Entry) (es : List Entry) → AllSettled (e ∷ es) → exchanges e.step ≡ true → IsConfirmedNext (successor_row e.step) (own es e.desk)
settled_at e es all = go (eqb e.desk e.desk) (eq-eqb e.desk e.desk refl) (all e.desk)
  where
    go : (mine : Bool) → mine ≡ true → AreSettled (cond mine (e ∷ own es e.desk) (own es e.desk)) → exchanges e.step ≡ true → IsConfirmedNext (successor_row e.step) (own es e.desk)
    go true is all = all.0
    go false is all = absurd cc

-- what a turn leaves of a booking
turned_expects : (g : Layout) (s : State) (e : Entry) (es : List Entry) (q : ℕ) (from to : Phase) (end : End) (limit : ℕ) (b : Booking) → IsWellFormed g s → AreInRows g s → g.rows ≤ most_rows
    → AllSettled (e ∷ es) → e.step ≡ end_turn q from to end → IsAllowed g s e → TurnsWith s e.desk limit to end
    → Expects (apply s e) es (turned e.desk to end b)
turned_expects g s e es q from (Ending Exchange) end limit b good range few settled is may with exchanged row generation small word =
    turn_expects g s e es q from end good range few is may with.1
    (subst (λ (st : Step). IsConfirmedNext (successor_row st) (own es e.desk)) is (settled_at e es settled (ap exchanges is))) row generation small word
turned_expects g s e es q from (Ending Release) end limit b good range few settled is may with (inl a) row generation small word = let bad : Ending Release ≡ Ending Exchange = a in absurd cc
turned_expects g s e es q from (Ending Release) end limit b good range few settled is may with (inr a) row generation small word = let bad : Ending Release ≡ Ended Exchange = a in absurd cc
turned_expects g s e es q from (Ending Expire) end limit b good range few settled is may with (inl a) row generation small word = let bad : Ending Expire ≡ Ending Exchange = a in absurd cc
turned_expects g s e es q from (Ending Expire) end limit b good range few settled is may with (inr a) row generation small word = let bad : Ending Expire ≡ Ended Exchange = a in absurd cc
turned_expects g s e es q from (Ending Refund) end limit b good range few settled is may with (inl a) row generation small word = let bad : Ending Refund ≡ Ending Exchange = a in absurd cc
turned_expects g s e es q from (Ending Refund) end limit b good range few settled is may with (inr a) row generation small word = let bad : Ending Refund ≡ Ended Exchange = a in absurd cc
turned_expects g s e es q from Confirmed end limit b good range few settled is may with (inl a) row generation small word = let bad : Confirmed ≡ Ending Exchange = a in absurd cc
turned_expects g s e es q from Confirmed end limit b good range few settled is may with (inr a) row generation small word = let bad : Confirmed ≡ Ended Exchange = a in absurd cc
turned_expects g s e es q from Fulfilled end limit b good range few settled is may with (inl a) row generation small word = let bad : Fulfilled ≡ Ending Exchange = a in absurd cc
turned_expects g s e es q from Fulfilled end limit b good range few settled is may with (inr a) row generation small word = let bad : Fulfilled ≡ Ended Exchange = a in absurd cc
turned_expects g s e es q from Free end limit b good range few settled is may with exchanged row generation small word = absurd with
turned_expects g s e es q from Making end limit b good range few settled is may with exchanged row generation small word = absurd with
turned_expects g s e es q from Prebooked end limit b good range few settled is may with exchanged row generation small word = absurd with
turned_expects g s e es q from (Ended kind) end limit b good range few settled is may with exchanged row generation small word = absurd with

-- all that was exchanged, after one entry more
expects_on : (g : Layout) (s : State) (e : Entry) (es : List Entry) → IsWellFormed g s → AreInRows g s → g.rows ≤ most_rows → AllSettled (e ∷ es) → IsAllowed g s e
    → AllByRecursion (Expects s (e ∷ es)) s → AllByRecursion (Expects (apply s e) es) (apply s e)
expects_on g s e es good range few settled may all = go e.step refl may
  where
    t : State
    t = apply s e

    near : AllByRecursion (Expects t es) s
    near = All-map {Q = Expects t es} (λ (b : Booking) (h : Expects s (e ∷ es) b) exchanged row generation small word. comes_on g s e es row generation good may (h exchanged row generation small word)) s all

    there : (q : ℕ) (b : Booking) → present s q ≡ Some b → Expects t es b
    there q b at = All-found (Expects t es) (stands_in s q) s b at near

    changed : (q : ℕ) (f : Booking → Booking) (b : Booking) → present s q ≡ Some b → Expects t es (f b) → AllByRecursion (Expects t es) (change s q f)
    changed q f b at new = All-changed (Expects t es) (stands_in s q) f s b at near new

    go : (st : Step) → e.step ≡ st → IsAllowedStep g s e.desk st → AllByRecursion (Expects t es) (apply_step s e.desk st)
    go (Look place half shown) is may = near
    go (Take q place span) is may =
        let b = found (present s q) (λ b. IsMadeBy e.desk b × _) may.2 in changed q (item_taken place span) b.0 b.1 (there q b.0 b.1)
    go (Give q item) is may =
        let b = found (present s q) (MayGive e.desk item) may.1 in changed q (given item) b.0 b.1 (there q b.0 b.1)
    go (Start q j) is may = All-append (Expects t es) s (started q j e.desk (words_of_row s q) ∷ []) near (
      (λ exchanged row generation small word. absurd (elim exchanged [
        | inl a ↦ (let bad : Making ≡ Ending Exchange = a in cc)
        | inr a ↦ (let bad : Making ≡ Ended Exchange = a in cc)
      ])),
      tt,
    )
    go (SawRow q word value) is may = near
    go (Note q word value) is may =
        let b = found (present s q) (MayNote e.desk word) may.1 in changed q (noted word value) b.0 b.1 (there q b.0 b.1)
    go (Seal q phase) is may =
        let b = found (present s q) (λ b. IsMadeBy e.desk b × IsSealable b × MaySealAs s e.desk b phase) may.1 in
        changed q (in_phase phase) b.0 b.1 (λ exchanged row generation small word. absurd (not_sealed_so phase _ b.2.2 exchanged))
    go (Turn q from to m x w) is may =
        let end : End = end_at m x w in
        let b = found (present s q) (λ b. (b.phase ≡ from) × TurnsWith s e.desk (limit_of b) to end) may.3 in
        changed q (turned e.desk to end) b.0 b.1
        (turned_expects g s e es q from to end (limit_of b.0) b.0 good range few settled is (subst (IsAllowedStep g s e.desk) (sym is) may) b.2.1)
    go (LostTurn q wanted shown) is may = near
    go (Close q) is may =
        let b = found (present s q) (MayClose e.desk) may.1 in
        changed q closed b.0 b.1 (λ exchanged row generation small word. there q b.0 b.1 (inl (still_exchanged b.2.0 b.0.phase b.2.1.0 exchanged)) row generation small word)
    go Met is may = near

rows_on : (g : Layout) (s : State) (d : ℕ) (st : Step) → IsAllowedStep g s d st → AreInRows g s → AreInRows g (apply_step s d st)
rows_on g s d st may all = go st may
  where
    changed : (q : ℕ) (f : Booking → Booking) (b : Booking) → present s q ≡ Some b → (f b).row ≡ b.row → AreInRows g (change s q f)
    changed q f b at same = All-changed (λ c. c.row < g.rows) (stands_in s q) f s b at all
        (subst (λ (r : ℕ). r < g.rows) (sym same) (All-found (λ c. c.row < g.rows) (stands_in s q) s b at all))

    go : (st : Step) → IsAllowedStep g s d st → AreInRows g (apply_step s d st)
    go (Look place half shown) may = all
    go (Take q place span) may = let b = found (present s q) _ may.2 in changed q (item_taken place span) b.0 b.1 refl
    go (Give q item) may = let b = found (present s q) (MayGive d item) may.1 in changed q (given item) b.0 b.1 refl
    go (Start q j) may = All-append (λ c. c.row < g.rows) s (started q j d (words_of_row s q) ∷ []) all (may.0, tt)
    go (SawRow q word value) may = all
    go (Note q word value) may = let b = found (present s q) (MayNote d word) may.1 in changed q (noted word value) b.0 b.1 refl
    go (Seal q phase) may = let b = found (present s q) _ may.1 in changed q (in_phase phase) b.0 b.1 refl
    go (Turn q from to m x w) may =
        let end : End = end_at m x w in
        let b = found (present s q) _ may.3 in
        changed q (turned d to end) b.0 b.1 (ap (λ (k : ℕ × ℕ). k.0) (turned-key d to end b.0))
    go (LostTurn q wanted shown) may = all
    go (Close q) may = let b = found (present s q) (MayClose d) may.1 in changed q closed b.0 b.1 refl
    go Met may = all

expects_all : (g : Layout) (s : State) (es : List Entry) → IsWellFormed g s → AreInRows g s → g.rows ≤ most_rows → AllSettled es → IsLegalFrom g s es
    → AllByRecursion (Expects s es) s → AllByRecursion (Expects (state_after s es) []) (state_after s es)
expects_all g s [] good range few settled legal all = all
expects_all g s (e ∷ es) good range few settled legal all =
    expects_all g (apply s e) es (WellFormed-step g s e.desk e.step good legal.0) (rows_on g s e.desk e.step legal.0 range) few (settled_behind e es settled) legal.1
    (expects_on g s e es good range few settled legal.0 all)

-- at the end nothing is still to come
succeeded_all : (w : WallView) → IsLegal w.layout w.history → IsTidyWall w → AreSucceeded (state_on w)
succeeded_all w legal tidy =
    All-map {Q = HasSuccessor (state_on w)} (λ (b : Booking) (h : Expects (state_on w) [] b) exchanged row generation small word. elim (h exchanged row generation small word) [
      | inl made ↦ made
      | inr pending ↦ absurd pending.3
    ]) (state_on w) (expects_all w.layout w.layout.opening w.history legal.0.well_formed (All-map {Q = λ (b : Booking). b.row < w.layout.rows} (λ (b : Booking) (is : IsInRange w.layout b). is.row) w.layout.opening legal.0.in_range) tidy.rows tidy.settled legal.1
    (All-map {Q = Expects w.layout.opening w.history} (λ (b : Booking) (h : HasSuccessor w.layout.opening b) exchanged row generation small word. inl (h exchanged row generation small word)) w.layout.opening tidy.succeeded))

-- what is made isn't unmade
made_unmade : (s : State) (row generation : ℕ) → IsMade s row generation → IsUnmade s row generation → ⊥
made_unmade s row generation (inl later) (inl free) = let zero = free_next s row free in omega (arith, later, zero)
made_unmade s row generation (inr sealed) (inl free) =
    let none : phase_at s row generation ≡ Free = ap (λ (o : Option Booking). option_map_or (λ (b : Booking). b.phase) o Free) (none_of_free s row generation (free_next s row free)) in
    let low : stage (phase_at s row generation) ≡ 0 = ap stage none in
    omega (arith, sealed, low)
made_unmade s row generation (inl later) (inr on) =
    let p = found (present s row) (λ b. (b.phase ≡ Making) × (b.generation ≡ generation)) on in
    let top = (present_latest s row p.0 p.1).1 in
    let its = p.2.1 in
    omega (arith, later, top, its)
made_unmade s row generation (inr sealed) (inr on) =
    let p = found (present s row) (λ b. (b.phase ≡ Making) × (b.generation ≡ generation)) on in
    let at : booking_at s row generation ≡ Some p.0 = subst (λ (j : ℕ). booking_at s row j ≡ Some p.0) p.2.1 (present_key s row p.0 p.1) in
    let its : phase_at s row generation ≡ Making = ap (λ (o : Option Booking). option_map_or (λ (b : Booking). b.phase) o Free) at ∙ p.2.0 in
    let low : stage (phase_at s row generation) ≡ 1 = ap stage its in
    omega (arith, sealed, low)

none_open : (w : WallView) → IsLegal w.layout w.history → IsTidyWall w → NoneOpen w
none_open w legal tidy row below open_yet =
    let b = found (present (state_on w) row) (IsOpenBooking (state_on w)) open_yet in
    elim b.2 [
      | inl ending ↦ All-found (λ c. (kind : EndKind) → c.phase ≡ Ending kind → ⊥) (stands_in (state_on w) row) (state_on w) b.0 b.1 tidy.none_ending ending.0 ending.1
      | inr exchanged ↦
          made_unmade (state_on w) exchanged.1.0 exchanged.1.1
          (All-found (HasSuccessor (state_on w)) (stands_in (state_on w) row) (state_on w) b.0 b.1 (succeeded_all w legal tidy) (inr exchanged.0) exchanged.1.0 exchanged.1.1 exchanged.1.2 exchanged.1.3)
          exchanged.1.4
    ]

-- given back items occupy nothing
given_apart : (place leg : ℕ) (items : List BookedItem) → AllByRecursion (λ i. i.given_back ≡ true) items → list_any (occupies place leg) items ≡ false
given_apart place leg [] all = refl
given_apart place leg (i ∷ is) all = rw (all.0, given_apart place leg is all.1) (nothing (eqb i.place place))
  where
    nothing : (b : Bool) → ((b && false) || false) ≡ false
    nothing true = refl
    nothing false = refl

-- only live bookings occupy
abbrev IsNothing : ℕ → ℕ → Booking → Type 0
IsNothing place leg b = is_live b.phase ≡ false → list_any (occupies place leg) b.items ≡ false

occupied_live : (place leg : ℕ) (s : State) → AllByRecursion (IsNothing place leg) s → is_occupied s place leg ≡ is_occupied (filter (λ b. is_live b.phase) s) place leg
occupied_live place leg [] all = refl
occupied_live place leg (b ∷ bs) all = go (occupied_live place leg bs all.1) (is_live b.phase) refl
  where
    go : is_occupied bs place leg ≡ is_occupied (filter (λ b. is_live b.phase) bs) place leg → (live : Bool) → is_live b.phase ≡ live → is_occupied (b ∷ bs) place leg ≡ is_occupied (cond live (b ∷ filter (λ b. is_live b.phase) bs) (filter (λ b. is_live b.phase) bs)) place leg
    go more true is = list_any-append (occupies place leg) b.items _ ∙ (ap (λ (rest : Bool). list_any (occupies place leg) b.items || rest) more ∙ sym (list_any-append (occupies place leg) b.items _))
    go more false is = list_any-append (occupies place leg) b.items _ ∙ (ap (λ (here : Bool). here || is_occupied bs place leg) (all.0 is) ∙ more)

nothing_else : (g : Layout) (place leg : ℕ) (b : Booking) → IsSound g b → ((kind : EndKind) → b.phase ≡ Ending kind → ⊥) → (b.phase ≡ Making → b.items ≡ []) → IsNothing place leg b
nothing_else g place leg b sound none empty dead = go b.phase refl
  where
    go : (ph : Phase) → b.phase ≡ ph → list_any (occupies place leg) b.items ≡ false
    go Free is = absurd (sound.started is)
    go Making is = ap (list_any (occupies place leg)) (empty is)
    go Prebooked is = let bad : false ≡ true = sym dead ∙ ap is_live is in absurd cc
    go Confirmed is = let bad : false ≡ true = sym dead ∙ ap is_live is in absurd cc
    go Fulfilled is = let bad : false ≡ true = sym dead ∙ ap is_live is in absurd cc
    go (Ending kind) is = absurd (none kind is)
    go (Ended kind) is = given_apart place leg b.items (sound.ended kind is).0

all_nothing : (w : WallView) (place leg : ℕ) → IsLegal w.layout w.history → IsTidyWall w → AllByRecursion (IsNothing place leg) (state_on w)
all_nothing w place leg legal tidy =
    All-both {R = IsNothing place leg} (λ (b : Booking) (h : IsSound w.layout b × ((kind : EndKind) → b.phase ≡ Ending kind → ⊥)) (empty : b.phase ≡ Making → b.items ≡ []). nothing_else w.layout place leg b h.0 h.1 empty) (state_on w)
    (All-both {R = λ (b : Booking). IsSound w.layout b × ((kind : EndKind) → b.phase ≡ Ending kind → ⊥)} (λ (b : Booking) (sound : IsSound w.layout b) (none : (kind : EndKind) → b.phase ≡ Ending kind → ⊥). (sound, none)) (state_on w)
    (WellFormed-history w.layout w.layout.opening w.history legal.0.well_formed legal.1).each tidy.none_ending) tidy.empty

same_words : (s t : State) (place half : ℕ) → ((leg : ℕ) → is_occupied s place leg ≡ is_occupied t place leg) → place_word s place half ≡ place_word t place half
same_words s t place half same = λ i. number_of_bits (λ bit. same (leg_of half bit) i) word_legs

none_held : (w : WallView) → IsLegal w.layout w.history → IsTidyWall w → NoneHeld w
none_held w legal tidy place below held =
    held.2 (same_words (state_on w) (filter (λ b. is_live b.phase) (state_on w)) place held.0 (λ leg. occupied_live place leg (state_on w) (all_nothing w place leg legal tidy)))

-- So it may be exported.
pub tidied : (w : WallView) → IsLegal w.layout w.history → IsTidyWall w → NoneOpen w × NoneHeld w
tidied w legal tidy = (none_open w legal tidy, none_held w legal tidy)

-- and want of memory is the one fault
pub only_memory : {A : Type 0} (w : WallView) → IsLegal w.layout w.history → IsTidyWall w → (r : Result A ExportFault) → IfErr r (IsExportFault w) → IfErr r (λ e. e ≡ fault.NoMemory)
only_memory w legal tidy (Ok text) is = tt
only_memory w legal tidy (Err (fault.RowOpen row)) is = absurd ((tidied w legal tidy).0 row is.0 is.1)
only_memory w legal tidy (Err (fault.PlaceHeld place)) is = absurd ((tidied w legal tidy).1 place is.1.0 is.1.1)
only_memory w legal tidy (Err fault.NoMemory) is = refl

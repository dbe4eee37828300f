-- A row in the making or ending comes to a desk by its own start or turn alone.
use Rattle.std.proofs.Common.{◌≡◌, ◌⊎◌, inl, inr, ⊎_elim, ℕ, ◌<◌, ℤ, Bool, true, false, cond, eqb, List, [], ◌∷◌, ◌++◌, map, length, Option, Some, IsSomeAnd, refl, sym, ap, ◌∙◌, subst, eq-eqb}
use Rattle.std.proofs.lemmas.Bool.{cases_Bool, cases_eq}
use Rattle.history_model.specs.declared.phase.Phase.{Phase}
use Rattle.history_model.specs.declared.phase.Phase.TheVariants.{Free, Making, Prebooked, Confirmed, Fulfilled, Ending, Ended}
use Rattle.history_model.specs.declared.phase.EndKind.{EndKind}
use Rattle.history_model.specs.declared.booking.End.{End}
use Rattle.history_model.specs.declared.entry.Step.{Step}
use Rattle.history_model.specs.declared.entry.Step.TheVariants.{Look, Take, Give, Start, SawRow, Note, Seal, Turn, LostTurn, Close, Met}
use Rattle.history_model.specs.declared.entry.Entry.{Entry}
use Rattle.history_model.specs.Phase.{is_turn}
use Rattle.history_model.specs.Booking.{Booking, Layout, State, key_of, most_items, limit_of, present, change}
use Rattle.history_model.specs.Allowed.{IsAllowedStep, MayStart, MaySealAs, OnRow, IsMadeBy, IsSealable, MayGive, MayNote, MayClose, TurnsWith}
use Rattle.history_model.specs.Apply.{apply, apply_step, words_of_row, started, item_taken, given, noted, in_phase, turned, closed, ended_phase}
use Rattle.history_model.specs.History.{own, IsLegalFrom, state_after, entry}
use Rattle.history_model.specs.Work.{IsIn, starts_row, ends_row, NoStep}
use Rattle.history_model.specs.WholeEnds.{end_at}
use Rattle.history_model.proofs.Keeping.{found, turned-key}
use Rattle.history_model.proofs.Going.{turned-phase}
use Rattle.history_model.proofs.Generations.{present-changed, present-changed_other, present-started, present-started_other}
use Rattle.history_model.proofs.Owners.{on_row}

some_same : (x y : Booking) → Some x ≡ Some y → x ≡ y
some_same x y e = cc

-- a row of a state in which one booking was changed: another row, or that booking
pub split_change : (s : State) (q r : ℕ) (f : Booking → Booking) (P : Booking → Type 0) (b : Booking) → present s q ≡ Some b → ((x : Booking) → key_of (f x) ≡ key_of x) → OnRow (change s q f) r P → OnRow s r P ⊎ ((r ≡ q) × P (f b))
split_change s q r f P b at same on = ⊎_elim
    (λ (here : r ≡ q). let n = found (present (change s q f) r) P on in
    inr (here, subst P (some_same n.0 (f b) (sym n.1 ∙ (ap (present (change s q f)) here ∙ present-changed s q f b same at))) n.2))
    (λ (other : r ≡ q → ⊥). inl (subst (λ (o : Option Booking). IsSomeAnd o P) (present-changed_other s q r f same other) on))
    (cases_eq r q)

-- where the change keeps phase and owner
same_work : (s : State) (q r : ℕ) (f : Booking → Booking) (phase : Phase) (d : ℕ) (b : Booking) → present s q ≡ Some b → ((x : Booking) → key_of (f x) ≡ key_of x) → (f b).phase ≡ b.phase → (f b).owner ≡ b.owner → OnRow (change s q f) r (IsIn phase d) → OnRow s r (IsIn phase d)
same_work s q r f phase d b at row ph ow on = ⊎_elim (λ (o : OnRow s r (IsIn phase d)). o)
    (λ (h : (r ≡ q) × IsIn phase d (f b)). subst (λ (k : ℕ). OnRow s k (IsIn phase d)) (sym h.0) (on_row s q b (IsIn phase d) at (sym ph ∙ h.1.0, sym ow ∙ h.1.1)))
    (split_change s q r f (IsIn phase d) b at row on)

no_turn : (from : Phase) → is_turn from Making ≡ true → ⊥
no_turn Free e = let no : false ≡ true = e in cc
no_turn Making e = let no : false ≡ true = e in cc
no_turn Prebooked e = let no : false ≡ true = e in cc
no_turn Confirmed e = let no : false ≡ true = e in cc
no_turn Fulfilled e = let no : false ≡ true = e in cc
no_turn (Ending k) e = let no : false ≡ true = e in cc
no_turn (Ended k) e = let no : false ≡ true = e in cc

-- a started row
start_split : (s : State) (q j who r : ℕ) (P : Booking → Type 0) → MayStart s q j → OnRow (s ++ started q j who (words_of_row s q) ∷ []) r P → OnRow s r P ⊎ ((eqb q r ≡ true) × P (started q j who (words_of_row s q)))
start_split s q j who r P may on = ⊎_elim
    (λ (here : r ≡ q). inr (eq-eqb q r (sym here), subst (λ (o : Option Booking). IsSomeAnd o P) (ap (present (s ++ new ∷ [])) here ∙ present-started s q j who (words_of_row s q) may) on))
    (λ (other : r ≡ q → ⊥). inl (subst (λ (o : Option Booking). IsSomeAnd o P) (present-started_other s q j who (words_of_row s q) r other) on))
    (cases_eq r q)
  where
    new : Booking
    new = started q j who (words_of_row s q)

pub made_step : (g : Layout) (s : State) (who : ℕ) (st : Step) (d r : ℕ) → IsAllowedStep g s who st → OnRow (apply_step s who st) r (IsMadeBy d) → OnRow s r (IsMadeBy d) ⊎ ((who ≡ d) × (starts_row r st ≡ true))
made_step g s who (Look p k n) d r may on = inl on
made_step g s who (Take q p span) d r may on =
    let b = found (present s q) (λ b. IsMadeBy who b × (length b.items < most_items)) may.2 in
    inl (same_work s q r (item_taken p span) Making d b.0 b.1 (λ _. refl) refl refl on)
made_step g s who (Give q k) d r may on =
    let b = found (present s q) (MayGive who k) may.1 in
    inl (same_work s q r (given k) Making d b.0 b.1 (λ _. refl) refl refl on)
made_step g s who (Start q j) d r may on = ⊎_elim (λ (o : OnRow s r (IsMadeBy d)). inl o) (λ (h : (eqb q r ≡ true) × IsMadeBy d (started q j who (words_of_row s q))). inr (h.1.1, h.0)) (start_split s q j who r (IsMadeBy d) may.1 on)
made_step g s who (SawRow q w n) d r may on = inl on
made_step g s who (Note q w n) d r may on =
    let b = found (present s q) (MayNote who w) may.1 in
    inl (same_work s q r (noted w n) Making d b.0 b.1 (λ _. refl) refl refl on)
made_step g s who (Seal q ph) d r may on =
    let b = found (present s q) (λ b. IsMadeBy who b × IsSealable b × MaySealAs s who b ph) may.1 in
    ⊎_elim (λ (o : OnRow s r (IsMadeBy d)). inl o)
    (λ (h : (r ≡ q) × IsMadeBy d (in_phase ph b.0)). absurd (⊎_elim (λ e. let no : Prebooked ≡ Making = sym e ∙ h.1.0 in cc) (λ e. let no : Confirmed ≡ Making = sym e.0 ∙ h.1.0 in cc) b.2.2))
    (split_change s q r (in_phase ph) (IsMadeBy d) b.0 b.1 (λ _. refl) on)
made_step g s who (Turn q from to m a x) d r may on =
    let end : End = end_at m a x in
    let b = found (present s q) (λ b. (b.phase ≡ from) × TurnsWith s who (limit_of b) to end) may.3 in
    ⊎_elim (λ (o : OnRow s r (IsMadeBy d)). inl o)
    (λ (h : (r ≡ q) × IsMadeBy d (turned who to end b.0)). absurd (no_turn from (subst (λ (ph : Phase). is_turn from ph ≡ true) (sym (turned-phase who to end b.0) ∙ h.1.0) may.1)))
    (split_change s q r (turned who to end) (IsMadeBy d) b.0 b.1 (turned-key who to end) on)
made_step g s who (LostTurn q wanted shown) d r may on = inl on
made_step g s who (Close q) d r may on =
    let b = found (present s q) (MayClose who) may.1 in
    ⊎_elim (λ (o : OnRow s r (IsMadeBy d)). inl o)
    (λ (h : (r ≡ q) × IsMadeBy d (closed b.0)). absurd (let no : Ended b.2.0 ≡ Making = sym (ap ended_phase b.2.1.0) ∙ h.1.0 in cc))
    (split_change s q r closed (IsMadeBy d) b.0 b.1 (λ _. refl) on)
made_step g s who Met d r may on = inl on

turn_ends : (s : State) (q who d r : ℕ) (from to : Phase) (end : End) (m : ℕ) (a : ℤ) (x : ℕ) (kind : EndKind) (b : Booking) → r ≡ q → to ≡ Ending kind → IsIn (Ending kind) d (turned who to end b) → (who ≡ d) × (ends_row r (Turn q from to m a x) ≡ true)
turn_ends s q who d r from to end m a x kind b here is on =
    subst (λ (ph : Phase). IsIn (Ending kind) d (turned who ph end b) → (who ≡ d) × (ends_row r (Turn q from ph m a x) ≡ true)) (sym is)
    (λ h. (h.1, eq-eqb q r (sym here))) on

pub ended_step : (g : Layout) (s : State) (who : ℕ) (st : Step) (kind : EndKind) (d r : ℕ) → IsAllowedStep g s who st → OnRow (apply_step s who st) r (IsIn (Ending kind) d) → OnRow s r (IsIn (Ending kind) d) ⊎ ((who ≡ d) × (ends_row r st ≡ true))
ended_step g s who (Look p k n) kind d r may on = inl on
ended_step g s who (Take q p span) kind d r may on =
    let b = found (present s q) (λ b. IsMadeBy who b × (length b.items < most_items)) may.2 in
    inl (same_work s q r (item_taken p span) (Ending kind) d b.0 b.1 (λ _. refl) refl refl on)
ended_step g s who (Give q k) kind d r may on =
    let b = found (present s q) (MayGive who k) may.1 in
    inl (same_work s q r (given k) (Ending kind) d b.0 b.1 (λ _. refl) refl refl on)
ended_step g s who (Start q j) kind d r may on = ⊎_elim (λ (o : OnRow s r (IsIn (Ending kind) d)). inl o)
    (λ (h : (eqb q r ≡ true) × IsIn (Ending kind) d (started q j who (words_of_row s q))). absurd (let no : Making ≡ Ending kind = h.1.0 in cc)) (start_split s q j who r (IsIn (Ending kind) d) may.1 on)
ended_step g s who (SawRow q w n) kind d r may on = inl on
ended_step g s who (Note q w n) kind d r may on =
    let b = found (present s q) (MayNote who w) may.1 in
    inl (same_work s q r (noted w n) (Ending kind) d b.0 b.1 (λ _. refl) refl refl on)
ended_step g s who (Seal q ph) kind d r may on =
    let b = found (present s q) (λ b. IsMadeBy who b × IsSealable b × MaySealAs s who b ph) may.1 in
    ⊎_elim (λ (o : OnRow s r (IsIn (Ending kind) d)). inl o)
    (λ (h : (r ≡ q) × IsIn (Ending kind) d (in_phase ph b.0)). absurd (⊎_elim (λ e. let no : Prebooked ≡ Ending kind = sym e ∙ h.1.0 in cc) (λ e. let no : Confirmed ≡ Ending kind = sym e.0 ∙ h.1.0 in cc) b.2.2))
    (split_change s q r (in_phase ph) (IsIn (Ending kind) d) b.0 b.1 (λ _. refl) on)
ended_step g s who (Turn q from to m a x) kind d r may on =
    let end : End = end_at m a x in
    let b = found (present s q) (λ b. (b.phase ≡ from) × TurnsWith s who (limit_of b) to end) may.3 in
    ⊎_elim (λ (o : OnRow s r (IsIn (Ending kind) d)). inl o)
    (λ (h : (r ≡ q) × IsIn (Ending kind) d (turned who to end b.0)). inr (turn_ends s q who d r from to end m a x kind b.0 h.0 (sym (turned-phase who to end b.0) ∙ h.1.0) h.1))
    (split_change s q r (turned who to end) (IsIn (Ending kind) d) b.0 b.1 (turned-key who to end) on)
ended_step g s who (LostTurn q wanted shown) kind d r may on = inl on
ended_step g s who (Close q) kind d r may on =
    let b = found (present s q) (MayClose who) may.1 in
    ⊎_elim (λ (o : OnRow s r (IsIn (Ending kind) d)). inl o)
    (λ (h : (r ≡ q) × IsIn (Ending kind) d (closed b.0)). absurd (let no : Ended b.2.0 ≡ Ending kind = sym (ap ended_phase b.2.1.0) ∙ h.1.0 in cc))
    (split_change s q r closed (IsIn (Ending kind) d) b.0 b.1 (λ _. refl) on)
ended_step g s who Met kind d r may on = inl on

-- what comes by no step but a desk's own of some kind was there before, where the desk has none of these
since : (g : Layout) (P : Booking → Type 0) (test : Step → Bool) (d r : ℕ)
    → ((s : State) (who : ℕ) (st : Step) → IsAllowedStep g s who st → OnRow (apply_step s who st) r P → OnRow s r P ⊎ ((who ≡ d) × (test st ≡ true)))
    → (s : State) (es : List Entry) (sts : List Step) → IsLegalFrom g s es → own es d ≡ map (entry d) sts → NoStep test sts → OnRow (state_after s es) r P → OnRow s r P
since g P test d r step s [] sts legal e calm on = on
since g P test d r step s (x ∷ es) sts legal e calm on = ⊎_elim
    (λ (t : eqb x.desk d ≡ true). mine (λ rest f calm. since g P test d r step (apply s x) es rest legal.1 f calm on) sts (sym (ap (λ (c : Bool). cond c (x ∷ own es d) (own es d)) t) ∙ e) calm)
    (λ (t : eqb x.desk d ≡ false). other t (since g P test d r step (apply s x) es sts legal.1 (sym (ap (λ (c : Bool). cond c (x ∷ own es d) (own es d)) t) ∙ e) calm on))
    (cases_Bool (eqb x.desk d))
  where
    both : {t : Bool} → t ≡ true → t ≡ false → ⊥
    both e f = let no : true ≡ false = sym e ∙ f in cc

    other : eqb x.desk d ≡ false → OnRow (apply s x) r P → OnRow s r P
    other t o = ⊎_elim (λ (b : OnRow s r P). b) (λ (h : (x.desk ≡ d) × (test x.step ≡ true)). absurd (both (eq-eqb x.desk d h.0) t)) (step s x.desk x.step legal.0 o)

    step_of : List Entry → Step
    step_of [] = Met
    step_of (y ∷ ys) = y.step

    rest_of : List Entry → List Entry
    rest_of [] = []
    rest_of (y ∷ ys) = ys

    cons_nil : {y : Entry} {ys : List Entry} → y ∷ ys ≡ [] → ⊥
    cons_nil e = cc

    mine : ((rest : List Step) → own es d ≡ map (entry d) rest → NoStep test rest → OnRow (apply s x) r P) → (sts : List Step) → x ∷ own es d ≡ map (entry d) sts → NoStep test sts → OnRow s r P
    mine next [] f calm = absurd (cons_nil f)
    mine next (st ∷ rest) f calm = ⊎_elim (λ (b : OnRow s r P). b) (λ (h : (x.desk ≡ d) × (test x.step ≡ true)). absurd (both h.1 (ap test (ap step_of f) ∙ calm.0)))
        (step s x.desk x.step legal.0 (next rest (ap rest_of f) calm.1))

pub made_since : (g : Layout) (s : State) (es : List Entry) (sts : List Step) (d r : ℕ) → IsLegalFrom g s es → own es d ≡ map (entry d) sts → NoStep (starts_row r) sts → OnRow (state_after s es) r (IsMadeBy d) → OnRow s r (IsMadeBy d)
made_since g s es sts d r = since g (IsMadeBy d) (starts_row r) d r (λ t who st. made_step g t who st d r) s es sts

pub ended_since : (g : Layout) (s : State) (es : List Entry) (sts : List Step) (kind : EndKind) (d r : ℕ) → IsLegalFrom g s es → own es d ≡ map (entry d) sts → NoStep (ends_row r) sts → OnRow (state_after s es) r (IsIn (Ending kind) d) → OnRow s r (IsIn (Ending kind) d)
ended_since g s es sts kind d r = since g (IsIn (Ending kind) d) (ends_row r) d r (λ t who st. ended_step g t who st kind d r) s es sts

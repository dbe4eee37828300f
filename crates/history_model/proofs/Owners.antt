-- What a desk owns is changed by its own entries alone.
use Rattle.std.proofs.Common.{◌≡◌, ◌≢◌, ◌<◌, ◌≤◌, arith, ℕ, Bool, true, false, cond, eqb, List, [], ◌∷◌, ◌++◌, Option, Some, None, IfSome, IsSomeAnd, refl, sym, ap, ◌∙◌, subst, ⊎_elim, eq-eqb, not, map}
use Rattle.std.specs.Option.{option_map_or}
use Rattle.std.proofs.lemmas.Bool.{cases_Bool, cases_eq}
use Rattle.history_model.specs.declared.phase.Phase.{Phase}
use Rattle.history_model.specs.declared.phase.EndKind.{EndKind}
use Rattle.history_model.specs.declared.phase.Phase.TheVariants.{Free, Making, Prebooked, Confirmed, Fulfilled, Ending, Ended}
use Rattle.history_model.specs.declared.entry.Step.{Step}
use Rattle.history_model.specs.declared.entry.Step.TheVariants.{Look, Take, Give, Start, SawRow, Note, Seal, Turn, LostTurn, Close, Met}
use Rattle.history_model.specs.declared.entry.Entry.{Entry}
use Rattle.history_model.specs.Booking.{Booking, Layout, State, booking_at, next_generation, phase_of_row, stands_in, present}
use Rattle.history_model.specs.Allowed.{IsAllowedStep, OnRow}
use Rattle.history_model.specs.Apply.{apply, apply_step, words_of_row, item_taken, given, noted, in_phase, turned, closed}
use Rattle.history_model.specs.History.{own, IsLegal, IsLegalFrom, state_after, state_of, entry}
use Rattle.history_model.specs.Laws.{is_owners, stage, IsSound, IsWellFormed, MayBecome}
use Rattle.history_model.specs.Phase.{is_ended}
use Rattle.history_model.specs.Quiet.{is_quiet, AllQuiet}
use Rattle.history_model.specs.WholeEnds.{end_at}
use Rattle.history_model.proofs.Keeping.{found, turned-key}
use Rattle.history_model.proofs.Going.{GoesOn-step}
use Rattle.history_model.proofs.Generations.{free_next, free_of_next, unended_present, present_key, key_at, present-changed_other, present-started_other}
use Rattle.history_model.proofs.Legal.{WellFormed-history}
use Rattle.history_model.proofs.Forward.{next-history}
use Rattle.history_model.proofs.ListLemmas.{All-found}
use Rattle.history_model.proofs.Seen.{none_own, state_of-append, legal-front, legal-rest}

-- what holds of the row's booking, from the booking
pub on_row : (s : State) (row : ℕ) (b : Booking) (P : Booking → Type 0) → present s row ≡ Some b → P b → OnRow s row P
on_row s row b P e p = rw e p

owners_open : (ph : Phase) → is_owners ph ≡ true → is_ended ph ≡ false
owners_open Making t = refl
owners_open (Ending k) t = refl
owners_open Free t = absurd cc
owners_open Prebooked t = absurd cc
owners_open Confirmed t = absurd cc
owners_open Fulfilled t = absurd cc
owners_open (Ended k) t = absurd cc

-- the present booking of a row, that hasn't ended, after a step
pub present_becomes : (g : Layout) (s : State) (row : ℕ) (b : Booking) (d : ℕ) (st : Step) → present s row ≡ Some b → is_ended b.phase ≡ false → IsAllowedStep g s d st → (c : Booking) × (present (apply_step s d st) row ≡ Some c) × MayBecome d b c
present_becomes g s row b d st at unended may =
    let on = (GoesOn-step g s d st may).stands row in
    let on_b : is_ended b.phase ≡ false → IsSomeAnd (present (apply_step s d st) row) (MayBecome d b) = rw at at on in
    found (present (apply_step s d st) row) (MayBecome d b) (on_b unended)

-- a booking in the making or ending, and a step of another desk
other_step : (g : Layout) (s : State) (row : ℕ) (b : Booking) (d : ℕ) (st : Step) → present s row ≡ Some b → is_owners b.phase ≡ true → (d ≡ b.owner → ⊥) → IsAllowedStep g s d st → present (apply_step s d st) row ≡ Some b
other_step g s row b d st at firm other may =
    let n = present_becomes g s row b d st at (owners_open b.phase firm) may in
    n.1 ∙ ap Some (n.2.owner_alone firm (λ e. other (sym e)))

-- such a booking stays as it is under the entries of others
pub firm_stays : (g : Layout) (s : State) (row : ℕ) (b : Booking) (es : List Entry) → present s row ≡ Some b → is_owners b.phase ≡ true → own es b.owner ≡ [] → IsLegalFrom g s es → present (state_after s es) row ≡ Some b
firm_stays g s row b [] at firm none legal = at
firm_stays g s row b (e ∷ es) at firm none legal =
    let n = none_own b.owner e es none in
    firm_stays g (apply s e) row b es (other_step g s row b e.desk e.step at firm n.0 legal.0) firm n.1 legal.1

pub firm_making : (ph : Phase) → ph ≡ Making → is_owners ph ≡ true
firm_making ph m = ap is_owners m

pub firm_ending : (ph : Phase) (k : EndKind) → ph ≡ Ending k → is_owners ph ≡ true
firm_ending ph k m = ap is_owners m

-- steps that leave the row's booking as it is

apart_rows : (x r : ℕ) → not (eqb x r) ≡ true → r ≡ x → ⊥
apart_rows x r q e = both (sym q ∙ ap not (eq-eqb x r (sym e)))
  where
    both : true ≡ not true → ⊥
    both e = cc

pub quiet_step : (s : State) (r : ℕ) (b : Booking) (d : ℕ) (st : Step) → present s r ≡ Some b → is_quiet r st ≡ true → present (apply_step s d st) r ≡ Some b
quiet_step s r b d (Look p k n) at q = at
quiet_step s r b d (Take x p span) at q = present-changed_other s x r (item_taken p span) (λ _. refl) (apart_rows x r q) ∙ at
quiet_step s r b d (Give x k) at q = present-changed_other s x r (given k) (λ _. refl) (apart_rows x r q) ∙ at
quiet_step s r b d (Start x j) at q = present-started_other s x j d (words_of_row s x) r (apart_rows x r q) ∙ at
quiet_step s r b d (SawRow x w n) at q = at
quiet_step s r b d (Note x w n) at q = present-changed_other s x r (noted w n) (λ _. refl) (apart_rows x r q) ∙ at
quiet_step s r b d (Seal x ph) at q = present-changed_other s x r (in_phase ph) (λ _. refl) (apart_rows x r q) ∙ at
quiet_step s r b d (Turn x from to m a y) at q = present-changed_other s x r (turned d to (end_at m a y)) (turned-key d to (end_at m a y)) (apart_rows x r q) ∙ at
quiet_step s r b d (LostTurn x wanted shown) at q = at
quiet_step s r b d (Close x) at q = present-changed_other s x r closed (λ _. refl) (apart_rows x r q) ∙ at
quiet_step s r b d Met at q = at

-- such a booking stays under the entries of others and quiet ones of its owner
pub quiet_stays : (g : Layout) (s : State) (r : ℕ) (b : Booking) (es : List Entry) (sts : List Step) → present s r ≡ Some b → is_owners b.phase ≡ true → own es b.owner ≡ map (entry b.owner) sts → AllQuiet r sts → IsLegalFrom g s es → present (state_after s es) r ≡ Some b
quiet_stays g s r b [] sts at firm e q legal = at
quiet_stays g s r b (x ∷ es) sts at firm e q legal = ⊎_elim
    (λ (t : eqb x.desk b.owner ≡ true). mine (λ rest a f p. quiet_stays g (apply s x) r b es rest a firm f p legal.1) sts (sym (ap (λ (c : Bool). cond c (x ∷ own es b.owner) (own es b.owner)) t) ∙ e) q)
    (λ (t : eqb x.desk b.owner ≡ false). quiet_stays g (apply s x) r b es sts (other_step g s r b x.desk x.step at firm (λ is. both (sym t ∙ eq-eqb x.desk b.owner is)) legal.0) firm
    (sym (ap (λ (c : Bool). cond c (x ∷ own es b.owner) (own es b.owner)) t) ∙ e) q legal.1)
    (cases_Bool (eqb x.desk b.owner))
  where
    both : false ≡ true → ⊥
    both e = cc

    step_of : List Entry → Step
    step_of [] = Met
    step_of (y ∷ ys) = y.step

    rest_of : List Entry → List Entry
    rest_of [] = []
    rest_of (y ∷ ys) = ys

    cons_nil : {y : Entry} {ys : List Entry} → y ∷ ys ≡ [] → ⊥
    cons_nil e = cc

    mine : ((rest : List Step) → present (apply s x) r ≡ Some b → own es b.owner ≡ map (entry b.owner) rest → AllQuiet r rest → present (state_after (apply s x) es) r ≡ Some b) → (sts : List Step) → x ∷ own es b.owner ≡ map (entry b.owner) sts → AllQuiet r sts → present (state_after (apply s x) es) r ≡ Some b
    mine next [] f q = absurd (cons_nil f)
    mine next (st ∷ rest) f q = next rest (quiet_step s r b x.desk x.step at (ap (is_quiet r) (ap step_of f) ∙ q.0)) (ap rest_of f) q.1

-- a row that isn't free stays so, whoever acts

next_of_taken : (s : State) (row : ℕ) → 1 ≤ stage (phase_of_row s row) → 0 < next_generation s row
next_of_taken s row some = ⊎_elim
    (λ (zero : next_generation s row ≡ 0). absurd (free_stage (present s row) (free_of_next s row zero) some))
    (λ (n : next_generation s row ≡ 0 → ⊥). omega (arith, n))
    (cases_eq (next_generation s row) 0)
  where
    free_stage : (o : Option Booking) → o ≡ None → 1 ≤ stage (option_map_or (λ (b : Booking). b.phase) o Free) → ⊥
    free_stage None e l = omega (arith, l)
    free_stage (Some b) e l = let no : ◌≡◌ {A = Option Booking} (Some b) None = e in cc

-- a phase but free is one of a booking
pub phase_some : (p : Phase) → p ≢ Free → 1 ≤ stage p
phase_some Free n = absurd (n refl)
phase_some Making n = omega arith
phase_some Prebooked n = omega arith
phase_some Confirmed n = omega arith
phase_some Fulfilled n = omega arith
phase_some (Ending k) n = omega arith
phase_some (Ended k) n = omega arith

pub taken_stays : (g : Layout) (s : State) (es : List Entry) (row : ℕ) → IsWellFormed g s → IsLegalFrom g s es → 1 ≤ stage (phase_of_row s row) → 1 ≤ stage (phase_of_row (state_after s es) row)
taken_stays g s es row good legal some =
    let t : State = state_after s es in
    let before = next_of_taken s row some in
    let up = next-history g s es row legal in
    go (present t row) refl (λ free. let zero = free_next t row free in absurd (omega (arith, before, up, zero)))
  where
    go : (o : Option Booking) → present (state_after s es) row ≡ o → (present (state_after s es) row ≡ None → ⊥) → 1 ≤ stage (phase_of_row (state_after s es) row)
    go None e none = absurd (none e)
    go (Some b) e none =
        let sound : IsSound g b = All-found (IsSound g) (stands_in (state_after s es) row) (state_after s es) b e (WellFormed-history g s es good legal).each in
        rw e (phase_some b.phase sound.started)

-- over whole histories

pub stands_law : (g : Layout) (history : List Entry) (row generation : ℕ) → IsLegal g history → IfSome (booking_at (state_of g history) row generation) (λ b. is_ended b.phase ≡ false → present (state_of g history) row ≡ Some b)
stands_law g history row generation l = go (booking_at (state_of g history) row generation) refl
  where
    go : (o : Option Booking) → booking_at (state_of g history) row generation ≡ o → IfSome o (λ b. is_ended b.phase ≡ false → present (state_of g history) row ≡ Some b)
    go None e = tt
    go (Some b) e = unended_present (state_of g history) row generation b (WellFormed-history g g.opening history l.0.well_formed l.1).earlier e

pub owners_law : (g : Layout) (history more : List Entry) (row : ℕ) → IsLegal g (history ++ more) → IfSome (present (state_of g history) row) (λ b. is_owners b.phase ≡ true → own more b.owner ≡ [] → present (state_of g (history ++ more)) row ≡ Some b)
owners_law g history more row l = go (present (state_of g history) row) refl
  where
    go : (o : Option Booking) → present (state_of g history) row ≡ o → IfSome o (λ b. is_owners b.phase ≡ true → own more b.owner ≡ [] → present (state_of g (history ++ more)) row ≡ Some b)
    go None at = tt
    go (Some b) at = λ firm none. ap (λ (t : State). present t row) (state_of-append g history more) ∙ firm_stays g (state_of g history) row b more at firm none (legal-rest g history more l)

pub owners_key_law : (g : Layout) (history more : List Entry) (row generation : ℕ) → IsLegal g (history ++ more) → IfSome (booking_at (state_of g history) row generation) (λ b. is_owners b.phase ≡ true → own more b.owner ≡ [] → booking_at (state_of g (history ++ more)) row generation ≡ Some b)
owners_key_law g history more row generation l = go (booking_at (state_of g history) row generation) refl
  where
    go : (o : Option Booking) → booking_at (state_of g history) row generation ≡ o → IfSome o (λ b. is_owners b.phase ≡ true → own more b.owner ≡ [] → booking_at (state_of g (history ++ more)) row generation ≡ Some b)
    go None at = tt
    go (Some b) at = λ firm none.
        let stands = stands_law g history row generation (legal-front g history more l) in
        let here : present (state_of g history) row ≡ Some b = (rw at at stands) (owners_open b.phase firm) in
        let after : present (state_of g (history ++ more)) row ≡ Some b = (rw here at (owners_law g history more row l)) firm none in
        subst (λ (n : ℕ). booking_at (state_of g (history ++ more)) row n ≡ Some b) (key_at (state_of g history) row generation b at).1 (present_key (state_of g (history ++ more)) row b after)

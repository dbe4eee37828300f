-- The row that a lone desk starts.
use Rattle.std.proofs.Common.{◌≡◌, ℕ, zero, suc, ◌+◌, ◌/◌, ◌<◌, true, List, [], ◌∷◌, ◌++◌, length, Option, Some, None, refl, sym, ap, ◌∙◌, subst, ⊎_elim, arith, inl, inr}
use Rattle.std.specs.Prelude.{IsSome}
use Rattle.std.specs.List.{AllByRecursion}
use Rattle.std.specs.Option.{option_map_or}
use Rattle.std.proofs.lemmas.Bool.{true≢false, cases_eq}
use Rattle.rail_ids.specs.Spelling.{last_generation}
use Rattle.rail_ids.specs.declared.RowNo.{RowNo}
use Rattle.history_model.specs.declared.entry.Step.{Step}
use Rattle.history_model.specs.declared.entry.Step.TheVariants.{SawRow, Start}
use Rattle.history_model.specs.Phase.{is_ended, row_word_of}
use Rattle.history_model.specs.Allowed.{MayStart}
use Rattle.history_model.specs.Apply.{started, words_of_row}
use Rattle.history_model.specs.Booking.{Booking, Layout, State, present}
use Rattle.history_model.specs.History.{IsLegalFrom}
use Rattle.history_model.specs.Words.{row_word}
use Rattle.history_model.proofs.Generations.{present-started_other}
use Rattle.history_model.proofs.Keeping.{found}
use Rattle.history_model.proofs.Owners.{on_row}
use Rattle.claim_rule.specs.Rule.{DeskView, state_seen}
use Rattle.claim_rule.specs.Calls.{AddsStepsBy}
use Rattle.booking_rows.specs.Starts.{Misses, misses_steps, IsLeastFree, Passed, passed_steps, IsPassed, search_steps, is_startable, StartsHold}
use Rattle.booking_rows.proofs.StartLemmas.{startable}
use Rattle.lone_desk.specs.Lone.{IsAlone, IsStartable, NoneStartable, StartsLeast, with_started, entries_of, after_steps}
use Rattle.lone_desk.proofs.Following.{shape_follows}
use Rattle.lone_desk.proofs.Looking.{after-append, legal_parts}

misses_change_nothing : (s : State) (desk : ℕ) (misses : Misses) → after_steps s desk (misses_steps misses) ≡ s
misses_change_nothing s desk [] = refl
misses_change_nothing s desk ((row, word) ∷ rest) = misses_change_nothing s desk rest

passed_change_nothing : (s : State) (desk row : ℕ) (p : Passed) → after_steps s desk (passed_steps row p) ≡ s
passed_change_nothing s desk row (n, None) = refl
passed_change_nothing s desk row (n, Some m) = refl

search_changes_nothing : (s : State) (desk row : ℕ) (passed : List Passed) → after_steps s desk (search_steps row passed) ≡ s
search_changes_nothing s desk row [] = refl
search_changes_nothing s desk row (p ∷ ps) =
    after-append s desk (passed_steps row p) (search_steps (suc row) ps)
    ∙ (ap (λ (t : State). after_steps t desk (search_steps (suc row) ps)) (passed_change_nothing s desk row p) ∙ search_changes_nothing s desk (suc row) ps)

-- steps that change nothing, and others behind them

both_after : (s : State) (desk : ℕ) (first more : List Step) → after_steps s desk first ≡ s → after_steps s desk (first ++ more) ≡ after_steps s desk more
both_after s desk first more same = after-append s desk first more ∙ ap (λ (t : State). after_steps t desk more) same

both_legal : (g : Layout) (s : State) (desk : ℕ) (first more : List Step) → after_steps s desk first ≡ s → IsLegalFrom g s (entries_of desk (first ++ more))
    → IsLegalFrom g s (entries_of desk first) × IsLegalFrom g s (entries_of desk more)
both_legal g s desk first more same legal =
    let both = legal_parts g s desk first more legal in
    (both.0, subst (λ (t : State). IsLegalFrom g t (entries_of desk more)) same both.1)

-- the rows in use before

used_before : (s : State) (row : RowNo) (desk q : ℕ) → (q ≡ row.row → IsSome (present s q)) → IsSome (present (with_started s row desk) q) → IsSome (present s q)
used_before s row desk q here some = ⊎_elim
    here
    (λ (other : q ≡ row.row → ⊥). subst IsSome (present-started_other s row.row row.generation desk (words_of_row s row.row) q other) some)
    (cases_eq q row.row)

-- the rows below the one that was started were in use before
least_before : (s t : State) (row : RowNo) (desk : ℕ) → t ≡ with_started s row desk → IsLeastFree t row.row → IsLeastFree s row.row
least_before s t row desk is least lower below =
    used_before s row desk lower (λ e. absurd (omega (arith, e, below))) (subst (λ (u : State). IsSome (present u lower)) is (least lower below))

-- so were all rows, where the one that was started was
full_before : (s t : State) (row : RowNo) (desk n : ℕ) → t ≡ with_started s row desk → IsSome (present s row.row) → IsLeastFree t n → IsLeastFree s n
full_before s t row desk n is some full lower below =
    used_before s row desk lower (λ e. subst (λ (q : ℕ). IsSome (present s q)) (sym e) some) (subst (λ (u : State). IsSome (present u lower)) is (full lower below))

-- a row that was passed may not be started again

word_of : (s : State) (row : ℕ) (b : Booking) → present s row ≡ Some b → row_word_of b.phase b.generation ≡ row_word s row 0
word_of s row b at = sym (ap (λ (o : Option Booking). option_map_or (λ (x : Booking). row_word_of x.phase x.generation) o 0) at)

shown_startable : (s : State) (row : ℕ) → IsStartable s row → is_startable (row_word s row 0) ≡ true
shown_startable s row on =
    let b = found (present s row) (λ (x : Booking). (is_ended x.phase ≡ true) × (x.generation < last_generation)) on in
    (startable b.0.phase b.0.generation (row_word s row 0) (word_of s row b.0 b.1) b.2.0 b.2.1).0

passed_not : (g : Layout) (s : State) (desk row : ℕ) (p : Passed) → IsPassed p → IsLegalFrom g s (entries_of desk (passed_steps row p)) → ¬ IsStartable s row
passed_not g s desk row (n, None) passed legal on =
    true≢false (sym (ap is_startable legal.0.2 ∙ shown_startable s row on) ∙ passed)
passed_not g s desk row (n, Some m) passed legal on = passed.1 (legal.1.0.2 ∙ sym legal.0.2)

none_from : (g : Layout) (s : State) (desk row : ℕ) (passed : List Passed) → AllByRecursion IsPassed passed → IsLegalFrom g s (entries_of desk (search_steps row passed))
    → (q i : ℕ) → q ≡ row + i → i < length passed → ¬ IsStartable s q
none_from g s desk row [] all legal q i at below = absurd (omega (arith, below))
none_from g s desk row (p ∷ ps) all legal q zero at below =
    let both = both_legal g s desk (passed_steps row p) (search_steps (suc row) ps) (passed_change_nothing s desk row p) legal in
    subst (λ (n : ℕ). ¬ IsStartable s n) (sym at) (subst (λ (n : ℕ). ¬ IsStartable s n) (let e : row ≡ row + 0 = omega arith in e) (passed_not g s desk row p all.0 both.0))
none_from g s desk row (p ∷ ps) all legal q (suc i) at below =
    let both = both_legal g s desk (passed_steps row p) (search_steps (suc row) ps) (passed_change_nothing s desk row p) legal in
    none_from g s desk (suc row) ps all.1 both.1 q i (omega (arith, at)) (omega (arith, below))

none_below : (g : Layout) (s : State) (desk : ℕ) (passed : List Passed) (n : ℕ) → length passed ≡ n → AllByRecursion IsPassed passed
    → IsLegalFrom g s (entries_of desk (search_steps 0 passed)) → NoneStartable s n
none_below g s desk passed n many all legal lower below = none_from g s desk 0 passed all legal lower lower (omega arith) (omega (arith, many, below))

-- which start is allowed

free_before : (s : State) (row : ℕ) → MayStart s row 0 → present s row ≡ None
free_before s row (inl free) = free.1
free_before s row (inr again) =
    let b = found (present s row) (λ (b : Booking). (is_ended b.phase ≡ true) × (0 ≡ b.generation + 1)) again.1 in
    let next = b.2.1 in
    absurd (omega (arith, next))

-- the row's booking, which the started one follows
record Follows (s : State) (row : RowNo) : Type 0 where
  pub booking : Booking
  pub at : present s row.row ≡ Some booking
  pub ended : is_ended booking.phase ≡ true
  pub next : row.generation ≡ booking.generation + 1
  pub low : booking.generation < last_generation

follows : (s : State) (row : RowNo) (n : ℕ) → row.generation ≡ n + 1 → MayStart s row.row row.generation → Follows s row
follows s row n next (inl free) = let none = free.0 in absurd (omega (arith, next, none))
follows s row n next (inr again) =
    let b = found (present s row.row) (λ (b : Booking). (is_ended b.phase ≡ true) × (row.generation ≡ b.generation + 1)) again.1 in
    record {
      booking = b.0;
      at = b.1;
      ended = b.2.0;
      next = b.2.1;
      low = (let one = b.2.1 in let most = again.0 in omega (arith, one, most));
    }

pub starts_least : (old new : DeskView) (answer : Option RowNo) → IsAlone old → AddsStepsBy (StartsHold old new answer) old new → StartsLeast old new answer
starts_least old new (Some row) alone (es, inl kept, did) =
    let f = shape_follows old new es alone did in
    inl (kept.0, f.state ∙ ap (after_steps (state_seen old) old.number) kept.1)
starts_least old new (Some row) alone (es, inr (inl (none, first, least, (misses, are, is))), did) =
    let f = shape_follows old new es alone did in
    let d = old.number in
    let s = state_seen old in
    let one : List Step = Start row.row 0 ∷ [] in
    let same = misses_change_nothing s d misses in
    let state : state_seen new ≡ with_started s row d =
    f.state
    ∙ (ap (after_steps s d) is
    ∙ (both_after s d (misses_steps misses) one same ∙ ap (λ (n : ℕ). s ++ started row.row n d (words_of_row s row.row) ∷ []) (sym first))) in
    let legal = (both_legal old.layout s d (misses_steps misses) one same (subst (λ (l : List Step). IsLegalFrom old.layout s (entries_of d l)) is f.legal)).1 in
    inr (inl (none, first, free_before s row.row legal.0.1, least_before s (state_seen new) row d state least, state))
starts_least old new (Some row) alone (es, inr (inr (none, full, (misses, rest, are, (n, shown, next, (passed, many, all, rest_is)), is))), did) =
    let f = shape_follows old new es alone did in
    let d = old.number in
    let s = state_seen old in
    let last : List Step = SawRow row.row 0 n ∷ Start row.row row.generation ∷ [] in
    let same = misses_change_nothing s d misses in
    let passes = search_changes_nothing s d 0 passed in
    let state : state_seen new ≡ with_started s row d =
    f.state
    ∙ (ap (after_steps s d) is
    ∙ (both_after s d (misses_steps misses) rest same ∙ (ap (after_steps s d) rest_is ∙ both_after s d (search_steps 0 passed) last passes))) in
    let legal_rest = (both_legal old.layout s d (misses_steps misses) rest same (subst (λ (l : List Step). IsLegalFrom old.layout s (entries_of d l)) is f.legal)).1 in
    let legal = both_legal old.layout s d (search_steps 0 passed) last passes (subst (λ (l : List Step). IsLegalFrom old.layout s (entries_of d l)) rest_is legal_rest) in
    let b = follows s row (n / 16) next legal.1.1.0.1 in
    let some : IsSome (present s row.row) = subst IsSome (sym b.at) refl in
    let full_there = full_before s (state_seen new) row d new.layout.rows state some full in
    inr (inr (
      none,
      subst (λ (g : Layout). IsLeastFree s g.rows) f.layout full_there,
      (
        on_row s row.row b.booking (λ (x : Booking). (is_ended x.phase ≡ true) × (x.generation < last_generation)) b.at (b.ended, b.low),
        on_row s row.row b.booking (λ (x : Booking). row.generation ≡ x.generation + 1) b.at b.next,
        none_below old.layout s d passed row.row many all legal.0,
      ),
      state,
    ))
starts_least old new None alone (es, (none, full, (misses, rest, are, (passed, many, all, rest_is), is)), did) =
    let f = shape_follows old new es alone did in
    let d = old.number in
    let s = state_seen old in
    let same = misses_change_nothing s d misses in
    let state : state_seen new ≡ s =
    f.state ∙ (ap (after_steps s d) is ∙ (both_after s d (misses_steps misses) rest same ∙ (ap (after_steps s d) rest_is ∙ search_changes_nothing s d 0 passed))) in
    let legal_rest = (both_legal old.layout s d (misses_steps misses) rest same (subst (λ (l : List Step). IsLegalFrom old.layout s (entries_of d l)) is f.legal)).1 in
    let legal = subst (λ (l : List Step). IsLegalFrom old.layout s (entries_of d l)) rest_is legal_rest in
    let there = subst (λ (g : Layout). IsLeastFree (state_seen new) g.rows) f.layout full in (
      none,
      subst (λ (t : State). IsLeastFree t old.layout.rows) state there,
      none_below old.layout s d passed old.layout.rows (many ∙ ap (λ (g : Layout). g.rows) f.layout) all legal,
      state,
    )

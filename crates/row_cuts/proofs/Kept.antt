-- A row of which something is kept has something ever after.
use Rattle.std.proofs.Common.{◌≡◌, ◌≢◌, ◌⊎◌, inl, inr, ℕ, zero, suc, ◌≤◌, ◌==◌, Bool, cond, ne_eqb, if◌then◌else◌, List, ◌++◌, Option, Some, None, refl, sym, ap, ◌∙◌, subst, arith}
use Rattle.std.specs.Prelude.{option_and_then}
use Rattle.std.specs.Option.{option_map_or}
use Rattle.std.specs.List.{AllByRecursion}
use Rattle.history_model.specs.declared.entry.Entry.{Entry}
use Rattle.history_model.specs.declared.phase.Phase.{Phase}
use Rattle.history_model.specs.declared.phase.Phase.TheVariants.{Free, Making, Prebooked, Confirmed, Fulfilled, Ending, Ended}
use Rattle.history_model.specs.Booking.{Booking, Layout, State, next_generation, phase_at, present}
use Rattle.history_model.specs.History.{IsLegal, state_of}
use Rattle.history_model.specs.Laws.{IsSound, stage}
use Rattle.history_model.proofs.Forward.{next-history, stages-history}
use Rattle.history_model.proofs.Generations.{free_next, present_key, present_latest}
use Rattle.history_model.proofs.Ranges.{all_found}
use Rattle.history_model.proofs.Seen.{legal-rest, state_of-append}
use Rattle.claim_rule.specs.Openings.{KeptBooking, kept_as, kept_in, kept_of_row, stub}
use Rattle.claim_rule.proofs.Moves.{is_sound}
use Rattle.row_cuts.specs.Cuts.{IsKept}

may_keep : (phase : Phase) (b : Booking) (k : KeptBooking) → kept_in phase b ≡ Some k → (2 ≤ stage phase) ⊎ ((1 ≤ stage phase) × (1 ≤ b.generation))
may_keep Free b k e = absurd (let no : ◌≡◌ {A = Option KeptBooking} None (Some k) = e in cc)
may_keep Making b k e = go b.generation e
  where
    go : (n : ℕ) → (if n == 0 then None else Some (stub b.row n)) ≡ Some k → (2 ≤ stage Making) ⊎ ((1 ≤ stage Making) × (1 ≤ n))
    go zero e = absurd (let no : ◌≡◌ {A = Option KeptBooking} None (Some k) = e in cc)
    go (suc n) e = inr (omega arith, omega arith)
may_keep Prebooked b k e = inl (omega arith)
may_keep Confirmed b k e = inl (omega arith)
may_keep Fulfilled b k e = inl (omega arith)
may_keep (Ending kind) b k e = inl (omega arith)
may_keep (Ended kind) b k e = inl (omega arith)

keeps : (phase : Phase) (b : Booking) → (2 ≤ stage phase) ⊎ ((1 ≤ stage phase) × (1 ≤ b.generation)) → (k : KeptBooking) × (kept_in phase b ≡ Some k)
keeps Free b (inl h) = absurd (omega arith)
keeps Free b (inr h) = absurd (let l = h.0 in omega arith)
keeps Making b (inl h) = absurd (omega arith)
keeps Making b (inr h) =
    let some : b.generation ≢ 0 = λ e. (let l = h.1 in omega arith) in
    (stub b.row b.generation, ap (λ (t : Bool). cond t None (Some (stub b.row b.generation))) (ne_eqb b.generation 0 some))
keeps Prebooked b h = (kept_as b, refl)
keeps Confirmed b h = (kept_as b, refl)
keeps Fulfilled b h = (kept_as b, refl)
keeps (Ending kind) b h = (kept_as b, refl)
keeps (Ended kind) b h = (kept_as b, refl)

started : (phase : Phase) → phase ≢ Free → 1 ≤ stage phase
started Free other = absurd (other refl)
started Making other = omega arith
started Prebooked other = omega arith
started Confirmed other = omega arith
started Fulfilled other = omega arith
started (Ending kind) other = omega arith
started (Ended kind) other = omega arith

kept_now : (s : State) (row : ℕ) (b : Booking) → present s row ≡ Some b → kept_of_row s row ≡ kept_in b.phase b
kept_now s row b at = ap (λ (o : Option Booking). option_and_then (λ b. kept_in b.phase b) o) at

phase_now : (s : State) (row : ℕ) (b : Booking) → present s row ≡ Some b → phase_at s row b.generation ≡ b.phase
phase_now s row b at = ap (λ (o : Option Booking). option_map_or (λ (b : Booking). b.phase) o Free) (present_key s row b at)

module _ (g : Layout) (s t : State) (row : ℕ) (sounds : AllByRecursion (IsSound g) t) (nexts : next_generation s row ≤ next_generation t row) (stages : (generation : ℕ) → stage (phase_at s row generation) ≤ stage (phase_at t row generation)) where
  -- a booking of generation 0 that is sealed stays so, and one of another has started
  later : (b c : Booking) → present s row ≡ Some b → present t row ≡ Some c → 2 ≤ stage b.phase → (n : ℕ) → c.generation ≡ n → (2 ≤ stage c.phase) ⊎ ((1 ≤ stage c.phase) × (1 ≤ c.generation))
  later b c at here sealed zero is =
      let bn = (present_latest s row b at).1 in
      let cn = (present_latest t row c here).1 in
      let same : b.generation ≡ c.generation = omega arith in
      let was : stage (phase_at s row c.generation) ≡ stage b.phase = ap (λ (n : ℕ). stage (phase_at s row n)) (sym same) ∙ ap stage (phase_now s row b at) in
      let now : stage (phase_at t row c.generation) ≡ stage c.phase = ap stage (phase_now t row c here) in
      let grown = stages c.generation in
      inl (omega arith)
  later b c at here sealed (suc n) is =
      let sound = all_found (IsSound g) t row c sounds here in
      inr (started c.phase sound.started, omega arith)

  still : (b c : Booking) → present s row ≡ Some b → present t row ≡ Some c → (2 ≤ stage b.phase) ⊎ ((1 ≤ stage b.phase) × (1 ≤ b.generation)) → (2 ≤ stage c.phase) ⊎ ((1 ≤ stage c.phase) × (1 ≤ c.generation))
  still b c at here (inl sealed) = later b c at here sealed c.generation refl
  still b c at here (inr (making, again)) =
      let sound = all_found (IsSound g) t row c sounds here in
      let bn = (present_latest s row b at).1 in
      let cn = (present_latest t row c here).1 in
      inr (started c.phase sound.started, omega arith)

  there : (b : Booking) → present s row ≡ Some b → (2 ≤ stage b.phase) ⊎ ((1 ≤ stage b.phase) × (1 ≤ b.generation)) → (o : Option Booking) → present t row ≡ o → IsKept t row
  there b at may None none =
      absurd (let zero_next = free_next t row none in let bn = (present_latest s row b at).1 in omega arith)
  there b at may (Some c) here =
      let k = keeps c.phase c (still b c at here may) in
      (k.0, kept_now t row c here ∙ k.1)

  goes_on : IsKept s row → (o : Option Booking) → present s row ≡ o → IsKept t row
  goes_on kept None none = absurd (let no : ◌≡◌ {A = Option KeptBooking} None (Some kept.0) = ap (λ (o : Option Booking). option_and_then (λ b. kept_in b.phase b) o) (sym none) ∙ kept.1 in cc)
  goes_on kept (Some b) at = there b at (may_keep b.phase b kept.0 (sym (kept_now s row b at) ∙ kept.1)) (present t row) refl

pub stays : (g : Layout) (history more : List Entry) (row : ℕ) → IsLegal g (history ++ more) → IsKept (state_of g history) row → IsKept (state_of g (history ++ more)) row
stays g history more row legal kept =
    let s = state_of g history in
    let on = legal-rest g history more legal in
    let parts = sym (state_of-append g history more) in
    goes_on g s (state_of g (history ++ more)) row (is_sound g (history ++ more) legal).each
    (subst (λ (x : State). next_generation s row ≤ next_generation x row) parts (next-history g s more row on))
    (λ generation. subst (λ (x : State). stage (phase_at s row generation) ≤ stage (phase_at x row generation)) parts (stages-history g s more row generation on))
    kept (present s row) refl

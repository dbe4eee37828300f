-- The outcomes of settled requests, tallied by leg.
use Rattle.std.proofs.Common.{◌≡◌, ◌∙◌, ◌+◌, ◌*◌, ◌⊎◌, inl, inr, ℕ, suc, List, [], ◌∷◌, Bool, ◌==◌, ◌&&◌, length, refl, sym, ap, subst, ⊎_elim, arith}
use Rattle.std.proofs.lemmas.Bool.{cases_eq, ne_eqb}
use Rattle.std.proofs.Math.Numerals.{add-one}
use Rattle.std.proofs.Math.Nat.{suc-mul}
use Rattle.history_model.specs.Booking.{State}
use Rattle.host_drill.specs.Generator.{drill_leg}
use Rattle.host_drill.specs.Totals.{asked_for, one_if}
use Rattle.host_drill.specs.Parts.Outcome.{Sold, TurnedAway}
use Rattle.host_drill.specs.Parts.{Outcome, all_outcomes_in, is_busy, is_turned_away, outcomes_in}
use Rattle.host_drill.proofs.Sums.{sum_below, sum_both, sum_is, sum_zero}
use Rattle.host_drill.proofs.Occupancy.{places_on}
use Rattle.host_drill.proofs.Takes.{is_sold, on_leg_in}
use Rattle.host_drill.proofs.Outcomes.{AreSettled, few_legs}

-- over all workers from this one on
abbrev pub all_on_leg : (Outcome → Bool) → ℕ → ℕ → ℕ → ℕ → List (List Outcome) → ℕ
all_on_leg test seed l size worker [] = 0
all_on_leg test seed l size worker (os ∷ more) = on_leg_in test seed l (worker * size) os + all_on_leg test seed l size (worker + 1) more

abbrev pub AllSettled : ℕ → State → ℕ → ℕ → ℕ → List (List Outcome) → Type 0
AllSettled places final seed size worker [] = Unit {0}
AllSettled places final seed size worker (os ∷ more) =
    AreSettled places final seed (worker * size) os × (length os ≡ size) × AllSettled places final seed size (worker + 1) more

-- each outcome is of a request for one of the legs

list_by_legs : (test : Outcome → Bool) (seed k : ℕ) (os : List Outcome) → sum_below (λ l. on_leg_in test seed l k os) 8 ≡ outcomes_in test os
list_by_legs test seed k [] = sum_zero (λ l. 0) 8 (λ l less. refl)
list_by_legs test seed k (o ∷ os) =
    let both = sum_both (λ l. one_if (test o && (drill_leg seed k == l))) (λ l. on_leg_in test seed l (k + 1) os) 8 in
    let one = sum_is (test o) (drill_leg seed k) 8 (few_legs seed k) in
    let rest = list_by_legs test seed (k + 1) os in
    let e : sum_below (λ l. one_if (test o && (drill_leg seed k == l)) + on_leg_in test seed l (k + 1) os) 8 ≡ one_if (test o) + outcomes_in test os = omega (arith, both, one, rest) in e

pub all_by_legs : (test : Outcome → Bool) (seed size worker : ℕ) (outcomes : List (List Outcome))
    → sum_below (λ l. all_on_leg test seed l size worker outcomes) 8 ≡ all_outcomes_in test outcomes
all_by_legs test seed size worker [] = sum_zero (λ l. 0) 8 (λ l less. refl)
all_by_legs test seed size worker (os ∷ more) =
    let both = sum_both (λ l. on_leg_in test seed l (worker * size) os) (λ l. all_on_leg test seed l size (worker + 1) more) 8 in
    let one = list_by_legs test seed (worker * size) os in
    let rest = all_by_legs test seed size (worker + 1) more in
    let e : sum_below (λ l. on_leg_in test seed l (worker * size) os + all_on_leg test seed l size (worker + 1) more) 8 ≡ outcomes_in test os + all_outcomes_in test more = omega (arith, both, one, rest) in e

module _ (places : ℕ) (final : State) (seed : ℕ) where
  abbrev IsSettled : ℕ → Outcome → Type 0
  IsSettled k o = (o ≡ Sold) ⊎ ((o ≡ TurnedAway) × (places_on places final (drill_leg seed k) ≡ places))

  one_of : (k : ℕ) (o : Outcome) (c : Bool) → IsSettled k o → one_if (is_sold o && c) + one_if (is_turned_away o && c) ≡ one_if c
  one_of k o c (inl sold) = subst (λ (o : Outcome). one_if (is_sold o && c) + one_if (is_turned_away o && c) ≡ one_if c) (sym sold) (let e : one_if c + 0 ≡ one_if c = omega arith in e)
  one_of k o c (inr turned) = subst (λ (o : Outcome). one_if (is_sold o && c) + one_if (is_turned_away o && c) ≡ one_if c) (sym turned.0) (let e : 0 + one_if c ≡ one_if c = omega arith in e)

  -- the requests for a leg are those sold and those turned away

  list_asked : (l k : ℕ) (os : List Outcome) → AreSettled places final seed k os
      → asked_for seed k l + (on_leg_in is_sold seed l k os + on_leg_in is_turned_away seed l k os) ≡ asked_for seed (k + length os) l
  list_asked l k [] settled = (let e : asked_for seed k l + (0 + 0) ≡ asked_for seed k l = omega arith in e) ∙ ap (λ (n : ℕ). asked_for seed n l) (let e : k ≡ k + 0 = omega arith in e)
  list_asked l k (o ∷ os) settled =
      let one = one_of k o (drill_leg seed k == l) settled.0 in
      let rest = list_asked l (k + 1) os settled.1 in
      let next : asked_for seed (k + 1) l ≡ asked_for seed k l + one_if (drill_leg seed k == l) = ap (λ (n : ℕ). asked_for seed n l) (add-one k) in
      let e : asked_for seed k l
      + ((one_if (is_sold o && (drill_leg seed k == l)) + on_leg_in is_sold seed l (k + 1) os) + (one_if (is_turned_away o && (drill_leg seed k == l)) + on_leg_in is_turned_away seed l (k + 1) os))
      ≡ asked_for seed (k + 1 + length os) l = omega (arith, one, rest, next) in
      e ∙ ap (λ (n : ℕ). asked_for seed n l) (let f : k + 1 + length os ≡ k + suc (length os) = omega arith in f)

  -- those turned away are none, or each place is taken on the leg

  list_full : (l k : ℕ) (os : List Outcome) → AreSettled places final seed k os → (on_leg_in is_turned_away seed l k os ≡ 0) ⊎ (places_on places final l ≡ places)
  list_full l k [] settled = inl refl
  list_full l k (o ∷ os) settled = ⊎_elim
      (λ (none : on_leg_in is_turned_away seed l (k + 1) os ≡ 0). here none settled.0)
      inr
      (list_full l (k + 1) os settled.1)
    where
      none_more : on_leg_in is_turned_away seed l (k + 1) os ≡ 0 → one_if (is_turned_away o && (drill_leg seed k == l)) ≡ 0
          → one_if (is_turned_away o && (drill_leg seed k == l)) + on_leg_in is_turned_away seed l (k + 1) os ≡ 0
      none_more none here = let e : one_if (is_turned_away o && (drill_leg seed k == l)) + on_leg_in is_turned_away seed l (k + 1) os ≡ 0 = omega (arith, none, here) in e

      here : on_leg_in is_turned_away seed l (k + 1) os ≡ 0 → IsSettled k o
          → (one_if (is_turned_away o && (drill_leg seed k == l)) + on_leg_in is_turned_away seed l (k + 1) os ≡ 0) ⊎ (places_on places final l ≡ places)
      here none (inl sold) = inl (none_more none (ap (λ (o : Outcome). one_if (is_turned_away o && (drill_leg seed k == l))) sold))
      here none (inr turned) = ⊎_elim
          (λ (mine : drill_leg seed k ≡ l). inr (subst (λ (m : ℕ). places_on places final m ≡ places) mine turned.1))
          (λ (other : drill_leg seed k ≡ l → ⊥). inl (none_more none
          (ap (λ (o : Outcome). one_if (is_turned_away o && (drill_leg seed k == l))) turned.0 ∙ ap one_if (ne_eqb (drill_leg seed k) l other))))
          (cases_eq (drill_leg seed k) l)

  -- none is busy, and each is sold or turned away

  list_none_busy : (k : ℕ) (os : List Outcome) → AreSettled places final seed k os → outcomes_in is_busy os ≡ 0
  list_none_busy k [] settled = refl
  list_none_busy k (o ∷ os) settled =
      let here : one_if (is_busy o) ≡ 0 = ⊎_elim (λ (sold : o ≡ Sold). ap (λ (o : Outcome). one_if (is_busy o)) sold)
      (λ (turned : (o ≡ TurnedAway) × (places_on places final (drill_leg seed k) ≡ places)). ap (λ (o : Outcome). one_if (is_busy o)) turned.0) settled.0 in
      let rest = list_none_busy (k + 1) os settled.1 in
      let e : one_if (is_busy o) + outcomes_in is_busy os ≡ 0 = omega (arith, here, rest) in e

  list_each : (k : ℕ) (os : List Outcome) → AreSettled places final seed k os → outcomes_in is_sold os + outcomes_in is_turned_away os ≡ length os
  list_each k [] settled = refl
  list_each k (o ∷ os) settled =
      let here : one_if (is_sold o) + one_if (is_turned_away o) ≡ 1 = ⊎_elim (λ (sold : o ≡ Sold). ap (λ (o : Outcome). one_if (is_sold o) + one_if (is_turned_away o)) sold)
      (λ (turned : (o ≡ TurnedAway) × (places_on places final (drill_leg seed k) ≡ places)). ap (λ (o : Outcome). one_if (is_sold o) + one_if (is_turned_away o)) turned.0) settled.0 in
      let rest = list_each (k + 1) os settled.1 in
      let e : (one_if (is_sold o) + outcomes_in is_sold os) + (one_if (is_turned_away o) + outcomes_in is_turned_away os) ≡ suc (length os) = omega (arith, here, rest) in e

  module _ (size : ℕ) where
    next_start : (worker : ℕ) (os : List Outcome) → length os ≡ size → worker * size + length os ≡ (worker + 1) * size
    next_start worker os number =
        let more : (worker + 1) * size ≡ worker * size + size = ap (λ (n : ℕ). n * size) (add-one worker) ∙ suc-mul worker size in
        let e : worker * size + length os ≡ (worker + 1) * size = omega (arith, number, more) in e

    pub all_asked : (l worker : ℕ) (outcomes : List (List Outcome)) → AllSettled places final seed size worker outcomes
        → asked_for seed (worker * size) l + (all_on_leg is_sold seed l size worker outcomes + all_on_leg is_turned_away seed l size worker outcomes)
        ≡ asked_for seed ((worker + length outcomes) * size) l
    all_asked l worker [] settled =
        (let e : asked_for seed (worker * size) l + (0 + 0) ≡ asked_for seed (worker * size) l = omega arith in e)
        ∙ ap (λ (n : ℕ). asked_for seed (n * size) l) (let e : worker ≡ worker + 0 = omega arith in e)
    all_asked l worker (os ∷ more) settled =
        let one = list_asked l (worker * size) os settled.0 in
        let rest = all_asked l (worker + 1) more settled.2 in
        let next : asked_for seed (worker * size + length os) l ≡ asked_for seed ((worker + 1) * size) l = ap (λ (n : ℕ). asked_for seed n l) (next_start worker os settled.1) in
        let e : asked_for seed (worker * size) l
        + ((on_leg_in is_sold seed l (worker * size) os + all_on_leg is_sold seed l size (worker + 1) more) + (on_leg_in is_turned_away seed l (worker * size) os + all_on_leg is_turned_away seed l size (worker + 1) more))
        ≡ asked_for seed ((worker + 1 + length more) * size) l = omega (arith, one, rest, next) in
        e ∙ ap (λ (n : ℕ). asked_for seed (n * size) l) (let f : worker + 1 + length more ≡ worker + suc (length more) = omega arith in f)

    pub all_full : (l worker : ℕ) (outcomes : List (List Outcome)) → AllSettled places final seed size worker outcomes
        → (all_on_leg is_turned_away seed l size worker outcomes ≡ 0) ⊎ (places_on places final l ≡ places)
    all_full l worker [] settled = inl refl
    all_full l worker (os ∷ more) settled = both (list_full l (worker * size) os settled.0) (all_full l (worker + 1) more settled.2)
      where
        both : (on_leg_in is_turned_away seed l (worker * size) os ≡ 0) ⊎ (places_on places final l ≡ places)
            → (all_on_leg is_turned_away seed l size (worker + 1) more ≡ 0) ⊎ (places_on places final l ≡ places)
            → (on_leg_in is_turned_away seed l (worker * size) os + all_on_leg is_turned_away seed l size (worker + 1) more ≡ 0) ⊎ (places_on places final l ≡ places)
        both (inl none) (inl rest) = inl (let e : on_leg_in is_turned_away seed l (worker * size) os + all_on_leg is_turned_away seed l size (worker + 1) more ≡ 0 = omega (arith, none, rest) in e)
        both (inr full) rest = inr full
        both (inl none) (inr full) = inr full

    pub all_none_busy : (worker : ℕ) (outcomes : List (List Outcome)) → AllSettled places final seed size worker outcomes → all_outcomes_in is_busy outcomes ≡ 0
    all_none_busy worker [] settled = refl
    all_none_busy worker (os ∷ more) settled =
        let one = list_none_busy (worker * size) os settled.0 in
        let rest = all_none_busy (worker + 1) more settled.2 in
        let e : outcomes_in is_busy os + all_outcomes_in is_busy more ≡ 0 = omega (arith, one, rest) in e

    pub all_each : (worker : ℕ) (outcomes : List (List Outcome)) → AllSettled places final seed size worker outcomes
        → all_outcomes_in is_sold outcomes + all_outcomes_in is_turned_away outcomes ≡ length outcomes * size
    all_each worker [] settled = let e : 0 + 0 ≡ 0 * size = omega arith in e
    all_each worker (os ∷ more) settled =
        let one = list_each (worker * size) os settled.0 in
        let rest = all_each (worker + 1) more settled.2 in
        let number = settled.1 in
        let more_is = suc-mul (length more) size in
        let e : (outcomes_in is_sold os + all_outcomes_in is_sold more) + (outcomes_in is_turned_away os + all_outcomes_in is_turned_away more) ≡ suc (length more) * size = omega (arith, one, rest, number, more_is) in e

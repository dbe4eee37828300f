-- The places over a drill's history.
use Rattle.std.proofs.Common.{◌≡◌, ◌∙◌, ◌+◌, ◌<◌, ◌≤◌, ◌⊎◌, inl, inr, ℕ, List, [], ◌∷◌, Bool, true, false, ◌==◌, ◌&&◌, ◌||◌, replicate, refl, sym, ap, subst, ⊎_elim, arith}
use Rattle.std.specs.List.{AllByRecursion}
use Rattle.std.proofs.lemmas.Bool.{and_from, and_left, and_right, cases_eq, eq-eqb, ne_eqb, or_right}
use Rattle.history_model.specs.declared.entry.Entry.{Entry}
use Rattle.history_model.specs.declared.entry.Step.{Step}
use Rattle.history_model.specs.Booking.{Layout, State, is_occupied}
use Rattle.history_model.specs.Words.{place_word}
use Rattle.history_model.specs.Apply.{apply}
use Rattle.history_model.specs.History.{IsLegalFrom, state_after}
use Rattle.history_model.proofs.Bits.{place_word-same}
use Rattle.host_drill.specs.Totals.{count_below, one_if}
use Rattle.host_drill.proofs.Sums.{count_same, count_more}
use Rattle.host_drill.proofs.Effects.{Effect, IsGain, IsOfDrill, takes_leg, effect}

-- how many entries pass
abbrev pub steps_in : (Step → Bool) → List Entry → ℕ
steps_in test [] = 0
steps_in test (e ∷ es) = one_if (test e.step) + steps_in test es

abbrev pub AllOfDrill : List Entry → Type 0
AllOfDrill es = AllByRecursion (λ e. IsOfDrill e.step) es

-- the places that are occupied on a leg
abbrev pub places_on : ℕ → State → ℕ → ℕ
places_on places s leg = count_below (λ p. is_occupied s p leg) places

-- the legs on which a place is occupied
abbrev pub legs_at : State → ℕ → ℕ
legs_at s p = count_below (λ leg. is_occupied s p leg) 8

or_false : (a b : Bool) → b ≡ false → (a || b) ≡ a
or_false true b e = refl
or_false false b e = e

module _ (s t : State) (at leg : ℕ) (gain : IsGain s t at leg) where
  elsewhere : (p l : ℕ) → (at ≡ p → ⊥) → is_occupied t p l ≡ is_occupied s p l
  elsewhere p l other = gain.gains p l ∙ or_false (is_occupied s p l) ((at == p) && (leg == l)) (and_left (at == p) (leg == l) (ne_eqb at p other))

  others : (p l : ℕ) → (leg ≡ l → ⊥) → is_occupied t p l ≡ is_occupied s p l
  others p l other = gain.gains p l ∙ or_false (is_occupied s p l) ((at == p) && (leg == l)) (and_right (at == p) (leg == l) (ne_eqb leg l other))

  here : is_occupied t at leg ≡ true
  here = gain.gains at leg ∙ or_right (is_occupied s at leg) ((at == at) && (leg == leg)) (and_from (at == at) (leg == leg) (eq-eqb at at refl) (eq-eqb leg leg refl))

  gain_keeps : (p l : ℕ) → is_occupied s p l ≡ true → is_occupied t p l ≡ true
  gain_keeps p l was = gain.gains p l ∙ ap (λ (b : Bool). b || ((at == p) && (leg == l))) was

  gain_on : (places : ℕ) → at < places → places_on places t leg ≡ places_on places s leg + 1
  gain_on places within = count_more (λ p. is_occupied s p leg) (λ p. is_occupied t p leg) at places within gain.free here
      (λ p other. elsewhere p leg (λ (e : at ≡ p). other (sym e)))

  gain_at : leg < 8 → legs_at t at ≡ legs_at s at + 1
  gain_at few = count_more (λ l. is_occupied s at l) (λ l. is_occupied t at l) leg 8 few gain.free here
      (λ l other. others at l (λ (e : leg ≡ l). other (sym e)))

-- a step of a drill takes as many places on a leg as it says
on_step : (places : ℕ) (s t : State) (st : Step) (l : ℕ) → Effect places s t st → places_on places t l ≡ places_on places s l + one_if (takes_leg l st)
on_step places s t st l (inl (same, none)) =
    let e = count_same (λ p. is_occupied s p l) (λ p. is_occupied t p l) places (λ p _. same p l) in
    let n : one_if (takes_leg l st) ≡ 0 = ap one_if (none l) in
    let f : places_on places t l ≡ places_on places s l + one_if (takes_leg l st) = omega (arith, e, n) in f
on_step places s t st l (inr (at, leg, within, few, gain, takes)) = ⊎_elim mine other (cases_eq leg l)
  where
    mine : leg ≡ l → places_on places t l ≡ places_on places s l + one_if (takes_leg l st)
    mine e =
        let one : one_if (takes_leg l st) ≡ 1 = ap one_if (takes l ∙ eq-eqb leg l e) in
        let more = subst (λ (k : ℕ). places_on places t k ≡ places_on places s k + 1) e (gain_on s t at leg gain places within) in
        let f : places_on places t l ≡ places_on places s l + one_if (takes_leg l st) = omega (arith, more, one) in f

    other : (leg ≡ l → ⊥) → places_on places t l ≡ places_on places s l + one_if (takes_leg l st)
    other differ =
        let none : one_if (takes_leg l st) ≡ 0 = ap one_if (takes l ∙ ne_eqb leg l differ) in
        let same = count_same (λ p. is_occupied s p l) (λ p. is_occupied t p l) places (λ p _. others s t at leg gain p l differ) in
        let f : places_on places t l ≡ places_on places s l + one_if (takes_leg l st) = omega (arith, same, none) in f

step_keeps : (places : ℕ) (s t : State) (st : Step) (p l : ℕ) → Effect places s t st → is_occupied s p l ≡ true → is_occupied t p l ≡ true
step_keeps places s t st p l (inl (same, none)) was = same p l ∙ was
step_keeps places s t st p l (inr (at, leg, within, few, gain, takes)) was = gain_keeps s t at leg gain p l was

-- a place of which a word changes has a leg more
pub at_step : (places : ℕ) (s t : State) (st : Step) (p h : ℕ) → Effect places s t st
    → ((place_word t p h ≡ place_word s p h) × (legs_at s p ≤ legs_at t p)) ⊎ (legs_at t p ≡ legs_at s p + 1)
at_step places s t st p h (inl (same, none)) =
    let e = count_same (λ l. is_occupied s p l) (λ l. is_occupied t p l) 8 (λ l _. same p l) in
    inl (place_word-same s t p h (λ l. same p l), (let f : legs_at s p ≤ legs_at t p = omega (arith, e) in f))
at_step places s t st p h (inr (at, leg, within, few, gain, takes)) = ⊎_elim here_more elsewhere_same (cases_eq at p)
  where
    here_more : at ≡ p → ((place_word t p h ≡ place_word s p h) × (legs_at s p ≤ legs_at t p)) ⊎ (legs_at t p ≡ legs_at s p + 1)
    here_more e = inr (subst (λ (q : ℕ). legs_at t q ≡ legs_at s q + 1) e (gain_at s t at leg gain few))

    elsewhere_same : (at ≡ p → ⊥) → ((place_word t p h ≡ place_word s p h) × (legs_at s p ≤ legs_at t p)) ⊎ (legs_at t p ≡ legs_at s p + 1)
    elsewhere_same other =
        let e = count_same (λ l. is_occupied s p l) (λ l. is_occupied t p l) 8 (λ l _. elsewhere s t at leg gain p l other) in
        inl (place_word-same s t p h (λ l. elsewhere s t at leg gain p l other), (let f : legs_at s p ≤ legs_at t p = omega (arith, e) in f))

-- over a drill's history as many places come to be occupied on a leg as are taken on it
pub taken_on : (g : Layout) (places : ℕ) (s : State) (es : List Entry) (l : ℕ) → g.legs ≡ replicate places 8 → IsLegalFrom g s es → AllOfDrill es
    → places_on places (state_after s es) l ≡ places_on places s l + steps_in (takes_leg l) es
taken_on g places s [] l legs legal drill = let e : places_on places s l ≡ places_on places s l + 0 = omega arith in e
taken_on g places s (e ∷ es) l legs legal drill =
    let one = on_step places s (apply s e) e.step l (effect g places s e.desk e.step legs legal.0 drill.0) in
    let rest = taken_on g places (apply s e) es l legs legal.1 drill.1 in
    let f : places_on places (state_after (apply s e) es) l ≡ places_on places s l + (one_if (takes_leg l e.step) + steps_in (takes_leg l) es) = omega (arith, one, rest) in f

-- what is occupied stays so
pub stays_occupied : (g : Layout) (places : ℕ) (s : State) (es : List Entry) (p l : ℕ) → g.legs ≡ replicate places 8 → IsLegalFrom g s es → AllOfDrill es
    → is_occupied s p l ≡ true → is_occupied (state_after s es) p l ≡ true
stays_occupied g places s [] p l legs legal drill was = was
stays_occupied g places s (e ∷ es) p l legs legal drill was =
    stays_occupied g places (apply s e) es p l legs legal.1 drill.1
    (step_keeps places s (apply s e) e.step p l (effect g places s e.desk e.step legs legal.0 drill.0) was)

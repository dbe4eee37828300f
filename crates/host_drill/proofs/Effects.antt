-- What the steps of a drill do to the places.
use Rattle.std.proofs.Common.{◌≡◌, ◌∙◌, ◌+◌, ◌<◌, ◌≤◌, ◌⊎◌, inl, inr, ℕ, List, Bool, true, false, Some, ◌==◌, ◌&&◌, ◌||◌, nat_le, nat_lt, replicate, length, slice_index, refl, sym, ap, ⊎_elim, arith}
use Rattle.std.proofs.lemmas.Bool.{and_from, and_parts, cases_eq, eq-eqb, false_from_ne_true, ne_eqb, ltb-true, leb-true, le-leb, lt-ltb}
use Rattle.std.proofs.lemmas.List.{length-replicate, get_or-replicate}
use Rattle.history_model.specs.declared.entry.Step.{Step}
use Rattle.history_model.specs.declared.entry.Step.TheVariants.{Look, Take, Give, Start, SawRow, Note, Seal, Turn, LostTurn, Close, Met}
use Rattle.history_model.specs.declared.phase.Phase.TheVariants.{Prebooked}
use Rattle.history_model.specs.Booking.{Booking, Layout, State, is_occupied, most_items, present, change}
use Rattle.history_model.specs.Allowed.{IsAllowedStep, IsMadeBy}
use Rattle.history_model.specs.Apply.{apply_step, item_taken, noted, in_phase, words_of_row}
use Rattle.history_model.proofs.Keeping.{found}
use Rattle.history_model.proofs.Changes.{occupied_kept, occupied-start, occupied-take, legs_from_open}

-- the step takes a place on this leg
abbrev pub takes_leg : ℕ → Step → Bool
takes_leg leg (Take row place span) = span.from == leg
takes_leg leg _ = false

abbrev pub is_seal : Step → Bool
is_seal (Seal row phase) = true
is_seal _ = false

-- a take of one leg, a seal as prebooked, or a step that takes and gives no place, and seals and turns no booking
abbrev pub IsOfDrill : Step → Type 0
IsOfDrill (Take row place span) = span.to ≡ span.from + 1
IsOfDrill (Seal row phase) = phase ≡ Prebooked
IsOfDrill (Give row item) = ⊥
IsOfDrill (Turn row from to moment amount successor) = ⊥
IsOfDrill (Close row) = ⊥
IsOfDrill _ = Unit {0}

-- the second state has one leg of a place more, which was free
pub record IsGain (s t : State) (at leg : ℕ) : Type 0 where
  pub free : is_occupied s at leg ≡ false
  pub gains : (p l : ℕ) → is_occupied t p l ≡ (is_occupied s p l || ((at == p) && (leg == l)))

abbrev pub IsSame : State → State → Type 0
IsSame s t = (p l : ℕ) → is_occupied t p l ≡ is_occupied s p l

-- nothing is taken, or one leg of a place
abbrev pub Effect : ℕ → State → State → Step → Type 0
Effect places s t st =
    (IsSame s t × ((l : ℕ) → takes_leg l st ≡ false))
    ⊎ ((at : ℕ) × (leg : ℕ) × (at < places) × (leg < 8) × IsGain s t at leg × ((l : ℕ) → takes_leg l st ≡ (leg == l)))

-- a span of one leg has that leg alone
one_leg : (from to l : ℕ) → to ≡ from + 1 → (nat_le from l && nat_lt l to) ≡ (from == l)
one_leg from to l one = ⊎_elim here other (cases_eq from l)
  where
    here : from ≡ l → (nat_le from l && nat_lt l to) ≡ (from == l)
    here e = and_from (nat_le from l) (nat_lt l to) (le-leb from l (let f : from ≤ l = omega (arith, e) in f)) (lt-ltb l to (let f : l < to = omega (arith, one, e) in f))
        ∙ sym (eq-eqb from l e)

    other : (from ≡ l → ⊥) → (nat_le from l && nat_lt l to) ≡ (from == l)
    other differ = false_from_ne_true (nat_le from l && nat_lt l to) (λ e.
        let both = and_parts (nat_le from l) (nat_lt l to) e in
        let low = leb-true from l both.0 in
        let high = ltb-true l to both.1 in
        differ (let f : from ≡ l = omega (arith, low, high, one) in f))
        ∙ sym (ne_eqb from l differ)

-- what each allowed step of a drill does
pub effect : (g : Layout) (places : ℕ) (s : State) (d : ℕ) (st : Step) → g.legs ≡ replicate places 8 → IsAllowedStep g s d st → IsOfDrill st
    → Effect places s (apply_step s d st) st
effect g places s d (Take row place span) legs may drill =
    inr (place, span.from, at_place, few_legs, record { free = free; gains = gains }, (λ l. refl))
  where
    made : (b : Booking) × (present s row ≡ Some b) × (IsMadeBy d b × (length b.items < most_items))
    made = found (present s row) (λ b. IsMadeBy d b × (length b.items < most_items)) may.2

    at_place : place < places
    at_place = let within = may.1 in let same : length g.legs ≡ places = ap length legs ∙ length-replicate places 8 in let e : place < places = omega (arith, within, same) in e

    its_legs : slice_index g.legs place ≡ 8
    its_legs = ap (λ (ls : List ℕ). slice_index ls place) legs ∙ get_or-replicate places place 8 0 at_place

    few_legs : span.from < 8
    few_legs = let some = may.3 in let fits = may.5 in let e : span.from < 8 = omega (arith, some, fits, its_legs) in e

    free : is_occupied s place span.from ≡ false
    free = legs_from_open s place span may.6 span.from ((let e : span.from ≤ span.from = omega arith in e), may.3)

    gains : (p l : ℕ) → is_occupied (change s row (item_taken place span)) p l ≡ (is_occupied s p l || ((place == p) && (span.from == l)))
    gains p l = occupied-take s row made.0 place span made.1 p l ∙ ap (λ (c : Bool). is_occupied s p l || ((place == p) && c)) (one_leg span.from span.to l drill)
effect g places s d (Give row item) legs may drill = absurd drill
effect g places s d (Turn row from to moment amount successor) legs may drill = absurd drill
effect g places s d (Close row) legs may drill = absurd drill
effect g places s d (Start row generation) legs may drill = inl ((λ p l. occupied-start s row generation d (words_of_row s row) p l), (λ l. refl))
effect g places s d (Note row w value) legs may drill = inl ((λ p l. occupied_kept s row (noted w value) (λ _. refl) p l), (λ l. refl))
effect g places s d (Seal row phase) legs may drill = inl ((λ p l. occupied_kept s row (in_phase phase) (λ _. refl) p l), (λ l. refl))
effect g places s d (Look place half shown) legs may drill = inl ((λ p l. refl), (λ l. refl))
effect g places s d (SawRow row w value) legs may drill = inl ((λ p l. refl), (λ l. refl))
effect g places s d (LostTurn row wanted shown) legs may drill = inl ((λ p l. refl), (λ l. refl))
effect g places s d Met legs may drill = inl ((λ p l. refl), (λ l. refl))

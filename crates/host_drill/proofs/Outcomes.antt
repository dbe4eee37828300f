-- What comes of each request of a drill: a place is sold, or each place is taken on its leg.
use Rattle.std.proofs.Common.{◌≡◌, ◌∙◌, ◌+◌, ◌*◌, ◌<◌, ◌≤◌, ◌⊎◌, inl, inr, ℕ, List, [], ◌∷◌, ◌++◌, Bool, true, false, cond, eqb, map, length, replicate, refl, sym, ap, subst, ⊎_elim, append_assoc, arith}
use Rattle.std.specs.List.{AllByRecursion}
use Rattle.std.proofs.Math.Nat.{mod-lt}
use Rattle.leg_masks.specs.Interval.{IsClear, half_of, shows}
use Rattle.leg_masks.proofs.Masks.{bit}
use Rattle.history_model.specs.declared.entry.Entry.{Entry}
use Rattle.history_model.specs.declared.entry.Step.{Step}
use Rattle.history_model.specs.declared.entry.Step.TheVariants.{Look, Take, Give, Start, SawRow, Note, Seal, Turn, LostTurn, Close, Met}
use Rattle.history_model.specs.Booking.{Layout, State, is_occupied}
use Rattle.history_model.specs.Words.{place_word}
use Rattle.history_model.specs.Allowed.{IsAllowedStep}
use Rattle.history_model.specs.Apply.{apply}
use Rattle.history_model.specs.History.{IsLegal, IsLegalFrom, entry, own, state_after, state_of}
use Rattle.history_model.specs.Looks.{look_at}
use Rattle.history_model.proofs.ListLemmas.{All-left, All-right}
use Rattle.history_model.proofs.Bits.{shows-occupied}
use Rattle.hold_core.specs.Tries.{looks_at, most_looks, AreMoving, AllClear}
use Rattle.host_drill.specs.Generator.{drill_leg}
use Rattle.host_drill.specs.Parts.Outcome.{Sold, TurnedAway, Busy, WithoutRow}
use Rattle.host_drill.specs.Parts.{Outcome, Among, AreParts, IsPart, IsBusy, IsTurnedAway, is_start, on_leg}
use Rattle.host_drill.proofs.Sums.{count_all, count_gap}
use Rattle.host_drill.proofs.Effects.{Effect, effect}
use Rattle.host_drill.proofs.Occupancy.{AllOfDrill, at_step, legs_at, places_on, stays_occupied, steps_in}
use Rattle.host_drill.proofs.OwnCounts.{all_of_own, all_of_steps}
use Rattle.host_drill.proofs.Rows.{a_row_is_free}

bit_zero : (b : Bool) → bit b ≡ 0 → b ≡ false
bit_zero true e = absurd (let f : ⊥ = omega (arith, e) in f)
bit_zero false e = refl

-- the word of the place's half that has the leg
abbrev word_on : State → ℕ → ℕ → ℕ
word_on s p l = place_word s p (half_of (on_leg l))

-- a leg that is clear in its word is free, and one that is free is clear

clear_is_free : (s : State) (p l w : ℕ) → w ≡ word_on s p l → IsClear w (on_leg l) → is_occupied s p l ≡ false
clear_is_free s p l w is clear =
    bit_zero (is_occupied s p l) (sym (shows-occupied s p l) ∙ (ap (λ (x : ℕ). shows x l) (sym is)
    ∙ clear l (let e : l ≤ l = omega arith in e) (let e : l < l + 1 = omega arith in e)))

free_is_clear : (s : State) (p l w : ℕ) → w ≡ word_on s p l → is_occupied s p l ≡ false → IsClear w (on_leg l)
free_is_clear s p l w is free leg low high =
    ap (λ (k : ℕ). shows w k) (let e : leg ≡ l = omega (arith, low, high) in e)
    ∙ (ap (λ (x : ℕ). shows x l) is ∙ (shows-occupied s p l ∙ ap bit free))

-- looks that show a leg taken

-- a leg of the place that a look at its half shows taken is so in this state
abbrev IsTakenIn : State → Step → Type 0
IsTakenIn final (Look p half w) = (l : ℕ) → half ≡ half_of (on_leg l) → (¬ IsClear w (on_leg l)) → is_occupied final p l ≡ true
IsTakenIn final _ = Unit {0}

taken_now : (s : State) (p w l : ℕ) (b : Bool) → is_occupied s p l ≡ b → w ≡ word_on s p l → (¬ IsClear w (on_leg l)) → is_occupied s p l ≡ true
taken_now s p w l true is shown taken = is
taken_now s p w l false is shown taken = absurd (taken (free_is_clear s p l w shown is))

look_taken : (g : Layout) (s final : State) (d : ℕ) (st : Step) → IsAllowedStep g s d st → ((p l : ℕ) → is_occupied s p l ≡ true → is_occupied final p l ≡ true) → IsTakenIn final st
look_taken g s final d (Look p half w) may stays = λ l at taken. stays p l (taken_now s p w l (is_occupied s p l) refl (may.2 ∙ ap (λ (h : ℕ). place_word s p h) at) taken)
look_taken g s final d (Take row place span) may stays = tt
look_taken g s final d (Give row item) may stays = tt
look_taken g s final d (Start row generation) may stays = tt
look_taken g s final d (SawRow row w value) may stays = tt
look_taken g s final d (Note row w value) may stays = tt
look_taken g s final d (Seal row phase) may stays = tt
look_taken g s final d (Turn row from to moment amount successor) may stays = tt
look_taken g s final d (LostTurn row wanted shown) may stays = tt
look_taken g s final d (Close row) may stays = tt
look_taken g s final d Met may stays = tt

all_taken : (g : Layout) (places : ℕ) (s : State) (es : List Entry) → g.legs ≡ replicate places 8 → IsLegalFrom g s es → AllOfDrill es
    → AllByRecursion (λ e. IsTakenIn (state_after s es) e.step) es
all_taken g places s [] legs legal drill = tt
all_taken g places s (e ∷ es) legs legal drill = (
  look_taken g s (state_after (apply s e) es) e.desk e.step legal.0 (λ p l was. stays_occupied g places s (e ∷ es) p l legs legal drill was),
  all_taken g places (apply s e) es legs legal.1 drill.1,
)

among : (P : Step → Type 0) (st : Step) (sts : List Step) → AllByRecursion P sts → Among st sts → P st
among P st [] all found = absurd found
among P st (e ∷ es) all found = ⊎_elim (λ (is : e ≡ st). subst P is all.0) (λ (more : Among st es). among P st es all.1 more) found

-- as many looks at one place as may be, each unlike the one before and free on one leg, don't come about: with each the
-- place has a leg more

-- k of the looks are over, and these are left
record Waits (s : State) (p l : ℕ) (shown : List ℕ) (k : ℕ) : Type 0 where
  few : k ≤ 8
  number : k + length shown ≡ most_looks
  risen : k ≤ legs_at s p + 1
  next : (w : ℕ) (rest : List ℕ) → shown ≡ w ∷ rest → word_on s p l ≡ w → k ≤ legs_at s p
  moving : AreMoving shown
  clear : AllClear (on_leg l) shown

waits_none : (s : State) (p l k : ℕ) → Waits s p l [] k → ⊥
waits_none s p l k waits = let few = waits.few in let number = waits.number in let e : ⊥ = omega (arith, few, number) in e

waits_step : (places : ℕ) (s t : State) (st : Step) (p l : ℕ) (shown : List ℕ) (k : ℕ) → Effect places s t st → Waits s p l shown k → Waits t p l shown k
waits_step places s t st p l shown k effect waits = by (at_step places s t st p (half_of (on_leg l)) effect)
  where
    by : ((word_on t p l ≡ word_on s p l) × (legs_at s p ≤ legs_at t p)) ⊎ (legs_at t p ≡ legs_at s p + 1) → Waits t p l shown k
    by (inl (same, grows)) = record {
      few = waits.few;
      number = waits.number;
      risen = (let risen = waits.risen in let e : k ≤ legs_at t p + 1 = omega (arith, risen, grows) in e);
      next = λ w rest is shows. (let was = waits.next w rest is (sym same ∙ shows) in let e : k ≤ legs_at t p = omega (arith, was, grows) in e);
      moving = waits.moving;
      clear = waits.clear;
    }
    by (inr more) = record {
      few = waits.few;
      number = waits.number;
      risen = (let risen = waits.risen in let e : k ≤ legs_at t p + 1 = omega (arith, risen, more) in e);
      next = λ w rest is shows. (let risen = waits.risen in let e : k ≤ legs_at t p = omega (arith, risen, more) in e);
      moving = waits.moving;
      clear = waits.clear;
    }

still_moving : (w : ℕ) (rest : List ℕ) → AreMoving (w ∷ rest) → AreMoving rest
still_moving w [] moving = tt
still_moving w (v ∷ rest) moving = moving.1

waits_look : (s : State) (p l w : ℕ) (rest : List ℕ) (k : ℕ) → l < 8 → w ≡ word_on s p l → Waits s p l (w ∷ rest) k → Waits s p l rest (k + 1)
waits_look s p l w rest k few is waits = record {
  few = (let e : k + 1 ≤ 8 = omega (arith, now, below) in e);
  number = (let number = waits.number in let e : k + 1 + length rest ≡ most_looks = omega (arith, number) in e);
  risen = (let e : k + 1 ≤ legs_at s p + 1 = omega (arith, now) in e);
  next = λ v more these shows. absurd ((subst (λ (vs : List ℕ). AreMoving (w ∷ vs)) these waits.moving).0 (sym shows ∙ sym is));
  moving = still_moving w rest waits.moving;
  clear = waits.clear.1;
}
  where
    now : k ≤ legs_at s p
    now = waits.next w rest refl (sym is)

    below : legs_at s p < 8
    below = count_gap (λ leg. is_occupied s p leg) l 8 few (clear_is_free s p l w is waits.clear.0)

first_or : Entry → List Entry → Entry
first_or e [] = e
first_or e (x ∷ xs) = x

rest_of : List Entry → List Entry
rest_of [] = []
rest_of (x ∷ xs) = xs

none_left : (e : Entry) (es : List Entry) → [] ≡ e ∷ es → ⊥
none_left e es is = cc

module _ (g : Layout) (places : ℕ) (legs : g.legs ≡ replicate places 8) (d p l : ℕ) (few : l < 8) (back : List Step) where
  abbrev left_of : List Step → List ℕ → List Entry
  left_of before shown = map (entry d) (before ++ (looks_at p (on_leg l) shown ++ back))

  ends : (s : State) (before : List Step) (shown : List ℕ) (k : ℕ) → [] ≡ left_of before shown → Waits s p l shown k → ⊥
  ends s (x ∷ before) shown k none waits = none_left (entry d x) (left_of before shown) none
  ends s [] (w ∷ rest) k none waits = none_left (entry d (look_at p (on_leg l) w)) (left_of [] rest) none
  ends s [] [] k none waits = waits_none s p l k waits

  one_own : (s : State) (e : Entry) (mine : List Entry) (before : List Step) (shown : List ℕ) (k : ℕ) → IsAllowedStep g s e.desk e.step → Effect places s (apply s e) e.step
      → ((before : List Step) (shown : List ℕ) (k : ℕ) → mine ≡ left_of before shown → Waits (apply s e) p l shown k → ⊥) → e ∷ mine ≡ left_of before shown → Waits s p l shown k → ⊥
  unfolding first_or rest_of
  one_own s e mine (x ∷ before) shown k may effect rest is waits = rest before shown k (ap rest_of is) (waits_step places s (apply s e) e.step p l shown k effect waits)
  one_own s e mine [] [] k may effect rest is waits = waits_none s p l k waits
  one_own s e mine [] (w ∷ more) k may effect rest is waits =
      let first : e ≡ entry d (look_at p (on_leg l) w) = ap (first_or e) is in
      let shows = subst (λ (st : Step). IsAllowedStep g s e.desk st) (ap (λ (x : Entry). x.step) first) may in
      rest [] more (k + 1) (ap rest_of is) (waits_step places s (apply s e) e.step p l more (k + 1) effect (waits_look s p l w more k few shows.2 waits))

  one_entry : (s : State) (e : Entry) (mine : List Entry) (before : List Step) (shown : List ℕ) (k : ℕ) (c : Bool) → IsAllowedStep g s e.desk e.step → Effect places s (apply s e) e.step
      → ((before : List Step) (shown : List ℕ) (k : ℕ) → mine ≡ left_of before shown → Waits (apply s e) p l shown k → ⊥) → cond c (e ∷ mine) mine ≡ left_of before shown → Waits s p l shown k → ⊥
  one_entry s e mine before shown k true may effect rest is waits = one_own s e mine before shown k may effect rest is waits
  one_entry s e mine before shown k false may effect rest is waits = rest before shown k is (waits_step places s (apply s e) e.step p l shown k effect waits)

  never : (s : State) (es : List Entry) → IsLegalFrom g s es → AllOfDrill es → (before : List Step) (shown : List ℕ) (k : ℕ) → own es d ≡ left_of before shown → Waits s p l shown k → ⊥
  never s [] legal drill before shown k is waits = ends s before shown k is waits
  never s (e ∷ es) legal drill before shown k is waits =
      one_entry s e (own es d) before shown k (eqb e.desk d) legal.0 (effect g places s e.desk e.step legs legal.0 drill.0)
      (λ before shown k is waits. never (apply s e) es legal.1 drill.1 before shown k is waits) is waits

pub few_legs : (seed k : ℕ) → drill_leg seed k < 8
few_legs seed k = mod-lt (seed + k * k) (let e : 0 < 8 = omega arith in e)

-- each request was sold a place, or was turned away where each place is taken on its leg in the end
abbrev pub AreSettled : ℕ → State → ℕ → ℕ → List Outcome → Type 0
AreSettled places final seed k [] = Unit {0}
AreSettled places final seed k (o ∷ os) =
    ((o ≡ Sold) ⊎ ((o ≡ TurnedAway) × (places_on places final (drill_leg seed k) ≡ places))) × AreSettled places final seed (k + 1) os

module _ (g : Layout) (history : List Entry) (places : ℕ) (legs : g.legs ≡ replicate places 8) (opening : g.opening ≡ []) (legal : IsLegal g history)
    (drill : AllOfDrill history) (few_rows : steps_in is_start history < g.rows) (d : ℕ) where
  abbrev final : State
  final = state_of g history

  turned_away : (leg : ℕ) (before mine rest : List Step) → own history d ≡ map (entry d) (before ++ (mine ++ rest)) → IsTurnedAway places leg mine → places_on places final leg ≡ places
  turned_away leg before mine rest is part = count_all (λ p. is_occupied final p leg) places taken
    where
      all : AllByRecursion (IsTakenIn final) (before ++ (mine ++ rest))
      all = all_of_steps (IsTakenIn final) d (before ++ (mine ++ rest))
          (subst (AllByRecursion (λ e. IsTakenIn final e.step)) is (all_of_own (λ e. IsTakenIn final e.step) history d (all_taken g places g.opening history legs legal.1 drill)))

      taken : (p : ℕ) → p < places → is_occupied final p leg ≡ true
      taken p within =
          let seen = part.taken p within in
          among (IsTakenIn final) (look_at p (on_leg leg) seen.0) mine (All-left (IsTakenIn final) mine rest (All-right (IsTakenIn final) before (mine ++ rest) all)) seen.1 leg refl seen.2

  middle_of : (before front looks back rest : List Step) → before ++ ((front ++ (looks ++ back)) ++ rest) ≡ (before ++ front) ++ (looks ++ (back ++ rest))
  middle_of before front looks back rest =
      ap (λ (sts : List Step). before ++ sts) (append_assoc front (looks ++ back) rest ∙ ap (λ (sts : List Step). front ++ sts) (append_assoc looks back rest))
      ∙ sym (append_assoc before front (looks ++ (back ++ rest)))

  never_busy : (leg : ℕ) (before mine rest : List Step) → leg < 8 → own history d ≡ map (entry d) (before ++ (mine ++ rest)) → IsBusy places leg mine → ⊥
  never_busy leg before mine rest few is part =
      never g places legs d part.place leg few (part.back ++ rest) g.opening history legal.1 drill (before ++ part.front) part.shown 0
      (is ∙ ap (map (entry d)) (ap (λ (sts : List Step). before ++ (sts ++ rest)) part.are ∙ middle_of before part.front (looks_at part.place (on_leg leg) part.shown) part.back rest))
      (record {
        few = (let e : 0 ≤ 8 = omega arith in e);
        number = (let all = part.all in let e : 0 + length part.shown ≡ most_looks = omega (arith, all) in e);
        risen = (let e : 0 ≤ legs_at g.opening part.place + 1 = omega arith in e);
        next = λ w rest these shows. (let e : 0 ≤ legs_at g.opening part.place = omega arith in e);
        moving = part.moving;
        clear = part.clear;
      })

  one_settled : (leg : ℕ) (o : Outcome) (before mine rest : List Step) → leg < 8 → own history d ≡ map (entry d) (before ++ (mine ++ rest)) → IsPart g history places leg o mine
      → (o ≡ Sold) ⊎ ((o ≡ TurnedAway) × (places_on places final leg ≡ places))
  one_settled leg Sold before mine rest few is part = inl refl
  one_settled leg TurnedAway before mine rest few is part = inr (refl, turned_away leg before mine rest is part)
  one_settled leg Busy before mine rest few is part = absurd (never_busy leg before mine rest few is part)
  one_settled leg WithoutRow before mine rest few is part = absurd (a_row_is_free g history part.seen opening part.front few_rows part.full)

  pub parts_settled : (seed k : ℕ) (os : List Outcome) (before sts : List Step) → own history d ≡ map (entry d) (before ++ sts) → AreParts g history places seed k os sts
      → AreSettled places final seed k os
  parts_settled seed k [] before sts is are = tt
  parts_settled seed k (o ∷ os) before sts is (mine, rest, these, part, more) =
      let whole : own history d ≡ map (entry d) (before ++ (mine ++ rest)) = is ∙ ap (λ (sts : List Step). map (entry d) (before ++ sts)) these in (
        one_settled (drill_leg seed k) o before mine rest (few_legs seed k) whole part,
        parts_settled seed (k + 1) os (before ++ mine) rest (whole ∙ ap (map (entry d)) (sym (append_assoc before mine rest))) more,
      )

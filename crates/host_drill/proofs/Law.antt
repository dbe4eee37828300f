-- The law of a drill's totals: whatever the threads did, over the eight legs the lesser of the requests for the leg and
-- the places is sold.
use Rattle.std.proofs.Common.{◌≡◌, ◌∙◌, ◌+◌, ◌*◌, ◌<◌, ◌≤◌, ◌⊎◌, inl, inr, ℕ, zero, suc, List, [], ◌∷◌, Bool, false, min, length, replicate, refl, sym, ap, subst, ⊎_elim, arith}
use Rattle.std.specs.List.{AllByRecursion}
use Rattle.std.proofs.lemmas.Bool.{cases_eq, cases_lt}
use Rattle.std.proofs.Math.Nat.{mul-le-mul_left, mul-le-mul_right, suc-mul, min-eq_left, min-eq_right}
use Rattle.history_model.specs.declared.entry.Entry.{Entry}
use Rattle.history_model.specs.declared.entry.Step.{Step}
use Rattle.history_model.specs.declared.entry.Step.TheVariants.{Met}
use Rattle.history_model.specs.Booking.{Layout, State, is_occupied}
use Rattle.history_model.specs.History.{IsLegal, own, state_of}
use Rattle.history_model.proofs.ListLemmas.{All-map}
use Rattle.host_drill.specs.Generator.{drill_legs, drill_rows}
use Rattle.host_drill.specs.Totals.{asked_for, one_if, sold_of, sold_on}
use Rattle.host_drill.specs.Parts.{AllWork, HasWork, IsWholeCount, Outcome, all_outcomes_in, is_start, is_turned_away, outcomes_in}
use Rattle.host_drill.proofs.Counting.{count_few}
use Rattle.host_drill.proofs.Sums.{count_none, sum_below}
use Rattle.host_drill.proofs.Effects.{IsOfDrill, is_seal, takes_leg}
use Rattle.host_drill.proofs.Occupancy.{AllOfDrill, places_on, steps_in, taken_on}
use Rattle.host_drill.proofs.Rows.{sold_after}
use Rattle.host_drill.proofs.OwnCounts.{all_of_desks, all_of_entries, over_desks, sum_from}
use Rattle.host_drill.proofs.Takes.{Counts, is_sold, of_entries, on_leg_in, parts_counts, steps_of}
use Rattle.host_drill.proofs.Outcomes.{parts_settled}
use Rattle.host_drill.proofs.Tallies.{AllSettled, all_asked, all_by_legs, all_each, all_full, all_none_busy, all_on_leg}

-- the first desk, which met others alone

none_met : (test : Step → Bool) (es : List Entry) → test Met ≡ false → AllByRecursion (λ e. e.step ≡ Met) es → steps_in test es ≡ 0
none_met test [] none met = refl
none_met test (e ∷ es) none met =
    let here = ap (λ (st : Step). one_if (test st)) met.0 ∙ ap one_if none in
    let rest = none_met test es none met.1 in
    let f : one_if (test e.step) + steps_in test es ≡ 0 = omega (arith, here, rest) in f

met_drill : (e : Entry) → e.step ≡ Met → IsOfDrill e.step
met_drill e met = subst IsOfDrill (sym met) tt

-- the workers' desks

module _ (g : Layout) (history : List Entry) (places seed size : ℕ) where
  abbrev own_in : (Step → Bool) → ℕ → ℕ
  own_in test d = steps_in test (own history d)

  work_counts : (worker : ℕ) (os : List Outcome) (work : HasWork g history places seed size worker os) → Counts seed (worker * size) os work.steps
  work_counts worker os work = parts_counts g history places seed (worker * size) os work.steps work.parts

  own_is : (test : Step → Bool) (worker : ℕ) (os : List Outcome) (work : HasWork g history places seed size worker os) → own_in test (worker + 1) ≡ steps_of test work.steps
  own_is test worker os work = ap (steps_in test) work.own ∙ of_entries test (worker + 1) work.steps

  takes_are : (l worker : ℕ) (outcomes : List (List Outcome)) → AllWork g history places seed size worker outcomes
      → sum_from (own_in (takes_leg l)) (worker + 1) (length outcomes) ≡ all_on_leg is_sold seed l size worker outcomes
  takes_are l worker [] work = refl
  takes_are l worker (os ∷ more) work =
      let one = own_is (takes_leg l) worker os work.0 ∙ (work_counts worker os work.0).takes l in
      let rest = takes_are l (worker + 1) more work.1 in
      let e : own_in (takes_leg l) (worker + 1) + sum_from (own_in (takes_leg l)) (worker + 1 + 1) (length more)
      ≡ on_leg_in is_sold seed l (worker * size) os + all_on_leg is_sold seed l size (worker + 1) more = omega (arith, one, rest) in e

  seals_are : (worker : ℕ) (outcomes : List (List Outcome)) → AllWork g history places seed size worker outcomes
      → sum_from (own_in is_seal) (worker + 1) (length outcomes) ≡ all_outcomes_in is_sold outcomes
  seals_are worker [] work = refl
  seals_are worker (os ∷ more) work =
      let one = own_is is_seal worker os work.0 ∙ (work_counts worker os work.0).seals in
      let rest = seals_are (worker + 1) more work.1 in
      let e : own_in is_seal (worker + 1) + sum_from (own_in is_seal) (worker + 1 + 1) (length more) ≡ outcomes_in is_sold os + all_outcomes_in is_sold more = omega (arith, one, rest) in e

  starts_few : (worker : ℕ) (outcomes : List (List Outcome)) → AllWork g history places seed size worker outcomes
      → sum_from (own_in is_start) (worker + 1) (length outcomes) ≤ length outcomes * size
  starts_few worker [] work = let e : 0 ≤ 0 * size = omega arith in e
  starts_few worker (os ∷ more) work =
      let is = own_is is_start worker os work.0 in
      let one = (work_counts worker os work.0).starts in
      let number = work.0.number in
      let rest = starts_few (worker + 1) more work.1 in
      let more_is = suc-mul (length more) size in
      let e : own_in is_start (worker + 1) + sum_from (own_in is_start) (worker + 1 + 1) (length more) ≤ suc (length more) * size = omega (arith, is, one, number, rest, more_is) in e

  own_drill : (worker : ℕ) (outcomes : List (List Outcome)) → AllWork g history places seed size worker outcomes → (d : ℕ) → worker < d → d ≤ worker + length outcomes
      → AllOfDrill (own history d)
  own_drill worker [] work d more few = absurd (let e : ⊥ = omega (arith, more, few) in e)
  own_drill worker (os ∷ others) work d more few = ⊎_elim
      (λ (is : d ≡ worker + 1). subst (λ (k : ℕ). AllOfDrill (own history k)) (sym is)
      (subst AllOfDrill (sym work.0.own) (all_of_entries IsOfDrill (worker + 1) work.0.steps (work_counts worker os work.0).drill)))
      (λ (other : d ≡ worker + 1 → ⊥). own_drill (worker + 1) others work.1 d
      (let e : worker + 1 < d = omega (arith, more, other) in e) (let e : d ≤ worker + 1 + length others = omega (arith, few) in e))
      (cases_eq d (worker + 1))

  all_settled : g.legs ≡ replicate places 8 → g.opening ≡ [] → IsLegal g history → AllOfDrill history → steps_in is_start history < g.rows
      → (worker : ℕ) (outcomes : List (List Outcome)) → AllWork g history places seed size worker outcomes → AllSettled places (state_of g history) seed size worker outcomes
  all_settled legs opening legal drill few worker [] work = tt
  all_settled legs opening legal drill few worker (os ∷ more) work = (
    parts_settled g history places legs opening legal drill few (worker + 1) seed (worker * size) os [] work.0.steps work.0.own work.0.parts,
    work.0.number,
    all_settled legs opening legal drill few (worker + 1) more work.1,
  )

-- the lesser of the requests and the places, on each leg
sold_on_legs : (sold : ℕ → ℕ) (seed requests places legs : ℕ) → ((l : ℕ) → sold l ≡ min (asked_for seed requests l) places) → sum_below sold legs ≡ sold_on seed requests places legs
sold_on_legs sold seed requests places zero each = refl
sold_on_legs sold seed requests places (suc legs) each =
    let before = sold_on_legs sold seed requests places legs each in
    let here = each legs in
    let e : sum_below sold legs + sold legs ≡ sold_on seed requests places legs + min (asked_for seed requests legs) places = omega (arith, before, here) in e

lesser : (sold turned asked places : ℕ) → sold + turned ≡ asked → sold ≤ places → (turned ≡ 0) ⊎ (sold ≡ places) → sold ≡ min asked places
lesser sold turned asked places all few (inl none) = (let e : sold ≡ asked = omega (arith, all, none) in e) ∙ sym (min-eq_left (let e : asked ≤ places = omega (arith, all, none, few) in e))
lesser sold turned asked places all few (inr full) = full ∙ sym (min-eq_right (let e : places ≤ asked = omega (arith, all, full) in e))

module _ (g : Layout) (history : List Entry) (seed size workers places : ℕ) (outcomes : List (List Outcome)) (legs : g.legs ≡ replicate places 8) (rows : g.rows ≡ 32768) (opening : g.opening ≡ [])
    (few_requests : size ≤ 2000) (few_workers : workers ≤ 16) (legal : IsLegal g history) (met : AllByRecursion (λ e. e.step ≡ Met) (own history 0))
    (no_others : (k : ℕ) → workers < k → own history k ≡ []) (number : length outcomes ≡ workers) (work : AllWork g history places seed size 0 outcomes) where
  abbrev final : State
  final = state_of g history

  all_drill : AllOfDrill history
  all_drill = all_of_desks (λ e. IsOfDrill e.step) history each
    where
      by : (d : ℕ) → (d ≡ 0 → ⊥) → AllOfDrill (own history d)
      by d some = ⊎_elim
          (λ (past : workers < d). subst AllOfDrill (sym (no_others d past)) tt)
          (λ (few : d ≤ workers). own_drill g history places seed size 0 outcomes work d (let e : 0 < d = omega (arith, some) in e) (let e : d ≤ 0 + length outcomes = omega (arith, few, number) in e))
          (cases_lt workers d)

      each : (d : ℕ) → AllOfDrill (own history d)
      each d = ⊎_elim
          (λ (first : d ≡ 0). subst (λ (k : ℕ). AllOfDrill (own history k)) (sym first) (All-map met_drill (own history 0) met))
          (by d)
          (cases_eq d 0)

  over_workers : (test : Step → Bool) → test Met ≡ false → steps_in test history ≡ sum_from (λ d. steps_in test (own history d)) 1 (length outcomes)
  over_workers test none =
      let all = over_desks test workers history no_others in
      let first = none_met test (own history 0) none met in
      let e : steps_in test history ≡ sum_from (λ d. steps_in test (own history d)) 1 workers = omega (arith, all, first) in
      e ∙ ap (sum_from (λ d. steps_in test (own history d)) 1) (sym number)

  few_rows : steps_in is_start history < g.rows
  few_rows =
      let is = over_workers is_start refl in
      let few = starts_few g history places seed size 0 outcomes work in
      let same : length outcomes * size ≡ workers * size = ap (λ (n : ℕ). n * size) number in
      let by_workers = mul-le-mul_right size few_workers in
      let by_requests = mul-le-mul_left 16 few_requests in
      let e : steps_in is_start history < g.rows = omega (arith, is, few, same, by_workers, by_requests, rows) in e

  settled : AllSettled places final seed size 0 outcomes
  settled = all_settled g history places seed size legs opening legal all_drill few_rows 0 outcomes work

  on_leg_taken : (l : ℕ) → places_on places final l ≡ all_on_leg is_sold seed l size 0 outcomes
  on_leg_taken l =
      let taken = taken_on g places g.opening history l legs legal.1 all_drill in
      let none : places_on places g.opening l ≡ 0 = subst (λ (s : State). places_on places s l ≡ 0) (sym opening) (count_none (λ p. is_occupied [] p l) places (λ p _. refl)) in
      let is = over_workers (takes_leg l) refl in
      let sold = takes_are g history places seed size l 0 outcomes work in
      let e : places_on places final l ≡ all_on_leg is_sold seed l size 0 outcomes = omega (arith, taken, none, is, sold) in e

  on_leg_sold : (l : ℕ) → all_on_leg is_sold seed l size 0 outcomes ≡ min (asked_for seed (workers * size) l) places
  on_leg_sold l = lesser (all_on_leg is_sold seed l size 0 outcomes) (all_on_leg is_turned_away seed l size 0 outcomes) (asked_for seed (workers * size) l) places all few
      (⊎_elim inl (λ (full : places_on places final l ≡ places). inr (sym (on_leg_taken l) ∙ full)) (all_full places final seed size l 0 outcomes settled))
    where
      all : all_on_leg is_sold seed l size 0 outcomes + all_on_leg is_turned_away seed l size 0 outcomes ≡ asked_for seed (workers * size) l
      all =
          let asked = all_asked places final seed size l 0 outcomes settled in
          let none : asked_for seed (0 * size) l ≡ 0 = ap (λ (n : ℕ). asked_for seed n l) (let e : 0 * size ≡ 0 = omega arith in e) in
          let same : asked_for seed ((0 + length outcomes) * size) l ≡ asked_for seed (workers * size) l
          = ap (λ (n : ℕ). asked_for seed (n * size) l) (let e : 0 + length outcomes ≡ workers = omega (arith, number) in e) in
          let e : all_on_leg is_sold seed l size 0 outcomes + all_on_leg is_turned_away seed l size 0 outcomes ≡ asked_for seed (workers * size) l = omega (arith, asked, none, same) in e

      few : all_on_leg is_sold seed l size 0 outcomes ≤ places
      few = let taken = on_leg_taken l in let within = count_few (λ p. is_occupied final p l) places in
          let e : all_on_leg is_sold seed l size 0 outcomes ≤ places = omega (arith, taken, within) in e

  sold_is : sold_of final g.rows ≡ all_outcomes_in is_sold outcomes
  sold_is =
      let after = sold_after g g.opening history legal.1 all_drill in
      let none : sold_of g.opening g.rows ≡ 0 = subst (λ (s : State). sold_of s g.rows ≡ 0) (sym opening) (count_none _ g.rows (λ row _. refl)) in
      let is = over_workers is_seal refl in
      let seals = seals_are g history places seed size 0 outcomes work in
      let e : sold_of final g.rows ≡ all_outcomes_in is_sold outcomes = omega (arith, after, none, is, seals) in e

  whole_count : IsWholeCount (sold_of final g.rows) seed (workers * size) places outcomes
  whole_count = record {
    sold_is = sold_is ∙ (sym (all_by_legs is_sold seed size 0 outcomes) ∙ sold_on_legs (λ l. all_on_leg is_sold seed l size 0 outcomes) seed (workers * size) places 8 on_leg_sold);
    all = (let sold = sold_is in let each = all_each places final seed size 0 outcomes settled in let same : length outcomes * size ≡ workers * size = ap (λ (n : ℕ). n * size) number in
        let e : sold_of final g.rows + all_outcomes_in is_turned_away outcomes ≡ workers * size = omega (arith, sold, each, same) in e);
    none_busy = all_none_busy places final seed size 0 outcomes settled;
  }

-- Let the workers' entries in a legal history be those of their requests, the first desk's be its meetings, and no
-- other desk have any. Then the live bookings and the outcomes are those of a whole count.
pub law : (g : Layout) (history : List Entry) (seed size workers places : ℕ) (outcomes : List (List Outcome))
    → g.legs ≡ replicate places drill_legs → g.rows ≡ drill_rows → g.opening ≡ []
    → size ≤ 2000 → workers ≤ 16 → IsLegal g history
    → AllByRecursion (λ e. e.step ≡ Met) (own history 0)
    → ((k : ℕ) → workers < k → own history k ≡ [])
    → length outcomes ≡ workers → AllWork g history places seed size 0 outcomes
    → IsWholeCount (sold_of (state_of g history) g.rows) seed (workers * size) places outcomes
law g history seed size workers places outcomes legs rows opening few_requests few_workers legal met no_others number work =
    whole_count g history seed size workers places outcomes legs rows opening few_requests few_workers legal met no_others number work

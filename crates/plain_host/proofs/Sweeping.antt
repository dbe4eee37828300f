-- A sweep, row after row, is a sweep of the plain list.
use Rattle.std.proofs.Common.{◌≡◌, ◌≢◌, ℕ, suc, ◌+◌, ◌<◌, ◌≤◌, ◌⊎◌, inl, inr, ⊎_elim, Bool, true, false, cond, List, [], ◌∷◌, ◌++◌, map, length, Option, Some, None, refl, sym, ap, ◌∙◌, subst, arith}
use Rattle.std.specs.Prelude.{◌==◌, ◌&&◌, ◌-◌, ◌/◌, ◌%◌, nat_eq, nat_lt, nat_le, count_by}
use Rattle.std.specs.List.{AllByRecursion}
use Rattle.std.proofs.lemmas.Bool.{lt-ltb, le-ltb, le-leb, lt-leb, leb-true, leb-false, eqb-false}
use Rattle.std.proofs.lemmas.List.Sums.{sum_by-cons}
use mathlib.Core.List.{map-append}
use Rattle.leg_masks.specs.Interval.{PlacedSpan as Item}
use Rattle.rail_ids.specs.declared.RowNo.{RowNo}
use Rattle.history_model.specs.declared.entry.Step.TheVariants.{SawRow, LostTurn}
use Rattle.history_model.specs.declared.phase.Phase.{Phase}
use Rattle.history_model.specs.declared.phase.Phase.TheVariants as phase
use Rattle.history_model.specs.declared.phase.EndKind.TheVariants as kind
use Rattle.history_model.specs.Phase.{is_sealed, said_phase, row_word_of, phase_shown, generation_words}
use Rattle.history_model.specs.Words.{row_word}
use Rattle.history_model.specs.Booking.{Booking, Layout, State, key_of, next_in, stands_in, present, word_at}
use Rattle.history_model.specs.History.{IsLegalFrom, entry, state_after}
use Rattle.history_model.specs.Laws.{IsWellFormed, is_owners}
use Rattle.history_model.proofs.ListLemmas.{All-map, All-append, none_passes}
use Rattle.history_model.proofs.Forward.{state-append, legal_left, legal_right}
use Rattle.history_model.proofs.Legal.{WellFormed-history}
use Rattle.history_model.proofs.PhaseWords.{shown_back}
use Rattle.booking_rows.specs.Aims.{end_of}
use Rattle.booking_rows.specs.declared.turns.Aim.TheVariants as aim
use Rattle.booking_rows.specs.declared.swept.Swept.{Swept}
use Rattle.expiry_sweeper.specs.OneRow.{SeenPrebooked, RowSweep, passed, given_away, waiting, expired, lost, IsRowSweep, outcome_of, row_sweep_steps}
use Rattle.expiry_sweeper.specs.AllRows.{sweeps_steps, counted, counts_of}
use Rattle.booking_service.specs.Deciding.{at_end}
use Rattle.lone_desk.specs.Lone.{entries_of, after_steps}
use Rattle.plain_host.specs.Plain.{Standing, is_in}
use Rattle.plain_host.specs.Outcomes.{is_late, is_waiting, swept_one}
use Rattle.plain_host.specs.PlainOf.{row_of, view_of, standing_of, standings_of, kept_of}
use Rattle.plain_host.specs.Settled.{IsSettled}
use Rattle.plain_host.proofs.Staying.{settled_with}
use Rattle.plain_host.proofs.Standings.{Stands, stands, is_there, there, there_same, keys_with, both_true, second_false, standings_by, by_around, by_beside, AreElsewhere, elsewhere, changed_standing}
use Rattle.plain_host.proofs.Changes.{steps_on, steps_change, ends_on, ends_leave}
use Rattle.plain_host.proofs.Looks.{sealed_not_free, word_here, word_shown, seen_first, never_away, never_lost}
use Rattle.plain_host.proofs.Decided.{is_in_yes, is_in_no}

-- counting

abbrev one_if : Bool → ℕ
one_if t = cond t 1 0

no_more : (n : ℕ) → n ≡ 0 + n
no_more n = omega arith

-- both tests say the same of each
abbrev Agree : (Standing → Bool) → (Standing → Bool) → List Standing → Type 0
Agree p q xs = AllByRecursion (λ x. p x ≡ q x) xs

count_more : (p : Standing → Bool) (x : Standing) (xs : List Standing) → count_by p (x ∷ xs) ≡ one_if (p x) + count_by p xs
count_more p x xs = sum_by-cons (λ (y : Standing). one_if (p y)) x xs

count_agree : (p q : Standing → Bool) (xs : List Standing) → Agree p q xs → count_by p xs ≡ count_by q xs
count_agree p q [] same = refl
count_agree p q (x ∷ xs) same =
    count_more p x xs
    ∙ (ap (λ (t : Bool). one_if t + count_by p xs) same.0
    ∙ (ap (λ (n : ℕ). one_if (q x) + n) (count_agree p q xs same.1) ∙ sym (count_more q x xs)))

-- the tests agree on all but one, where the first is passed k times more
count_swap : (p q : Standing → Bool) (os cs : List Standing) (x y : Standing) (k : ℕ) → Agree p q os → Agree p q cs → one_if (p x) ≡ k + one_if (q y)
    → count_by p (os ++ x ∷ cs) ≡ k + count_by q (os ++ y ∷ cs)
count_swap p q [] cs x y k first last here =
    let a = count_more p x cs in
    let b = count_more q y cs in
    let c = count_agree p q cs last in
    omega (arith, a, b, c, here)
count_swap p q (a ∷ os) cs x y k first last here =
    let rest = count_swap p q os cs x y k first.1 last here in
    let more = count_more p a (os ++ x ∷ cs) in
    let less = count_more q a (os ++ y ∷ cs) in
    let same : one_if (p a) ≡ one_if (q a) = ap (λ (t : Bool). one_if t) first.0 in
    omega (arith, rest, more, less, same)

-- rows from one on

abbrev pub late_from : ℕ → ℕ → Standing → Bool
late_from now row b = nat_le row b.row.row && is_late now b

abbrev pub waits_from : ℕ → ℕ → Standing → Bool
waits_from now row b = nat_le row b.row.row && is_waiting now b

abbrev pub swept_from : ℕ → ℕ → Standing → Standing
swept_from now row b = cond (nat_le row b.row.row) (swept_one now b) b

-- another row than this one is from it on, or from the next
next_same : (r q : ℕ) → (q == r) ≡ false → nat_le r q ≡ nat_le (suc r) q
next_same r q other = ⊎_elim
    (λ (less : q < r). lt-leb r q less ∙ sym (lt-leb (suc r) q (omega (arith, less))))
    (λ (more : r ≤ q). le-leb r q more ∙ sym (le-leb (suc r) q (omega (arith, more, eqb-false q r other))))
    (either q r)
  where
    either : (q r : ℕ) → (q < r) ⊎ (r ≤ q)
    either q r = by (nat_le r q) refl where
      by : (t : Bool) → nat_le r q ≡ t → (q < r) ⊎ (r ≤ q)
      by true e = inr (leb-true r q e)
      by false e = inl (leb-false r q e)

late_same : (now row : ℕ) (xs : List Standing) → AreElsewhere row xs → Agree (late_from now row) (late_from now (suc row)) xs
late_same now row [] else = tt
late_same now row (x ∷ xs) else = (ap (λ (t : Bool). t && is_late now x) (next_same row x.row.row else.0), late_same now row xs else.1)

waits_same : (now row : ℕ) (xs : List Standing) → AreElsewhere row xs → Agree (waits_from now row) (waits_from now (suc row)) xs
waits_same now row [] else = tt
waits_same now row (x ∷ xs) else = (ap (λ (t : Bool). t && is_waiting now x) (next_same row x.row.row else.0), waits_same now row xs else.1)

swept_same : (now row : ℕ) (xs : List Standing) → AreElsewhere row xs → map (swept_from now (suc row)) xs ≡ map (swept_from now row) xs
swept_same now row [] else = refl
swept_same now row (x ∷ xs) else =
    ap (λ (t : Bool). cond t (swept_one now x) x ∷ map (swept_from now (suc row)) xs) (sym (next_same row x.row.row else.0))
    ∙ ap (λ (l : List Standing). swept_from now row x ∷ l) (swept_same now row xs else.1)

-- what the sweep of one row leaves of the list, with so many rows late and waiting
record SweptRow (now row : ℕ) (s t : State) (lates waits : ℕ) : Type 0 where
  bookings : map (swept_from now (suc row)) (standings_of t) ≡ map (swept_from now row) (standings_of s)
  late : count_by (late_from now row) (standings_of s) ≡ lates + count_by (late_from now (suc row)) (standings_of t)
  wait : count_by (waits_from now row) (standings_of s) ≡ waits + count_by (waits_from now (suc row)) (standings_of t)
  kept : kept_of t ≡ kept_of s
  settled : IsSettled s → IsSettled t

here_on : (row q : ℕ) → q ≡ row → (nat_le row q ≡ true) × (nat_le (suc row) q ≡ false)
here_on row q e = (le-leb row q (omega (arith, e)), lt-leb (suc row) q (omega (arith, e)))

-- a row whose booking was swept
one_swept : (now row : ℕ) (s t : State) (os cs : List Standing) (x y : Standing) (lates waits : ℕ) → standings_of s ≡ os ++ x ∷ cs → standings_of t ≡ os ++ y ∷ cs
    → AreElsewhere row os → AreElsewhere row cs → x.row.row ≡ row → y.row.row ≡ row → y ≡ swept_one now x → one_if (is_late now x) ≡ lates → one_if (is_waiting now x) ≡ waits
    → kept_of t ≡ kept_of s → (IsSettled s → IsSettled t) → SweptRow now row s t lates waits
one_swept now row s t os cs x y lates waits was is first last x_row y_row swept late wait kept settled =
    let from = here_on row x.row.row x_row in
    let past = here_on row y.row.row y_row in
    let late_here : one_if (late_from now row x) ≡ lates + one_if (late_from now (suc row) y) =
    ap (λ (b : Bool). one_if (b && is_late now x)) from.0
    ∙ (late ∙ (plus_none lates ∙ ap (λ (b : Bool). lates + one_if (b && is_late now y)) (sym past.1))) in
    let wait_here : one_if (waits_from now row x) ≡ waits + one_if (waits_from now (suc row) y) =
    ap (λ (b : Bool). one_if (b && is_waiting now x)) from.0
    ∙ (wait ∙ (plus_none waits ∙ ap (λ (b : Bool). waits + one_if (b && is_waiting now y)) (sym past.1))) in
    let one : swept_from now (suc row) y ≡ swept_from now row x =
    ap (λ (b : Bool). cond b (swept_one now y) y) past.1
    ∙ (swept ∙ ap (λ (b : Bool). cond b (swept_one now x) x) (sym from.0)) in
    record {
      bookings = ap (map (swept_from now (suc row))) is
          ∙ (map-append (swept_from now (suc row)) os (y ∷ cs)
          ∙ (ap (λ (l : List Standing). l ++ swept_from now (suc row) y ∷ map (swept_from now (suc row)) cs) (swept_same now row os first)
          ∙ (ap (λ (l : List Standing). map (swept_from now row) os ++ swept_from now (suc row) y ∷ l) (swept_same now row cs last)
          ∙ (ap (λ (z : Standing). map (swept_from now row) os ++ z ∷ map (swept_from now row) cs) one
          ∙ (sym (map-append (swept_from now row) os (x ∷ cs)) ∙ ap (map (swept_from now row)) (sym was))))));
      late = ap (count_by (late_from now row)) was
          ∙ (count_swap (late_from now row) (late_from now (suc row)) os cs x y lates (late_same now row os first) (late_same now row cs last) late_here
          ∙ ap (λ (l : List Standing). lates + count_by (late_from now (suc row)) l) (sym is));
      wait = ap (count_by (waits_from now row)) was
          ∙ (count_swap (waits_from now row) (waits_from now (suc row)) os cs x y waits (waits_same now row os first) (waits_same now row cs last) wait_here
          ∙ ap (λ (l : List Standing). waits + count_by (waits_from now (suc row)) l) (sym is));
      kept = kept;
      settled = settled;
    }
  where
    plus_none : (n : ℕ) → n ≡ n + 0
    plus_none n = omega arith

none_swept : (now row : ℕ) (s : State) → AreElsewhere row (standings_of s) → SweptRow now row s s 0 0
none_swept now row s else = record {
  bookings = swept_same now row (standings_of s) else;
  late = count_agree (late_from now row) (late_from now (suc row)) (standings_of s) (late_same now row (standings_of s) else)
      ∙ no_more (count_by (late_from now (suc row)) (standings_of s));
  wait = count_agree (waits_from now row) (waits_from now (suc row)) (standings_of s) (waits_same now row (standings_of s) else)
      ∙ no_more (count_by (waits_from now (suc row)) (standings_of s));
  kept = refl;
  settled = λ is. is;
}

-- where the row's standing booking is, or that there is none
row_parts : (g : Layout) (s : State) (row : ℕ) → IsWellFormed g s
    → AreElsewhere row (standings_of s) ⊎ ((b : Booking) × (present s row ≡ Some b) × (is_sealed b.phase ≡ true))
row_parts g s row good = go (present s row) refl where
  sealed_or : (b : Booking) (t : Bool) → present s row ≡ Some b → is_sealed b.phase ≡ t
      → AreElsewhere row (standings_of s) ⊎ ((c : Booking) × (present s row ≡ Some c) × (is_sealed c.phase ≡ true))
  sealed_or b true at sealed = inr (b, at, sealed)
  sealed_or b false at unsealed =
      let st = stands g s row b good at in
      let test = is_there s in
      inl (subst (AreElsewhere row) (sym (ap (standings_by test) st.is ∙ by_beside test st.before st.after b (second_false (test b) (is_sealed b.phase) unsealed)))
      (All-append (λ (x : Standing). (x.row.row == row) ≡ false) (standings_by test st.before) (standings_by test st.after)
      (elsewhere s row st.before st.first) (elsewhere s row st.after st.last)))

  go : (o : Option Booking) → present s row ≡ o
      → AreElsewhere row (standings_of s) ⊎ ((b : Booking) × (present s row ≡ Some b) × (is_sealed b.phase ≡ true))
  go None at = inl (elsewhere s row s (none_passes (stands_in s row) s at))
  go (Some b) at = sealed_or b (is_sealed b.phase) at refl

-- the list of what stands, around a sealed booking of the row's key
standings_around : (s t : State) (row : ℕ) (b c : Booking) → (st : Stands s row b) → t ≡ st.before ++ c ∷ st.after → key_of c ≡ key_of b → is_sealed c.phase ≡ true
    → standings_of t ≡ standings_by (is_there s) st.before ++ standing_of c ∷ standings_by (is_there s) st.after
standings_around s t row b c st is same sealed =
    let test = is_there s in
    let keys : map key_of t ≡ map key_of s = ap (map key_of) is ∙ (keys_with st.before st.after b c same ∙ sym (ap (map key_of) st.is)) in
    let c_there : test c ≡ true =
    (let e : test c ≡ test b = ap (λ (k : ℕ × ℕ). nat_eq k.0 k.0 && nat_eq k.1 (next_in (map key_of s) k.0 - 1)) same in e) ∙ there s row b st in
    (λ i. standings_by (λ x. there_same s t keys x i) t)
    ∙ (ap (standings_by test) is ∙ by_around test st.before st.after c (both_true (test c) (is_sealed c.phase) c_there sealed))

not_late : (now : ℕ) (x : Standing) → is_late now x ≡ false → x ≡ swept_one now x
not_late now x unlate =
    sym (ap (λ (t : Bool). cond t (record { row = x.row; view = at_end kind.Expire (end_of (aim.Expire now)) x.view }) x) unlate)

-- a row that stays as it is
same_swept : (g : Layout) (now row : ℕ) (s : State) (b : Booking) (waits : ℕ) → IsWellFormed g s → present s row ≡ Some b → is_sealed b.phase ≡ true
    → is_late now (standing_of b) ≡ false → one_if (is_waiting now (standing_of b)) ≡ waits → SweptRow now row s s 0 waits
same_swept g now row s b waits good at sealed unlate wait =
    let st = stands g s row b good at in
    let parts = standings_around s s row b b st st.is refl sealed in
    one_swept now row s s (standings_by (is_there s) st.before) (standings_by (is_there s) st.after) (standing_of b) (standing_of b) 0 waits parts parts
    (elsewhere s row st.before st.first) (elsewhere s row st.after st.last) st.same st.same (not_late now (standing_of b) unlate)
    (ap (λ (t : Bool). one_if t) unlate) wait refl (λ is. is)

lates_of : RowSweep → ℕ
lates_of (expired x items) = 1
lates_of _ = 0

waits_of : RowSweep → ℕ
waits_of (waiting x) = 1
waits_of _ = 0

-- word 0 says the phase of a sealed booking of whatever generation
said_of : (p : Phase) (generation : ℕ) → is_sealed p ≡ true → said_phase (row_word_of p generation % generation_words) ≡ p
said_of p generation sealed = go (row_word_of p generation / generation_words == generation) (shown_back p generation) where
  go : (t : Bool) → cond t (said_phase (row_word_of p generation % generation_words)) phase.Free ≡ p → said_phase (row_word_of p generation % generation_words) ≡ p
  go true e = e
  go false e = absurd (sealed_not_free p sealed (sym e))

passed_swept : (g : Layout) (now row : ℕ) (s : State) (n : ℕ) → IsWellFormed g s → said_phase (n % generation_words) ≢ phase.Prebooked → n ≡ row_word s row 0
    → SweptRow now row s s 0 0
passed_swept g now row s n good other word = ⊎_elim
    (λ (none : AreElsewhere row (standings_of s)). none_swept now row s none)
    (λ (some : (b : Booking) × (present s row ≡ Some b) × (is_sealed b.phase ≡ true)).
    let b = some.0 in
    let here : n ≡ row_word_of b.phase b.generation = word ∙ word_here s (record { row = row; generation = b.generation }) b some.1 refl in
    let is : said_phase (n % generation_words) ≡ b.phase = ap (λ (k : ℕ). said_phase (k % generation_words)) here ∙ said_of b.phase b.generation some.2 in
    let unlate : is_in phase.Prebooked (view_of b) ≡ false = is_in_no b.phase phase.Prebooked (λ e. other (is ∙ e)) in
    same_swept g now row s b 0 good some.1 some.2 (ap (λ (t : Bool). t && nat_lt (word_at b 2) now) unlate)
    (ap (λ (t : Bool). one_if (t && nat_le now (word_at b 2))) unlate))
    (row_parts g s row good)

-- the prebooked booking of a row, with its limit
saw_booking : (s : State) (row : ℕ) (x : SeenPrebooked) → row_word_of phase.Prebooked x.generation ≡ row_word s row 0 → x.limit ≡ row_word s row 2
    → (b : Booking) × (present s row ≡ Some b) × (b.phase ≡ phase.Prebooked) × (x.limit ≡ word_at b 2)
saw_booking s row x word read =
    let at = seen_first s (record { row = row; generation = x.generation }) phase.Prebooked refl word in
    (at.0, at.1, at.3, read ∙ word_shown s row 2 at.0 (omega arith) at.1)

waiting_swept : (g : Layout) (now row : ℕ) (x : SeenPrebooked) (s : State) → IsWellFormed g s → now ≤ x.limit → row_word_of phase.Prebooked x.generation ≡ row_word s row 0
    → x.limit ≡ row_word s row 2 → SweptRow now row s s 0 1
waiting_swept g now row x s good le word read =
    let at = saw_booking s row x word read in
    let b = at.0 in
    let yes : is_in phase.Prebooked (view_of b) ≡ true = is_in_yes b.phase phase.Prebooked at.2 in
    let timely : now ≤ word_at b 2 = subst (λ (n : ℕ). now ≤ n) at.3 le in
    same_swept g now row s b 1 good at.1 (ap is_sealed at.2)
    (ap (λ (t : Bool). t && nat_lt (word_at b 2) now) yes ∙ le-ltb (word_at b 2) now timely)
    (ap (λ (t : Bool). one_if (t && nat_le now (word_at b 2))) yes ∙ ap (λ (t : Bool). one_if t) (le-leb now (word_at b 2) timely))

expired_swept : (g : Layout) (d now row : ℕ) (x : SeenPrebooked) (items : List Item) (s : State) → IsWellFormed g s → x.limit < now
    → row_word_of phase.Prebooked x.generation ≡ row_word s row 0 → x.limit ≡ row_word s row 2
    → SweptRow now row s (after_steps s d (row_sweep_steps now row (expired x items))) 1 0
expired_swept g d now row x items s good less word read =
    let at = saw_booking s row x word read in
    let b = at.0 in
    let y = standing_of b in
    let sealed : is_sealed b.phase ≡ true = ap is_sealed at.2 in
    let yes : is_in phase.Prebooked (view_of b) ≡ true = is_in_yes b.phase phase.Prebooked at.2 in
    let over : word_at b 2 < now = subst (λ (n : ℕ). n < now) at.3 less in
    let late : is_late now y ≡ true = ap (λ (t : Bool). t && nat_lt (word_at b 2) now) yes ∙ lt-ltb (word_at b 2) now over in
    let not_waiting : is_waiting now y ≡ false = ap (λ (t : Bool). t && nat_le now (word_at b 2)) yes ∙ lt-leb now (word_at b 2) over in
    let end = end_of (aim.Expire now) in
    let steps = row_sweep_steps now row (expired x items) in
    let t = after_steps s d steps in
    let c = steps_on d steps b in
    let ended = ends_leave d row phase.Prebooked kind.Expire end items b in
    let st = stands g s row b good at.1 in
    let is : t ≡ st.before ++ c ∷ st.after = steps_change s b row d steps st (refl, (refl, (refl, ends_on row phase.Prebooked kind.Expire end items))) in
    let left : is_sealed c.phase ≡ true = ap is_sealed ended.phase in
    let now_is = changed_standing s t row b c st is ended.key sealed left in
    let swept : standing_of c ≡ swept_one now y =
    (λ i. record { row = record { row = (ended.key i).0; generation = (ended.key i).1 }; view = ended.view i })
    ∙ sym (ap (λ (q : Bool). cond q (record { row = row_of b; view = at_end kind.Expire end (view_of b) }) y) late) in
    one_swept now row s t (standings_by (is_there s) st.before) (standings_by (is_there s) st.after) y (standing_of c) 1 0
    (standings_around s s row b b st st.is refl sealed) (standings_around s t row b c st is ended.key left)
    (elsewhere s row st.before st.first) (elsewhere s row st.after st.last) st.same (ap (λ (k : ℕ × ℕ). k.0) ended.key ∙ st.same) swept
    (ap (λ (q : Bool). one_if q) late) (ap (λ (q : Bool). one_if q) not_waiting) now_is.1
    (λ all. subst IsSettled (sym is) (settled_with st.before st.after b c sealed (record { sealed = left; still = ap is_owners ended.phase }) (subst IsSettled st.is all)))

-- the booking is there still, and no turn is lost, for nothing stands between the looks and the turn

never_given : (g : Layout) (s : State) (d now row : ℕ) (x : SeenPrebooked) → IsRowSweep now (given_away x) → IsLegalFrom g s (entries_of d (row_sweep_steps now row (given_away x))) → ⊥
never_given g s d now row x free legal = never_away g s d (record { row = row; generation = x.generation }) phase.Prebooked (SawRow row 2 x.limit ∷ []) x.last refl (refl, tt) legal free

none_lost : (g : Layout) (s : State) (d now row : ℕ) (x : SeenPrebooked) (n : ℕ) → IsRowSweep now (lost x n) → IsLegalFrom g s (entries_of d (row_sweep_steps now row (lost x n))) → ⊥
none_lost g s d now row x n is legal =
    let r : RowNo = record { row = row; generation = x.generation } in
    never_lost g s d r phase.Prebooked (phase_shown x.generation n) (SawRow row 2 x.limit ∷ SawRow row 0 x.last ∷ []) (LostTurn row (row_word_of phase.Prebooked x.generation) n ∷ [])
    (row_sweep_steps now row (lost x n)) (refl, (refl, tt)) (n, is.2, refl, refl) refl legal

row_swept : (g : Layout) (d now row : ℕ) (sweep : RowSweep) (s : State) → IsWellFormed g s → IsRowSweep now sweep
    → IsLegalFrom g s (entries_of d (row_sweep_steps now row sweep))
    → SweptRow now row s (after_steps s d (row_sweep_steps now row sweep)) (lates_of sweep) (waits_of sweep)
unfolding lates_of waits_of
row_swept g d now row (passed n) s good is legal = passed_swept g now row s n good is legal.0.2
row_swept g d now row (given_away x) s good is legal = absurd (never_given g s d now row x is legal)
row_swept g d now row (waiting x) s good is legal = waiting_swept g now row x s good is.1 legal.0.2 legal.1.0.2
row_swept g d now row (expired x items) s good is legal = expired_swept g d now row x items s good is.1 legal.0.2 legal.1.0.2
row_swept g d now row (lost x n) s good is legal = absurd (none_lost g s d now row x n is legal)

late_counted : (sweep : RowSweep) (n : Swept) → (counted (outcome_of sweep) n).expired ≡ lates_of sweep + n.expired
unfolding lates_of
late_counted (passed k) n = omega arith
late_counted (given_away x) n = omega arith
late_counted (waiting x) n = omega arith
late_counted (expired x items) n = omega arith
late_counted (lost x k) n = omega arith

wait_counted : (sweep : RowSweep) (n : Swept) → (counted (outcome_of sweep) n).waiting ≡ waits_of sweep + n.waiting
unfolding waits_of
wait_counted (passed k) n = omega arith
wait_counted (given_away x) n = omega arith
wait_counted (waiting x) n = omega arith
wait_counted (expired x items) n = omega arith
wait_counted (lost x k) n = omega arith

lost_counted : (g : Layout) (s : State) (d now row : ℕ) (sweep : RowSweep) (n : Swept) → IsRowSweep now sweep → IsLegalFrom g s (entries_of d (row_sweep_steps now row sweep))
    → (counted (outcome_of sweep) n).lost ≡ n.lost
lost_counted g s d now row (passed k) n is legal = refl
lost_counted g s d now row (given_away x) n is legal = refl
lost_counted g s d now row (waiting x) n is legal = refl
lost_counted g s d now row (expired x items) n is legal = refl
lost_counted g s d now row (lost x k) n is legal = absurd (none_lost g s d now row x k is legal)

-- what the sweeps of the rows from one on leave
pub record SweptAll (now row : ℕ) (s t : State) (n : Swept) : Type 0 where
  pub bookings : standings_of t ≡ map (swept_from now row) (standings_of s)
  pub expired : n.expired ≡ count_by (late_from now row) (standings_of s)
  pub lost : n.lost ≡ 0
  pub waiting : n.waiting ≡ count_by (waits_from now row) (standings_of s)
  pub kept : kept_of t ≡ kept_of s
  pub settled : IsSettled s → IsSettled t

none_counted : (p : Standing → Bool) (xs : List Standing) → AllByRecursion (λ x. p x ≡ false) xs → count_by p xs ≡ 0
none_counted p [] none = refl
none_counted p (x ∷ xs) none = count_more p x xs ∙ (ap (λ (t : Bool). one_if t + count_by p xs) none.0 ∙ (sym (no_more (count_by p xs)) ∙ none_counted p xs none.1))

past_late : (now row : ℕ) (xs : List Standing) → AllByRecursion (λ (x : Standing). x.row.row < row) xs → AllByRecursion (λ x. late_from now row x ≡ false) xs
past_late now row [] below = tt
past_late now row (x ∷ xs) below = (ap (λ (t : Bool). t && is_late now x) (lt-leb row x.row.row below.0), past_late now row xs below.1)

past_waits : (now row : ℕ) (xs : List Standing) → AllByRecursion (λ (x : Standing). x.row.row < row) xs → AllByRecursion (λ x. waits_from now row x ≡ false) xs
past_waits now row [] below = tt
past_waits now row (x ∷ xs) below = (ap (λ (t : Bool). t && is_waiting now x) (lt-leb row x.row.row below.0), past_waits now row xs below.1)

past_swept : (now row : ℕ) (xs : List Standing) → AllByRecursion (λ (x : Standing). x.row.row < row) xs → map (swept_from now row) xs ≡ xs
past_swept now row [] below = refl
past_swept now row (x ∷ xs) below =
    ap (λ (t : Bool). cond t (swept_one now x) x ∷ map (swept_from now row) xs) (lt-leb row x.row.row below.0)
    ∙ ap (λ (l : List Standing). x ∷ l) (past_swept now row xs below.1)

pub rows_swept : (g : Layout) (d now : ℕ) (sweeps : List RowSweep) (row : ℕ) (s : State) → IsWellFormed g s → AllByRecursion (IsRowSweep now) sweeps
    → IsLegalFrom g s (entries_of d (sweeps_steps now row sweeps))
    → AllByRecursion (λ (x : Standing). x.row.row < row + length sweeps) (standings_of (after_steps s d (sweeps_steps now row sweeps)))
    → SweptAll now row s (after_steps s d (sweeps_steps now row sweeps)) (counts_of sweeps)
rows_swept g d now [] row s good each legal below =
    let past = All-map (λ (x : Standing) (l : x.row.row < row + 0). let m : x.row.row < row = omega (arith, l) in m) (standings_of s) below in
    record {
      bookings = sym (past_swept now row (standings_of s) past);
      expired = sym (none_counted (late_from now row) (standings_of s) (past_late now row (standings_of s) past));
      lost = refl;
      waiting = sym (none_counted (waits_from now row) (standings_of s) (past_waits now row (standings_of s) past));
      kept = refl;
      settled = λ is. is;
    }
rows_swept g d now (x ∷ rest) row s good each legal below =
    let first = row_sweep_steps now row x in
    let more = sweeps_steps now (suc row) rest in
    let both : IsLegalFrom g s (entries_of d first ++ entries_of d more) = subst (IsLegalFrom g s) (map-append (entry d) first more) legal in
    let mine = legal_left g s (entries_of d first) (entries_of d more) both in
    let mid = after_steps s d first in
    let n = counts_of rest in
    let end : after_steps s d (first ++ more) ≡ after_steps mid d more =
    ap (state_after s) (map-append (entry d) first more) ∙ state-append s (entries_of d first) (entries_of d more) in
    let under = All-map (λ (y : Standing) (l : y.row.row < row + suc (length rest)). let m : y.row.row < suc row + length rest = omega (arith, l) in m)
    (standings_of (after_steps mid d more))
    (subst (λ (t : State). AllByRecursion (λ (y : Standing). y.row.row < row + suc (length rest)) (standings_of t)) end below) in
    let later = rows_swept g d now rest (suc row) mid (WellFormed-history g s (entries_of d first) good mine) each.1
    (legal_right g s (entries_of d first) (entries_of d more) both) under in
    let here = row_swept g d now row x s good each.0 mine in
    subst (λ (t : State). SweptAll now row s t (counts_of (x ∷ rest))) (sym end)
    (record {
      bookings = later.bookings ∙ here.bookings;
      expired = late_counted x n ∙ (ap (λ (k : ℕ). lates_of x + k) later.expired ∙ sym here.late);
      lost = lost_counted g s d now row x n each.0 mine ∙ later.lost;
      waiting = wait_counted x n ∙ (ap (λ (k : ℕ). waits_of x + k) later.waiting ∙ sym here.wait);
      kept = later.kept ∙ here.kept;
      settled = λ is. later.settled (here.settled is);
    })

-- from the first row on: all

pub all_swept : (now : ℕ) (xs : List Standing) → map (swept_from now 0) xs ≡ map (swept_one now) xs
all_swept now [] = refl
all_swept now (x ∷ xs) =
    ap (λ (t : Bool). cond t (swept_one now x) x ∷ map (swept_from now 0) xs) (le-leb 0 x.row.row (omega arith))
    ∙ ap (λ (l : List Standing). swept_one now x ∷ l) (all_swept now xs)

all_late : (now : ℕ) (xs : List Standing) → Agree (late_from now 0) (is_late now) xs
all_late now [] = tt
all_late now (x ∷ xs) = (ap (λ (t : Bool). t && is_late now x) (le-leb 0 x.row.row (omega arith)), all_late now xs)

all_wait : (now : ℕ) (xs : List Standing) → Agree (waits_from now 0) (is_waiting now) xs
all_wait now [] = tt
all_wait now (x ∷ xs) = (ap (λ (t : Bool). t && is_waiting now x) (le-leb 0 x.row.row (omega arith)), all_wait now xs)

pub late_counts : (now : ℕ) (xs : List Standing) → count_by (late_from now 0) xs ≡ count_by (is_late now) xs
late_counts now xs = count_agree (late_from now 0) (is_late now) xs (all_late now xs)

pub wait_counts : (now : ℕ) (xs : List Standing) → count_by (waits_from now 0) xs ≡ count_by (is_waiting now) xs
wait_counts now xs = count_agree (waits_from now 0) (is_waiting now) xs (all_wait now xs)

-- Looks at rows that are taken.
use Rattle.std.proofs.Common.{◌≡◌, ◌≢◌, ⊎_elim, ℕ, suc, ◌+◌, ◌<◌, ◌≤◌, List, [], ◌∷◌, ◌++◌, length, Option, Some, None, sym, ap, ◌∙◌, refl, subst, arith, length-append}
use Rattle.std.proofs.lemmas.Bool.{cases_eq, lt-ltb, false_from_ne_true, ltb-true}
use Rattle.history_model.specs.declared.phase.Phase.{Phase}
use Rattle.history_model.specs.declared.phase.Phase.TheVariants.{Free, Making, Prebooked, Confirmed, Fulfilled, Ending, Ended}
use Rattle.history_model.specs.declared.entry.Step.{Step}
use Rattle.history_model.specs.declared.entry.Step.TheVariants.{Start, SawRow}
use Rattle.history_model.specs.declared.phase.EndKind.TheVariants.{Release, Expire, Refund, Exchange}
use Rattle.history_model.specs.Phase.{word_of_phase, row_word_of, said_phase, is_ended}
use Rattle.history_model.specs.Booking.{phase_of_row, State}
use Rattle.history_model.specs.History.{state_of}
use Rattle.history_model.specs.Laws.{stage}
use Rattle.rail_ids.specs.declared.RowNo.{RowNo}
use Rattle.rail_ids.specs.Spelling.{last_generation}
use Rattle.history_model.specs.Laws.{IsSound}
use Rattle.history_model.specs.Allows.{IsNoRowWord}
use Rattle.history_model.proofs.Generations.{and_both}
use Rattle.history_model.proofs.Owners.{phase_some, taken_stays}
use Rattle.history_model.proofs.Ranges.{all_found}
use Rattle.history_model.proofs.PhaseWords.{said_none, said_found}
use Rattle.history_model.proofs.Writing.{word_in}
use Rattle.claim_rule.proofs.Moves.{is_sound}
use Rattle.claim_rule.specs.Rule.{DeskView}
use Rattle.std.specs.Option.{option_map_or}
use Rattle.history_model.specs.Booking.{Booking, present}
use Rattle.claim_rule.specs.Holds.{HoldView, StandsFor, empty_hold}
use Rattle.claim_rule.specs.Desks.{AddsSteps, Stepped, AreTaken}
use Rattle.claim_rule.proofs.Shapes.{step_shape, shape_then, shape_rest, shape_none}
use Rattle.claim_rule.proofs.Reading.{saw}
use Rattle.std.specs.List.{AllByRecursion}
use Rattle.booking_rows.specs.Starts.{row_looks, AllSome, Misses, misses_steps, AreMissesFrom, IsLeastFree, IsFull, MakesNone, StartsHold, StartsAgain, StartsNone, Finds, FindsAgain, first_of, is_startable, Passed, IsPassed, Passes, Restarts, passed_steps, search_steps, IsNextOf, HasNext, LearnsFull}
use Rattle.std.specs.Prelude.{IsSome, option_map}
use Rattle.std.proofs.Common.{◌-◌, ◌*◌, ◌/◌, ◌%◌, ◌&&◌, nat_lt, Bool, true, false, not, ne_eqb, inl, inr, append-nil, append_assoc}
use Rattle.history_model.specs.Booking.{Layout}
use Rattle.history_model.specs.Allowed.{IsAllowedStep, IsBeingEndedBy, IsMadeBy}
use Rattle.history_model.specs.History.{IsLegal}
use Rattle.history_model.specs.History.{entry, own}
use Rattle.history_model.proofs.Keeping.{found}
use Rattle.history_model.proofs.Owners.{firm_ending, on_row}
use Rattle.history_model.proofs.Seen.{legal-rest}
use Rattle.claim_rule.specs.Desks.{AddsAtMost, IsOf}
use Rattle.claim_rule.specs.Rule.{BooksView}
use Rattle.std.proofs.Common.{IfSome}
use Rattle.claim_rule.specs.Calls.{AddsStepsBy}
use Rattle.claim_rule.specs.Holds.{IsHoldOf}
use Rattle.claim_rule.specs.Endings.{EndingView}
use Rattle.claim_rule.specs.Out.{EndsRow, IsHolding, HoldsNone, IsEnding, KeepsHolds, KeepsEndings}
use Rattle.claim_rule.proofs.Holding.{legal_before, own_before}
use Rattle.claim_rule.proofs.Out.{looks_holds, looks_endings, started_only, keeps_endings}
use Rattle.claim_rule.proofs.Shapes.{adds_length, shape_kept, stands_past}

-- a row that isn't free stays so
pub stage_on : (st : Step) (old new : DeskView) (r : ℕ) → IsLegal old.layout old.seen → Stepped st old new → 1 ≤ stage (phase_of_row (state_of old.layout old.seen) r) → 1 ≤ stage (phase_of_row (state_of new.layout new.seen) r)
stage_on st old new r legal did was =
    let x = shape_rest old new (st ∷ []) (step_shape st old new did) in
    let up = taken_stays old.layout (state_of old.layout old.seen) (step_shape st old new did).front.0 r (is_sound old.layout old.seen legal) x.0 was in
    subst (λ (s : State). 1 ≤ stage (phase_of_row s r)) (sym x.2) up

pub taken_now : (r n : ℕ) (old new : DeskView) → n ≢ 0 → Stepped (SawRow r 0 n) old new → 1 ≤ stage (phase_of_row (state_of new.layout new.seen) r)
taken_now r n old new some did = go (present s r) refl
  where
    s : State
    s = state_of new.layout new.seen

    go : (o : Option Booking) → present s r ≡ o → 1 ≤ stage (option_map_or (λ (b : Booking). b.phase) (present s r) Free)
    go None e = absurd (some (saw r 0 n old new did ∙ ap (word_in 0) e))
    go (Some b) e =
        let sound = all_found (IsSound new.layout) s r b (is_sound new.layout new.seen did.legal).each e in
        subst (λ (o : Option Booking). 1 ≤ stage (option_map_or (λ (b : Booking). b.phase) o Free)) (sym e) (phase_some b.phase sound.started)

pub record SeenTaken (old desk : DeskView) (row : ℕ) : Type 0 where
  pub shown : List ℕ
  pub many : old.past + length shown ≡ row
  pub some : AllSome shown
  pub seen : AddsSteps old desk (row_looks old.past shown)
  pub taken : (r : ℕ) → r < row → 1 ≤ stage (phase_of_row (state_of desk.layout desk.seen) r)

all_more : (ns : List ℕ) (n : ℕ) → AllSome ns → n ≢ 0 → AllSome (ns ++ n ∷ [])
all_more [] n h k = (k, tt)
all_more (x ∷ xs) n h k = (h.0, all_more xs n h.1 k)

looks_more : (row n : ℕ) (ns : List ℕ) → row_looks row (ns ++ n ∷ []) ≡ row_looks row ns ++ SawRow (row + length ns) 0 n ∷ []
looks_more row n [] = ap (λ (k : ℕ). SawRow k 0 n ∷ []) (let e : row ≡ row + 0 = omega arith in e)
looks_more row n (x ∷ xs) = ap (λ l. SawRow row 0 x ∷ l) (looks_more (suc row) n xs ∙ ap (λ (k : ℕ). row_looks (suc row) xs ++ SawRow k 0 n ∷ []) (let e : suc row + length xs ≡ row + suc (length xs) = omega arith in e))

pub taken_none : (old : DeskView) → AddsSteps old old [] → ((r : ℕ) → r < old.past → 1 ≤ stage (phase_of_row (state_of old.layout old.seen) r)) → SeenTaken old old old.past
taken_none old none taken = record { shown = []; many = omega arith; some = tt; seen = none; taken = taken }

pub taken_more : (old a b : DeskView) (row n : ℕ) → SeenTaken old a row → n ≢ 0 → Stepped (SawRow row 0 n) a b → SeenTaken old b (row + 1)
taken_more old a b row n so some did = record {
  shown = so.shown ++ n ∷ [];
  many = ap (λ (k : ℕ). old.past + k) (length-append so.shown (n ∷ [])) ∙ one_more old.past (length so.shown) row so.many;
  some = all_more so.shown n so.some some;
  seen = subst (AddsSteps old b) (ap (λ (k : ℕ). row_looks old.past so.shown ++ SawRow k 0 n ∷ []) (sym so.many) ∙ sym (looks_more old.past n so.shown))
      (shape_then old a b (row_looks old.past so.shown) (SawRow row 0 n ∷ []) so.seen (step_shape (SawRow row 0 n) a b did));
  taken = λ r l. ⊎_elim
      (λ (here : r ≡ row). subst (λ (k : ℕ). 1 ≤ stage (phase_of_row (state_of b.layout b.seen) k)) (sym here) (taken_now row n a b some did))
      (λ (other : r ≡ row → ⊥). stage_on (SawRow row 0 n) a b r so.seen.legal did (so.taken r (less r row l other)))
      (cases_eq r row);
}
  where
    one_more : (p l row : ℕ) → p + l ≡ row → p + (l + 1) ≡ row + 1
    one_more p l row e = omega (arith, e)

    less : (r row : ℕ) → r < row + 1 → (r ≡ row → ⊥) → r < row
    less r row l other = ⊎_elim (λ (e : r ≡ row). absurd (other e)) (λ (n : r ≡ row → ⊥). omega (arith, l, n)) (cases_eq r row)

-- a row that was started isn't free
pub started_taken : (old a b : DeskView) (row : ℕ) → SeenTaken old a row → Stepped (Start row 0) a b → (hold : HoldView) → hold ≡ empty_hold (first_of row) → StandsFor b hold → (r : ℕ) → r < row + 1 → 1 ≤ stage (phase_of_row (state_of b.layout b.seen) r)
started_taken old a b row so did hold is stands r l = ⊎_elim
    (λ (here : r ≡ row). let s : StandsFor b (empty_hold (first_of row)) = subst (StandsFor b) is stands in
    subst (λ (n : ℕ). 1 ≤ n) (sym (ap (λ (o : Option Booking). stage (option_map_or (λ b. b.phase) o Free)) (ap (present (state_of b.layout b.seen)) here ∙ s.found) ∙ ap stage s.making)) (omega arith))
    (λ (other : r ≡ row → ⊥). stage_on (Start row 0) a b r so.seen.legal did (so.taken r (less r row l other)))
    (cases_eq r row)
  where
    less : (r row : ℕ) → r < row + 1 → (r ≡ row → ⊥) → r < row
    less r row l other = ⊎_elim (λ (e : r ≡ row). absurd (other e)) (λ (n : r ≡ row → ⊥). omega (arith, l, n)) (cases_eq r row)

-- the desk's hold and ending, after a look and after a start

pub read_holds : (r w n : ℕ) (old new : DeskView) → Stepped (SawRow r w n) old new → KeepsHolds old new
read_holds r w n old new did = looks_holds old new (SawRow r w n ∷ []) (step_shape (SawRow r w n) old new did) did.same.5 (refl, tt)

pub read_endings : (r w n : ℕ) (old new : DeskView) → Stepped (SawRow r w n) old new → KeepsEndings old new
read_endings r w n old new did = looks_endings old new (SawRow r w n ∷ []) (step_shape (SawRow r w n) old new did) (refl, tt)

pub started_holding : (row : RowNo) (old new : DeskView) (hold : HoldView) → old.kept ≡ None → HoldsNone old → Stepped (Start row.row row.generation) old new → IsHoldOf new hold → hold ≡ empty_hold row → IsHolding new hold
started_holding row old new hold kept none did of is = record { of = of; only = λ q m. started_only row.row row.generation old new kept none did q m ∙ sym (ap (λ (h : HoldView). h.row.row) is) }

-- the row that is started isn't one that the desk ends
started_apart : (r j q : ℕ) (old new : DeskView) → Stepped (Start r j) old new → EndsRow old q → r ≡ q → ⊥
started_apart r j q old new did on same =
    let h = old.seen ++ did.between in
    let may : IsAllowedStep old.layout (state_of old.layout h) old.number (Start r j) = (legal-rest old.layout h (entry old.number (Start r j) ∷ []) (legal_before (Start r j) old new did)).0 in
    let n = found (present (state_of old.layout old.seen) q) (IsBeingEndedBy old.number) on in
    let there = ap (present (state_of old.layout h)) same ∙ own_before (Start r j) old new did q n.0 n.1 n.2.1.1 (firm_ending n.0.phase n.2.0 n.2.1.0) in
    ⊎_elim
    (λ free. let no : ◌≡◌ {A = Option Booking} None (Some n.0) = sym free.1 ∙ there in cc)
    (λ again.
    let b = found (present (state_of old.layout h) r) (λ b. (is_ended b.phase ≡ true) × (j ≡ b.generation + 1)) again.1 in
    let is : b.0 ≡ n.0 = some_same b.0 n.0 (sym b.1 ∙ there) in
    let no : false ≡ true = sym (ap is_ended n.2.1.0) ∙ (ap (λ (y : Booking). is_ended y.phase) (sym is) ∙ b.2.0) in
    cc)
    may.1
  where
    some_same : (y z : Booking) → Some y ≡ Some z → y ≡ z
    some_same y z e = cc

pub started_endings : (r j : ℕ) (old new : DeskView) → Stepped (Start r j) old new → KeepsEndings old new
started_endings r j old new did = keeps_endings old new (Start r j ∷ []) (step_shape (Start r j) old new did) (λ q e. (ap not (ne_eqb r q (started_apart r j q old new did e)), tt)) (λ q. (refl, tt))

-- which row a desk keeps, and how far it knows the rows, is nothing to its ending and its hold

ending_beside : (desk : DeskView) (o : Option RowNo) (p : ℕ) (e : EndingView) → IsEnding desk e → IsEnding (record desk { kept = o; past = p }) e
ending_beside desk o p e is = record {
  of = record { booking = is.of.booking; found = is.of.found; generation = is.of.generation; owner = is.of.owner; phase = is.of.phase; end = is.of.end; row = is.of.row; few = is.of.few; fresh = is.of.fresh; items = is.of.items; within = is.of.within };
  only = is.only;
}

pub endings_beside : (old new : DeskView) (o : Option RowNo) (p : ℕ) → KeepsEndings old new → KeepsEndings old (record new { kept = o; past = p })
endings_beside old new o p k = record { ending = λ e is. ending_beside new o p e (k.ending e is); none = k.none }

pub holding_past : (desk : DeskView) (hold : HoldView) (n : ℕ) → IsHolding desk hold → IsHolding (record desk { past = n }) hold
holding_past desk hold n is = record { of = (stands_past desk hold n is.of.0, is.of.1); only = is.only }

-- a kept row that was put by
pub kept_none : (desk : DeskView) (hold : HoldView) → IsHolding desk hold → HoldsNone (record desk { kept = Some hold.row })
kept_none desk hold is r m = ap Some (sym (is.only r m))

-- misses, from the words shown

abbrev misses_of : ℕ → List ℕ → Misses
misses_of row [] = []
misses_of row (n ∷ ns) = (row, n) ∷ misses_of (suc row) ns

steps_of : (row : ℕ) (ns : List ℕ) → row_looks row ns ≡ misses_steps (misses_of row ns)
steps_of row [] = refl
steps_of row (n ∷ ns) = ap (λ l. SawRow row 0 n ∷ l) (steps_of (suc row) ns)

are_misses : (from row last : ℕ) (ns : List ℕ) → from ≤ row → row + length ns ≤ last → AllSome ns → AreMissesFrom from last (misses_of row ns)
are_misses from row last [] l m some = tt
are_misses from row last (n ∷ ns) l m some = (l, omega arith, some.0, are_misses (row + 1) (suc row) last ns (omega arith) (omega arith) some.1)

phase_there : (o : Option Booking) → 1 ≤ stage (option_map_or (λ (b : Booking). b.phase) o Free) → IsSome o
phase_there None l = absurd (omega arith)
phase_there (Some b) l = refl

least_free : (desk : DeskView) (row : ℕ) → ((r : ℕ) → r < desk.past → 1 ≤ stage (phase_of_row (state_of desk.layout desk.seen) r)) → row ≤ desk.past → IsLeastFree (state_of desk.layout desk.seen) row
least_free desk row taken l lower m = phase_there (present (state_of desk.layout desk.seen) lower) (taken lower (omega arith))

makes_none : (desk : DeskView) → HoldsNone desk → desk.kept ≡ None → MakesNone desk
makes_none desk none kept r m = let no : ◌≡◌ {A = Option ℕ} None (Some r) = sym (ap (option_map (λ (k : RowNo). k.row)) kept) ∙ none r m in cc

length-looks : (row : ℕ) (ns : List ℕ) → length (row_looks row ns) ≡ length ns
length-looks row [] = refl
length-looks row (n ∷ ns) = ap suc (length-looks (suc row) ns)

-- a search for a free row that found one
pub found_entries : (old new : DeskView) (hold : HoldView) → HoldsNone old → old.kept ≡ None → AreTaken new new.past → Finds old new (Some hold) → AddsStepsBy (StartsHold old new (Some hold.row)) old new
found_entries old new hold none kept taken f =
    let ns = f.4.0 in
    let misses = misses_of old.past ns in (
      misses_steps misses ++ Start hold.row.row 0 ∷ [],
      inr (inl (
        makes_none old none kept,
        f.2,
        least_free new hold.row.row taken (subst (λ (n : ℕ). hold.row.row ≤ n) (sym f.3) (more hold.row.row)),
        (misses, are_misses old.past old.past hold.row.row ns (omega arith) (same_le (old.past + length ns) hold.row.row f.4.1) f.4.2, refl),
      )),
      subst (λ (l : List Step). AddsSteps old new (l ++ Start hold.row.row 0 ∷ [])) (steps_of old.past ns) f.4.3,
    )
  where
    more : (n : ℕ) → n ≤ n + 1
    more n = omega arith

    same_le : (a b : ℕ) → a ≡ b → a ≤ b
    same_le a b e = omega arith

-- a search for a free row that found none, and then one for an ended booking
pub again_entries : (old mid new : DeskView) (result : Option HoldView) → HoldsNone old → old.kept ≡ None → AreTaken new new.past → mid.layout ≡ old.layout → new.layout ≡ old.layout → Finds old mid None → FindsAgain mid new result
    → AddsStepsBy (StartsHold old new (option_map (λ (h : HoldView). h.row) result)) old new
again_entries old mid new result none kept taken front layout f g =
    let ns = f.2.0 in
    let misses = misses_of old.past ns in
    let rows : new.layout.rows ≡ old.layout.rows = ap (λ (l : Layout). l.rows) layout in
    let all : AreMissesFrom old.past new.layout.rows misses = are_misses old.past old.past new.layout.rows ns (omega arith) (le_sum (old.past + length ns) old.layout.rows new.layout.rows f.2.1 rows) f.2.2 in
    let first : AddsSteps old mid (misses_steps misses) = subst (AddsSteps old mid) (steps_of old.past ns) f.2.3 in
    ends misses all first result g
  where
    le_of : (a b c d : ℕ) → a ≡ b → d ≡ b → c ≡ d → a ≤ c
    le_of a b c d e f g = omega arith

    le_sum : (a b c : ℕ) → a ≡ b → c ≡ b → a ≤ c
    le_sum a b c e f = omega arith

    full : new.past ≡ mid.past → IsFull new
    full e = least_free new new.layout.rows taken (le_of new.layout.rows old.layout.rows new.past mid.past (ap (λ (l : Layout). l.rows) layout) f.1 e)

    ends : (misses : Misses) → AreMissesFrom old.past new.layout.rows misses → AddsSteps old mid (misses_steps misses) → (result : Option HoldView) → FindsAgain mid new result → AddsStepsBy (StartsHold old new (option_map (λ (h : HoldView). h.row) result)) old new
    ends misses all first (Some hold) g = (
      misses_steps misses ++ g.3.0,
      inr (inr (makes_none old none kept, full g.2, (misses, g.3.0, all, g.3.1, refl))),
      shape_then old mid new (misses_steps misses) g.3.0 first g.3.2,
    )
    ends misses all first None g = (
      misses_steps misses ++ g.2.0,
      (makes_none old none kept, full g.1, (misses, g.2.0, all, subst (λ (n : ℕ). StartsNone n g.2.0) (ap (λ (l : Layout). l.rows) front ∙ sym (ap (λ (l : Layout). l.rows) layout)) g.2.1, refl)),
      shape_then old mid new (misses_steps misses) g.2.0 first g.2.2,
    )

-- as many entries as rows that the desk then knows to be taken
pub found_bound : (old new : DeskView) (result : Option HoldView) → Finds old new result → AddsAtMost (new.past - old.past) old new
found_bound old new (Some hold) f =
    adds_length old new (row_looks old.past f.4.0 ++ Start hold.row.row 0 ∷ []) (new.past - old.past) f.4.3
    (few (length (row_looks old.past f.4.0 ++ Start hold.row.row 0 ∷ [])) (length f.4.0) old.past new.past hold.row.row (length-append (row_looks old.past f.4.0) (Start hold.row.row 0 ∷ []) ∙ ap (λ (n : ℕ). n + 1) (length-looks old.past f.4.0)) f.4.1 f.3)
  where
    few : (l n p q row : ℕ) → l ≡ n + 1 → p + n ≡ row → q ≡ row + 1 → l ≤ q - p
    few l n p q row a b c = omega arith
found_bound old new None f =
    adds_length old new (row_looks old.past f.2.0) (new.past - old.past) f.2.3 (few (length (row_looks old.past f.2.0)) (length f.2.0) old.past new.past old.layout.rows (length-looks old.past f.2.0) f.2.1 f.1)
  where
    few : (l n p q rows : ℕ) → l ≡ n → p + n ≡ rows → q ≡ rows → l ≤ q - p
    few l n p q rows a b c = omega arith

-- at most two entries for each row of the second search

search_few : (row : ℕ) (ps : List Passed) → length (search_steps row ps) ≤ 2 * length ps
search_few row [] = omega arith
search_few row ((n, None) ∷ ps) = let l = search_few (suc row) ps in omega (arith, l)
search_few row ((n, Some m) ∷ ps) = let l = search_few (suc row) ps in omega (arith, l)

pub again_bound : (old new : DeskView) (result : Option HoldView) → new.layout ≡ old.layout → FindsAgain old new result → AddsAtMost (2 * old.layout.rows) old new
again_bound old new (Some hold) layout f =
    let again = f.3.1 in
    let ps = again.3.0 in
    let last : List Step = SawRow hold.row.row 0 again.0 ∷ Start hold.row.row hold.row.generation ∷ [] in
    adds_length old new f.3.0 (2 * old.layout.rows) f.3.2
    (few (length f.3.0) (length (search_steps 0 ps)) (length ps) hold.row.row old.layout.rows (ap length again.3.3 ∙ length-append (search_steps 0 ps) last) (search_few 0 ps) again.3.1
    (subst (λ (l : Layout). hold.row.row < l.rows) layout f.0.of.0.row))
  where
    few : (all search many row rows : ℕ) → all ≡ search + 2 → search ≤ 2 * many → many ≡ row → row < rows → all ≤ 2 * rows
    few all search many row rows a b c d = omega (arith, a, b, c, d)
again_bound old new None layout f =
    let none = f.2.1 in
    adds_length old new f.2.0 (2 * old.layout.rows) f.2.2 (few (length f.2.0) (length none.0) old.layout.rows (subst (λ (n : ℕ). n ≤ 2 * length none.0) (sym (ap length none.3)) (search_few 0 none.0)) none.1)
  where
    few : (all many rows : ℕ) → all ≤ 2 * many → many ≡ rows → all ≤ 2 * rows
    few all many rows a b = omega (arith, a, b)

pub within_rows : (old new : DeskView) (p q rows : ℕ) → AddsAtMost (q - p) old new → q ≤ rows → AddsAtMost (3 * rows) old new
within_rows old new p q rows a l = omega arith

pub within_both : (old mid new : DeskView) (p q rows : ℕ) → mid.number ≡ old.number → AddsAtMost (q - p) old mid → q ≤ rows → AddsAtMost (2 * rows) mid new → AddsAtMost (3 * rows) old new
within_both old mid new p q rows same a l b = let c = subst (λ (n : ℕ). length (own new.seen n) ≤ length (own mid.seen n) + 2 * rows) same b in omega (arith, a, l, c)

-- a kept row is taken back without an entry
pub kept_entries : (books : BooksView) (old : DeskView) (row : RowNo) → IsOf books old → old.kept ≡ Some row → AddsStepsBy (StartsHold old (record old { kept = None }) (Some row)) old (record old { kept = None })
kept_entries books old row of kept = (
  [],
  inl (
    (let is : StandsFor old (empty_hold row) = subst (λ (o : Option RowNo). IfSome o (λ r. StandsFor old (empty_hold r))) kept of.kept in
        on_row (state_of old.layout old.seen) row.row is.booking (λ b. IsMadeBy old.number b × (b.generation ≡ row.generation)) is.found ((is.making, is.owner), is.generation)),
    refl,
  ),
  shape_kept old old [] None (shape_none old of.legal),
)

-- rows that the second search passed

pub record SeenPassed (old desk : DeskView) (row : ℕ) : Type 0 where
  pub passed : List Passed
  pub many : length passed ≡ row
  pub all : AllByRecursion IsPassed passed
  pub seen : AddsSteps old desk (search_steps 0 passed)

pub passed_none : (old : DeskView) → IsLegal old.layout old.seen → SeenPassed old old 0
passed_none old legal = record { passed = []; many = refl; all = tt; seen = shape_none old legal }

all_passed : (ps : List Passed) (p : Passed) → AllByRecursion IsPassed ps → IsPassed p → AllByRecursion IsPassed (ps ++ p ∷ [])
all_passed [] p all is = (is, tt)
all_passed (x ∷ xs) p all is = (all.0, all_passed xs p all.1 is)

search_more : (row : ℕ) (ps : List Passed) (p : Passed) → search_steps row (ps ++ p ∷ []) ≡ search_steps row ps ++ passed_steps (row + length ps) p
search_more row [] p = append-nil (passed_steps row p) ∙ ap (λ (k : ℕ). passed_steps k p) (let e : row ≡ row + 0 = omega arith in e)
search_more row (x ∷ xs) p =
    ap (λ l. passed_steps row x ++ l) (search_more (suc row) xs p ∙ ap (λ (k : ℕ). search_steps (suc row) xs ++ passed_steps k p) (let e : suc row + length xs ≡ row + suc (length xs) = omega arith in e))
    ∙ sym (append_assoc (passed_steps row x) (search_steps (suc row) xs) (passed_steps (row + suc (length xs)) p))

pub passed_more : (old a b : DeskView) (row : ℕ) → SeenPassed old a row → Passes row a b → SeenPassed old b (row + 1)
passed_more old a b row so more = record {
  passed = so.passed ++ more.0 ∷ [];
  many = length-append so.passed (more.0 ∷ []) ∙ ap (λ (n : ℕ). n + 1) so.many;
  all = all_passed so.passed more.0 so.all more.1;
  seen = subst (AddsSteps old b) (ap (λ (k : ℕ). search_steps 0 so.passed ++ passed_steps k more.0) (at row (length so.passed) so.many) ∙ sym (search_more 0 so.passed more.0))
      (shape_then old a b (search_steps 0 so.passed) (passed_steps row more.0) so.seen more.2);
}
  where
    at : (row n : ℕ) → n ≡ row → row ≡ 0 + n
    at row n e = omega (arith, e)

pub started_again : (old a b : DeskView) (row : ℕ) (started : RowNo) → SeenPassed old a row → Restarts row started a b → AddsStepsBy (StartsAgain started) old b
started_again old a b row started so it =
    let n = it.0 in
    let here : row ≡ started.row = sym (ap (λ (r : RowNo). r.row) it.2) in (
      search_steps 0 so.passed ++ SawRow started.row 0 n ∷ Start started.row started.generation ∷ [],
      (n, it.1, ap (λ (r : RowNo). r.generation) it.2, (so.passed, so.many ∙ here, so.all, refl)),
      subst (λ (r : ℕ). AddsSteps old b (search_steps 0 so.passed ++ SawRow r 0 n ∷ Start r started.generation ∷ [])) here
          (shape_then old a b (search_steps 0 so.passed) (SawRow row 0 n ∷ Start row started.generation ∷ []) so.seen it.3),
    )

-- a row that is started again, and one that was another's by the time it was tried

pub restarted : (row generation n : ℕ) (old mid new : DeskView) (hold : HoldView) → old.kept ≡ None → HoldsNone old → Stepped (SawRow row 0 n) old mid → IsNextOf n generation → Stepped (Start row generation) mid new
    → IsHoldOf new hold → hold ≡ empty_hold (record { row = row; generation = generation }) → HasNext row old new hold
restarted row generation n old mid new hold kept none look next did of is =
    let started : RowNo = record { row = row; generation = generation } in
    let row_is : hold.row ≡ started = ap (λ (h : HoldView). h.row) is in
    let both = shape_then old mid new (SawRow row 0 n ∷ []) (Start row generation ∷ []) (step_shape (SawRow row 0 n) old mid look) (step_shape (Start row generation) mid new did) in (
      (
        n,
        next.0,
        row_is ∙ ap (λ (g : ℕ). record { row = row; generation = g }) next.1,
        subst (λ (g : ℕ). AddsSteps old new (SawRow row 0 n ∷ Start row g ∷ [])) (sym (ap (λ (r : RowNo). r.generation) row_is)) both,
      ),
      started_holding started mid new hold (look.same.5 ∙ kept) ((read_holds row 0 n old mid look).none none) did of is,
      is ∙ ap empty_hold (sym row_is),
    )

pub missed_again : (row n m : ℕ) (old mid new : DeskView) → HoldsNone old → is_startable n ≡ true → Stepped (SawRow row 0 n) old mid → Stepped (SawRow row 0 m) mid new → m ≢ n → Passes row old new × HoldsNone new
missed_again row n m old mid new none may look again other = (
  ((n, Some m), (may, other), shape_then old mid new (SawRow row 0 n ∷ []) (SawRow row 0 m ∷ []) (step_shape (SawRow row 0 n) old mid look) (step_shape (SawRow row 0 m) mid new again)),
  (read_holds row 0 m mid new again).none ((read_holds row 0 n old mid look).none none),
)

pub not_tried : (row n : ℕ) (old new : DeskView) → HoldsNone old → is_startable n ≡ false → Stepped (SawRow row 0 n) old new → Passes row old new × HoldsNone new
not_tried row n old new none may_not look = (
  ((n, None), may_not, step_shape (SawRow row 0 n) old new look),
  (read_holds row 0 n old new look).none none,
)

-- what word 0 of a row says of its next generation

small : (ph : Phase) → word_of_phase ph < 16
small Free = omega arith
small Making = omega arith
small Prebooked = omega arith
small Confirmed = omega arith
small Fulfilled = omega arith
small (Ending Release) = omega arith
small (Ending Expire) = omega arith
small (Ending Refund) = omega arith
small (Ending Exchange) = omega arith
small (Ended Release) = omega arith
small (Ended Expire) = omega arith
small (Ended Refund) = omega arith
small (Ended Exchange) = omega arith

parts : (a n word : ℕ) → a < 16 → a + 16 * n ≡ word → (word / 16 ≡ n) × (word % 16 ≡ a)
parts a n word l e = (omega (arith, l, e), omega (arith, l, e))

said : (ph : Phase) (n word : ℕ) → row_word_of ph n ≡ word → (word / 16 ≡ n) × (said_phase (word % 16) ≡ ph)
said ph n word e =
    let p = parts (word_of_phase ph) n word (small ph) e in
    (p.0, sym (said_found (word % 16) ph (sym p.1)))

pub startable : (ph : Phase) (n word : ℕ) → row_word_of ph n ≡ word → is_ended ph ≡ true → n < last_generation → (is_startable word ≡ true) × (n ≡ word / 16)
startable ph n word e ended low =
    let s = said ph n word e in
    ((λ i. is_ended (s.1 i) && nat_lt (s.0 i) last_generation) ∙ (ap (λ (t : Bool). t && nat_lt n last_generation) ended ∙ lt-ltb n last_generation low), sym s.0)

not_below : (n m : ℕ) → m ≤ n → nat_lt n m ≡ false
not_below n m high = false_from_ne_true (nat_lt n m) (λ t. let low = ltb-true n m t in omega (arith, high, low))

pub past_last : (ph : Phase) (n word : ℕ) → row_word_of ph n ≡ word → last_generation ≤ n → is_startable word ≡ false
past_last ph n word e high =
    let s = said ph n word e in
    ap (λ (k : ℕ). is_ended (said_phase (word % 16)) && nat_lt k last_generation) s.0 ∙ (ap (λ (t : Bool). is_ended (said_phase (word % 16)) && t) (not_below n last_generation high) ∙ and_false (is_ended (said_phase (word % 16))))
  where
    and_false : (t : Bool) → (t && false) ≡ false
    and_false true = refl
    and_false false = refl

-- a number that is no row's word
pub no_word : (word : ℕ) → IsNoRowWord word → is_startable word ≡ false
no_word word none = false_from_ne_true (is_startable word) (λ t.
    let both = and_both (is_ended (said_phase (word % 16))) (nat_lt (word / 16) last_generation) t in
    let low = ltb-true (word / 16) last_generation both.1 in
    let free : Free ≡ said_phase (word % 16) = said_none (word % 16) (λ ph e. none ph (word / 16) (below (word / 16) low) (whole ph e)) in
    let no : false ≡ true = ap is_ended free ∙ both.0 in
    cc)
  where
    below : (n : ℕ) → n < last_generation → n < 4294967296
    below n l = omega (arith, l)

    whole : (ph : Phase) → word_of_phase ph ≡ word % 16 → row_word_of ph (word / 16) ≡ word
    whole ph e = omega (arith, e)

-- a second search, behind one that found no free row, leaves the desk knowing that all are in use
pub learns_full : (old mid new : DeskView) (result : Option HoldView) → mid.layout ≡ old.layout → new.layout ≡ old.layout → Finds old mid None → FindsAgain mid new result → (first : DeskView)
    → LearnsFull first new (option_map (λ (h : HoldView). h.row) result)
learns_full old mid new (Some hold) at to f g first = λ _ _. g.2 ∙ (f.1 ∙ sym (ap (λ (l : Layout). l.rows) to))
learns_full old mid new None at to f g first = g.1 ∙ (f.1 ∙ sym (ap (λ (l : Layout). l.rows) to))

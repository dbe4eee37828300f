-- How a row's present booking stands among all bookings, and what a change of it changes.
use Rattle.std.proofs.Common.{◌≡◌, ◌≢◌, ◌⊎◌, inl, inr, ℕ, ◌≤◌, ◌-◌, Bool, true, false, cond, ne_eqb, eq-eqb, List, [], ◌∷◌, ◌++◌, map, Option, Some, None, refl, sym, ap, ◌∙◌, subst, arith}
use Rattle.std.specs.Prelude.{◌==◌, ◌&&◌, nat_eq, find, option_map}
use Rattle.std.specs.List.{AllByRecursion, filter}
use Rattle.std.specs.Option.{option_or, option_map_or}
use Rattle.std.proofs.lemmas.Bool.{eqb-true, cases_eq}
use Rattle.std.proofs.lemmas.List.Elements.{filter-append}
use Rattle.std.proofs.lemmas.List.Folds.{find-append}
use mathlib.Core.List.{map-append}
use Rattle.rail_ids.specs.declared.RowNo.{RowNo}
use Rattle.history_model.specs.declared.phase.Phase.{Phase}
use Rattle.history_model.specs.declared.phase.Phase.TheVariants.{Free, Making, Prebooked, Confirmed, Fulfilled, Ending, Ended}
use Rattle.history_model.specs.Phase.{is_sealed, phase_shown, row_word_of}
use Rattle.history_model.specs.Lists.{Pairwise}
use Rattle.history_model.specs.Words.{row_word}
use Rattle.history_model.specs.Booking.{Booking, Layout, State, key_of, next_in, next_generation, stands_as, stands_in, present, word_at}
use Rattle.history_model.specs.Laws.{IsWellFormed, IsInRange, AreInRange}
use Rattle.history_model.proofs.ListLemmas.{split, none_passes, Pairwise-right}
use Rattle.history_model.proofs.Generations.{and_both, key_of_test, test_of_key}
use Rattle.history_model.proofs.PhaseWords.{shown_back}
use Rattle.history_model.proofs.Ranges.{all_found}
use Rattle.booking_rows.specs.Views.{RowSeen}
use Rattle.plain_host.specs.Plain.{Standing, is_booking, is_own, replaced}
use Rattle.plain_host.specs.PlainOf.{row_of, view_of, standing_of, standings_of, is_in_making, kept_of}

pub not_true : (t : Bool) → (t ≡ true → ⊥) → t ≡ false
not_true true never = absurd (never refl)
not_true false never = refl

-- none of these is the row's present booking in the state
abbrev pub IsAside : State → ℕ → State → Type 0
IsAside s row xs = AllByRecursion (λ x. stands_in s row x ≡ false) xs

-- a row's present booking, with those before and after it
pub record Stands (s : State) (row : ℕ) (b : Booking) : Type 0 where
  pub before : State
  pub after : State
  pub is : s ≡ before ++ b ∷ after
  pub same : b.row ≡ row
  pub passes : stands_in s row b ≡ true
  pub first : IsAside s row before
  pub last : IsAside s row after

same_key : (s : State) (row : ℕ) (b x : Booking) → stands_in s row b ≡ true → stands_in s row x ≡ true → key_of b ≡ key_of x
same_key s row b x t u =
    let j = key_of_test row (next_generation s row - 1) b t in
    let k = key_of_test row (next_generation s row - 1) x u in
    λ i. ((j.0 ∙ sym k.0) i, (j.1 ∙ sym k.1) i)

aside_after : (s : State) (row : ℕ) (b : Booking) (xs : State) → stands_in s row b ≡ true → AllByRecursion (λ k. key_of b ≢ k) (map key_of xs) → IsAside s row xs
aside_after s row b [] t all = tt
aside_after s row b (x ∷ xs) t all = (not_true (stands_in s row x) (λ u. all.0 (same_key s row b x t u)), aside_after s row b xs t all.1)

pub stands : (g : Layout) (s : State) (row : ℕ) (b : Booking) → IsWellFormed g s → present s row ≡ Some b → Stands s row b
stands g s row b good at =
    let parts = split (stands_in s row) s b at in
    let keys : map key_of s ≡ map key_of parts.before ++ key_of b ∷ map key_of parts.after = ap (map key_of) parts.is ∙ map-append key_of parts.before (b ∷ parts.after) in
    let apart = Pairwise-right (λ (j k : ℕ × ℕ). j ≢ k) (map key_of parts.before) (key_of b ∷ map key_of parts.after)
    (subst (Pairwise (λ (j k : ℕ × ℕ). j ≢ k)) keys good.keys) in
    record {
      before = parts.before;
      after = parts.after;
      is = parts.is;
      same = (key_of_test row (next_generation s row - 1) b parts.passes).0;
      passes = parts.passes;
      first = parts.fails;
      last = aside_after s row b parts.after parts.passes apart.0;
    }

-- the sealed ones of some bookings that pass a test, as a list of standing bookings

abbrev pub standings_by : (Booking → Bool) → State → List Standing
standings_by test xs = map standing_of (filter (λ b. test b && is_sealed b.phase) xs)

-- whether the booking is its row's present one in the state
abbrev pub is_there : State → Booking → Bool
is_there s b = stands_in s b.row b

by_append : (test : Booking → Bool) (xs ys : State) → standings_by test (xs ++ ys) ≡ standings_by test xs ++ standings_by test ys
by_append test xs ys =
    let p : Booking → Bool = λ b. test b && is_sealed b.phase in
    ap (map standing_of) (filter-append p xs ys) ∙ map-append standing_of (filter p xs) (filter p ys)

by_one : (test : Booking → Bool) (b : Booking) (xs : State) (t : Bool) → (test b && is_sealed b.phase) ≡ t
    → standings_by test (b ∷ xs) ≡ map standing_of (cond t (b ∷ filter (λ x. test x && is_sealed x.phase) xs) (filter (λ x. test x && is_sealed x.phase) xs))
by_one test b xs t is = ap (λ (u : Bool). map standing_of (cond u (b ∷ filter (λ x. test x && is_sealed x.phase) xs) (filter (λ x. test x && is_sealed x.phase) xs))) is

pub by_around : (test : Booking → Bool) (before after : State) (b : Booking) → (test b && is_sealed b.phase) ≡ true
    → standings_by test (before ++ b ∷ after) ≡ standings_by test before ++ standing_of b ∷ standings_by test after
by_around test before after b is =
    by_append test before (b ∷ after) ∙ ap (λ (l : List Standing). standings_by test before ++ l) (by_one test b after true is)

pub by_beside : (test : Booking → Bool) (before after : State) (b : Booking) → (test b && is_sealed b.phase) ≡ false
    → standings_by test (before ++ b ∷ after) ≡ standings_by test before ++ standings_by test after
by_beside test before after b is =
    by_append test before (b ∷ after) ∙ ap (λ (l : List Standing). standings_by test before ++ l) (by_one test b after false is)

-- none of them is of the row
abbrev pub AreElsewhere : ℕ → List Standing → Type 0
AreElsewhere row bs = AllByRecursion (λ (x : Standing). (x.row.row == row) ≡ false) bs

pub elsewhere : (s : State) (row : ℕ) (xs : State) → IsAside s row xs → AreElsewhere row (standings_by (is_there s) xs)
elsewhere s row [] aside = tt
elsewhere s row (x ∷ xs) aside = go (is_there s x && is_sealed x.phase) refl (elsewhere s row xs aside.1) where
  other : is_there s x ≡ true → (x.row == row) ≡ true → ⊥
  other t here =
      let u : stands_in s row x ≡ true = subst (λ (r : ℕ). stands_in s r x ≡ true) (eqb-true x.row row here) t in
      let no : true ≡ false = sym u ∙ aside.0 in cc

  go : (t : Bool) → (is_there s x && is_sealed x.phase) ≡ t → AreElsewhere row (standings_by (is_there s) xs)
      → AreElsewhere row (map standing_of (cond t (x ∷ filter (λ y. is_there s y && is_sealed y.phase) xs) (filter (λ y. is_there s y && is_sealed y.phase) xs)))
  go true is rest = (not_true (x.row == row) (other (and_both (is_there s x) (is_sealed x.phase) is).0), rest)
  go false is rest = rest

none_own : (row : RowNo) (retailer : ℕ) (bs : List Standing) → AreElsewhere row.row bs → find (is_own row retailer) bs ≡ None
none_own row retailer [] else = refl
none_own row retailer (x ∷ bs) else =
    ap (λ (t : Bool). cond ((t && (x.row.generation == row.generation)) && (x.view.retailer == retailer)) (Some x) (find (is_own row retailer) bs)) else.0
    ∙ none_own row retailer bs else.1

none_replaced : (row : RowNo) (v : RowSeen) (bs : List Standing) → AreElsewhere row.row bs → map (replaced row v) bs ≡ bs
none_replaced row v [] else = refl
none_replaced row v (x ∷ bs) else =
    ap (λ (t : Bool). cond (t && (x.row.generation == row.generation)) (record { row = x.row; view = v }) x ∷ map (replaced row v) bs) else.0
    ∙ ap (λ (l : List Standing). x ∷ l) (none_replaced row v bs else.1)

-- a retailer's booking

pub there : (s : State) (row : ℕ) (b : Booking) → Stands s row b → is_there s b ≡ true
there s row b st = subst (λ (r : ℕ). stands_in s r b ≡ true) (sym st.same) st.passes

pub both_true : (s t : Bool) → s ≡ true → t ≡ true → (s && t) ≡ true
both_true s t p q = ap (λ (u : Bool). u && t) p ∙ q

pub second_false : (s t : Bool) → t ≡ false → (s && t) ≡ false
second_false true t q = q
second_false false t q = refl

own_around : (row : RowNo) (retailer : ℕ) (os cs : List Standing) (b : Standing) → AreElsewhere row.row os → AreElsewhere row.row cs
    → find (is_own row retailer) (os ++ b ∷ cs) ≡ cond (is_own row retailer b) (Some b) None
own_around row retailer os cs b first last =
    find-append (is_own row retailer) os (b ∷ cs)
    ∙ (ap (λ (o : Option Standing). option_or o (find (is_own row retailer) (b ∷ cs))) (none_own row retailer os first)
    ∙ ap (cond (is_own row retailer b) (Some b)) (none_own row retailer cs last))

found_own : (g : Layout) (s : State) (row : RowNo) (retailer : ℕ) (b : Booking) → IsWellFormed g s → present s row.row ≡ Some b → is_sealed b.phase ≡ true
    → find (is_own row retailer) (standings_of s) ≡ cond (is_own row retailer (standing_of b)) (Some (standing_of b)) None
found_own g s row retailer b good at sealed =
    let st = stands g s row.row b good at in
    ap (find (is_own row retailer))
    (ap (standings_by (is_there s)) st.is ∙ by_around (is_there s) st.before st.after b (both_true (is_there s b) (is_sealed b.phase) (there s row.row b st) sealed))
    ∙ own_around row retailer (standings_by (is_there s) st.before) (standings_by (is_there s) st.after) (standing_of b)
    (elsewhere s row.row st.before st.first) (elsewhere s row.row st.after st.last)

-- it is the one that stands there, where it is of the generation and the retailer's
pub own_is : (g : Layout) (s : State) (row : RowNo) (retailer : ℕ) (b : Booking) → IsWellFormed g s → present s row.row ≡ Some b → b.generation ≡ row.generation → is_sealed b.phase ≡ true
    → word_at b 1 ≡ retailer → option_map (λ (x : Standing). x.view) (find (is_own row retailer) (standings_of s)) ≡ Some (view_of b)
own_is g s row retailer b good at generation sealed mine =
    let st = stands g s row.row b good at in
    let own : is_own row retailer (standing_of b) ≡ true =
    both_true (is_booking row (standing_of b)) (word_at b 1 == retailer) (test_of_key row.row row.generation b st.same generation) (eq-eqb (word_at b 1) retailer mine) in
    ap (option_map (λ (x : Standing). x.view)) (found_own g s row retailer b good at sealed ∙ ap (λ (t : Bool). cond t (Some (standing_of b)) None) own)

-- and else there is none

pub own_other : (g : Layout) (s : State) (row : RowNo) (retailer : ℕ) (b : Booking) → IsWellFormed g s → present s row.row ≡ Some b → is_sealed b.phase ≡ true
    → word_at b 1 ≢ retailer → option_map (λ (x : Standing). x.view) (find (is_own row retailer) (standings_of s)) ≡ None
own_other g s row retailer b good at sealed other =
    let own : is_own row retailer (standing_of b) ≡ false = second_false (is_booking row (standing_of b)) (word_at b 1 == retailer) (ne_eqb (word_at b 1) retailer other) in
    ap (option_map (λ (x : Standing). x.view)) (found_own g s row retailer b good at sealed ∙ ap (λ (t : Bool). cond t (Some (standing_of b)) None) own)

other_generation : (row : RowNo) (retailer : ℕ) (x : Standing) → x.row.generation ≢ row.generation → is_own row retailer x ≡ false
other_generation row retailer x other =
    ap (λ (t : Bool). t && (x.view.retailer == retailer)) (second_false (x.row.row == row.row) (x.row.generation == row.generation) (ne_eqb x.row.generation row.generation other))

own_beside : (g : Layout) (s : State) (row : RowNo) (retailer : ℕ) (b : Booking) → IsWellFormed g s → present s row.row ≡ Some b → is_sealed b.phase ≡ false → find (is_own row retailer) (standings_of s) ≡ None
own_beside g s row retailer b good at unsealed =
    let st = stands g s row.row b good at in
    let os = standings_by (is_there s) st.before in
    let cs = standings_by (is_there s) st.after in
    ap (find (is_own row retailer))
    (ap (standings_by (is_there s)) st.is ∙ by_beside (is_there s) st.before st.after b (second_false (is_there s b) (is_sealed b.phase) unsealed))
    ∙ (find-append (is_own row retailer) os cs
    ∙ (ap (λ (o : Option Standing). option_or o (find (is_own row retailer) cs)) (none_own row retailer os (elsewhere s row.row st.before st.first))
    ∙ none_own row retailer cs (elsewhere s row.row st.after st.last)))

shown_in : (s : State) (row : RowNo) (b : Booking) → present s row.row ≡ Some b → b.generation ≡ row.generation → phase_shown row.generation (row_word s row.row 0) ≡ b.phase
shown_in s row b at generation =
    ap (λ (o : Option Booking). phase_shown row.generation (option_map_or (λ (x : Booking). row_word_of x.phase x.generation) o 0)) at
    ∙ (ap (λ (n : ℕ). phase_shown n (row_word_of b.phase b.generation)) (sym generation) ∙ shown_back b.phase b.generation)

-- where the row's word shows the booking as none that is sealed
pub own_unshown : (g : Layout) (s : State) (row : RowNo) (retailer : ℕ) → IsWellFormed g s → is_sealed (phase_shown row.generation (row_word s row.row 0)) ≡ false
    → option_map (λ (x : Standing). x.view) (find (is_own row retailer) (standings_of s)) ≡ None
own_unshown g s row retailer good unshown = ap (option_map (λ (x : Standing). x.view)) (go (present s row.row) refl) where
  by : (b : Booking) → present s row.row ≡ Some b → (t : Bool) → is_sealed b.phase ≡ t → (b.generation ≡ row.generation) ⊎ (b.generation ≢ row.generation) → find (is_own row retailer) (standings_of s) ≡ None
  by b at false unsealed which = own_beside g s row retailer b good at unsealed
  by b at true sealed (inl same) = absurd (let no : true ≡ false = sym sealed ∙ (sym (ap is_sealed (shown_in s row b at same)) ∙ unshown) in cc)
  by b at true sealed (inr other) =
      found_own g s row retailer b good at sealed ∙ ap (λ (t : Bool). cond t (Some (standing_of b)) None) (other_generation row retailer (standing_of b) other)

  go : (o : Option Booking) → present s row.row ≡ o → find (is_own row retailer) (standings_of s) ≡ None
  go None at = none_own row retailer (standings_of s) (elsewhere s row.row s (none_passes (stands_in s row.row) s at))
  go (Some b) at = by b at (is_sealed b.phase) refl (cases_eq b.generation row.generation)

-- no booking stands past the last row
pub none_past : (g : Layout) (s : State) (row : ℕ) → AreInRange g s → g.rows ≤ row → present s row ≡ None
none_past g s row range past = go (present s row) refl where
  go : (o : Option Booking) → present s row ≡ o → present s row ≡ None
  go None at = at
  go (Some b) at =
      let below = (all_found (IsInRange g) s row b range at).row in
      let same = (key_of_test row (next_generation s row - 1) b (split (stands_in s row) s b at).passes).0 in
      absurd (omega (arith, below, past, same))

pub own_past : (g : Layout) (s : State) (row : RowNo) (retailer : ℕ) → AreInRange g s → g.rows ≤ row.row
    → option_map (λ (x : Standing). x.view) (find (is_own row retailer) (standings_of s)) ≡ None
own_past g s row retailer range past =
    ap (option_map (λ (x : Standing). x.view))
    (none_own row retailer (standings_of s) (elsewhere s row.row s (none_passes (stands_in s row.row) s (none_past g s row.row range past))))

-- one booking changed

making_same : (before after : State) (b c : Booking) → is_in_making b.phase ≡ false → is_in_making c.phase ≡ false
    → kept_of (before ++ c ∷ after) ≡ kept_of (before ++ b ∷ after)
making_same [] after b c was is =
    ap (λ (t : Bool). option_map row_of (cond t (Some c) (find (λ (x : Booking). is_in_making x.phase) after))) is
    ∙ sym (ap (λ (t : Bool). option_map row_of (cond t (Some b) (find (λ (x : Booking). is_in_making x.phase) after))) was)
making_same (x ∷ before) after b c was is = go (is_in_making x.phase) (making_same before after b c was is) where
  go : (t : Bool) → kept_of (before ++ c ∷ after) ≡ kept_of (before ++ b ∷ after)
      → option_map row_of (cond t (Some x) (find (λ (y : Booking). is_in_making y.phase) (before ++ c ∷ after)))
      ≡ option_map row_of (cond t (Some x) (find (λ (y : Booking). is_in_making y.phase) (before ++ b ∷ after)))
  go true rest = refl
  go false rest = rest

pub sealed_unmade : (p : Phase) → is_sealed p ≡ true → is_in_making p ≡ false
sealed_unmade Free t = refl
sealed_unmade Making t = absurd (let no : false ≡ true = t in cc)
sealed_unmade Prebooked t = refl
sealed_unmade Confirmed t = refl
sealed_unmade Fulfilled t = refl
sealed_unmade (Ending k) t = refl
sealed_unmade (Ended k) t = refl

pub keys_with : (before after : State) (b c : Booking) → key_of c ≡ key_of b → map key_of (before ++ c ∷ after) ≡ map key_of (before ++ b ∷ after)
keys_with before after b c same =
    map-append key_of before (c ∷ after)
    ∙ (ap (λ (k : ℕ × ℕ). map key_of before ++ k ∷ map key_of after) same ∙ sym (map-append key_of before (b ∷ after)))

-- another of the same row and generation stands there as well
abbrev pub stands_with : (s : State) (row : ℕ) (b c : Booking) → (st : Stands s row b) → key_of c ≡ key_of b → Stands (st.before ++ c ∷ st.after) row c
stands_with s row b c st same =
    let keys : map key_of (st.before ++ c ∷ st.after) ≡ map key_of s = keys_with st.before st.after b c same ∙ sym (ap (map key_of) st.is) in
    record {
      before = st.before;
      after = st.after;
      is = refl;
      same = ap (λ (k : ℕ × ℕ). k.0) same ∙ st.same;
      passes = subst (λ (ks : List (ℕ × ℕ)). stands_as row (next_in ks row - 1) c ≡ true) (sym keys)
          (ap (λ (k : ℕ × ℕ). nat_eq k.0 row && nat_eq k.1 (next_generation s row - 1)) same ∙ st.passes);
      first = subst (λ (ks : List (ℕ × ℕ)). AllByRecursion (λ x. stands_as row (next_in ks row - 1) x ≡ false) st.before) (sym keys) st.first;
      last = subst (λ (ks : List (ℕ × ℕ)). AllByRecursion (λ x. stands_as row (next_in ks row - 1) x ≡ false) st.after) (sym keys) st.last;
    }

-- which bookings are present is by the rows and generations alone
pub there_same : (s t : State) → map key_of t ≡ map key_of s → (x : Booking) → is_there t x ≡ is_there s x
there_same s t keys x = ap (λ (ks : List (ℕ × ℕ)). stands_as x.row (next_in ks x.row - 1) x) keys

-- where another sealed booking of the same row and generation stands there, the list has its view, and the row kept is
-- the same
pub changed_standing : (s t : State) (row : ℕ) (b c : Booking) → (st : Stands s row b) → t ≡ st.before ++ c ∷ st.after → key_of c ≡ key_of b
    → is_sealed b.phase ≡ true → is_sealed c.phase ≡ true
    → (standings_of t ≡ map (replaced (row_of b) (view_of c)) (standings_of s)) × (kept_of t ≡ kept_of s)
changed_standing s t row b c st is same was sealed =
    let test = is_there s in
    let os = standings_by test st.before in
    let cs = standings_by test st.after in
    let v = view_of c in
    let keys : map key_of t ≡ map key_of s = ap (map key_of) is ∙ (keys_with st.before st.after b c same ∙ sym (ap (map key_of) st.is)) in
    let c_there : test c ≡ true =
    (let e : test c ≡ test b = ap (λ (k : ℕ × ℕ). nat_eq k.0 k.0 && nat_eq k.1 (next_in (map key_of s) k.0 - 1)) same in e) ∙ there s row b st in
    let here : replaced (row_of b) v (standing_of b) ≡ standing_of c =
    ap (λ (x : Bool). cond x (record { row = row_of b; view = v }) (standing_of b)) (test_of_key b.row b.generation b refl refl)
    ∙ (λ i. record { row = record { row = (sym same i).0; generation = (sym same i).1 }; view = v }) in
    let first = subst (λ (r : ℕ). AreElsewhere r os) (sym st.same) (elsewhere s row st.before st.first) in
    let last = subst (λ (r : ℕ). AreElsewhere r cs) (sym st.same) (elsewhere s row st.after st.last) in
    let old : map (replaced (row_of b) v) (standings_of s) ≡ os ++ standing_of c ∷ cs =
    ap (λ (u : State). map (replaced (row_of b) v) (standings_by test u)) st.is
    ∙ (ap (map (replaced (row_of b) v)) (by_around test st.before st.after b (both_true (test b) (is_sealed b.phase) (there s row b st) was))
    ∙ (map-append (replaced (row_of b) v) os (standing_of b ∷ cs)
    ∙ (ap (λ (l : List Standing). l ++ replaced (row_of b) v (standing_of b) ∷ map (replaced (row_of b) v) cs) (none_replaced (row_of b) v os first)
    ∙ (ap (λ (l : List Standing). os ++ replaced (row_of b) v (standing_of b) ∷ l) (none_replaced (row_of b) v cs last)
    ∙ ap (λ (x : Standing). os ++ x ∷ cs) here)))) in (
      (λ i. standings_by (λ x. there_same s t keys x i) t)
          ∙ (ap (standings_by test) is ∙ (by_around test st.before st.after c (both_true (test c) (is_sealed c.phase) c_there sealed) ∙ sym old)),
      ap kept_of is ∙ (making_same st.before st.after b c (sealed_unmade b.phase was) (sealed_unmade c.phase sealed) ∙ sym (ap kept_of st.is)),
    )

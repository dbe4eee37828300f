-- The row that a lone desk starts is the plain host's choice.
use Rattle.std.proofs.Common.{◌≡◌, ◌≢◌, ℕ, zero, suc, ◌+◌, ◌-◌, ◌<◌, ◌≤◌, max, Bool, true, false, cond, not, ◌||◌, nat_eq, ne_eqb, eq-eqb, List, [], ◌∷◌, ◌++◌, map, Option, Some, None, refl, sym, ap, ◌∙◌, subst, ⊎_elim, inl, inr, arith, append-nil}
use Rattle.std.specs.Prelude.{◌⊎◌, ◌==◌, ◌&&◌, nat_lt, IsSome, find, option_map}
use Rattle.std.specs.List.{AllByRecursion, filter, list_any, range_with_len}
use Rattle.std.specs.Option.{option_or}
use Rattle.std.proofs.lemmas.Bool.{true≢false, cases_eq, ltb-true, lt-ltb, not_from_true, not_from_false, false_from_ne_true}
use mathlib.Core.List.{map-append}
use Rattle.rail_ids.specs.Spelling.{last_generation}
use Rattle.rail_ids.specs.declared.RowNo.{RowNo}
use Rattle.history_model.specs.declared.booking.BookedItem.{BookedItem}
use Rattle.history_model.specs.declared.phase.Phase.{Phase}
use Rattle.history_model.specs.declared.phase.Phase.TheVariants.{Making}
use Rattle.history_model.specs.Phase.{is_sealed, is_ended}
use Rattle.history_model.specs.Allowed.{IsMadeBy, OnRow}
use Rattle.history_model.specs.Apply.{started, words_of_row}
use Rattle.history_model.specs.Booking.{Booking, Layout, State, key_of, next_in, next_generation, stands_in, present, booking_at, change}
use Rattle.history_model.specs.History.{IsLegal}
use Rattle.history_model.specs.Laws.{IsPresentOrEnded, IsWellFormed, IsInRange}
use Rattle.history_model.specs.Lists.{Pairwise}
use Rattle.history_model.proofs.Generations.{key_of_test, test_of_key, next_above, next-push, free_next, present_latest, unended_present, stands_there}
use Rattle.history_model.proofs.Keeping.{found}
use Rattle.history_model.proofs.ListLemmas.{All-right, All-found, All-map, All-under_map, Pairwise-across, find-push, none_passes}
use Rattle.history_model.proofs.Owners.{on_row}
use Rattle.history_model.proofs.Ranges.{ranges_all}
use Rattle.claim_rule.specs.Rule.{DeskView, state_seen}
use Rattle.claim_rule.specs.Calls.{AddsStepsBy}
use Rattle.booking_rows.specs.Starts.{StartsHold, IsLeastFree}
use Rattle.lone_desk.specs.Lone.{IsAlone, IsStartable, NoneStartable, StartsLeast, with_started}
use Rattle.lone_desk.proofs.Following.{shape_follows}
use Rattle.lone_desk.proofs.Starting.{starts_least}
use Rattle.plain_host.specs.Plain.{Standing, Choice, uses_row, least_unused, gives_way, least_ended, without, following, choice_among, choice_of, choice_for, keeping}
use Rattle.plain_host.specs.PlainOf.{row_of, standing_of, standings_of, is_in_making, kept_of, plain_in, plain_of}
use Rattle.plain_host.specs.Settled.{IsStanding, IsEmptyRow, IsSettled}
use Rattle.plain_host.proofs.Standings.{AreElsewhere, IsAside, Stands, stands, there, not_true, both_true, second_false, standings_by, is_there, sealed_unmade, by_around, by_beside, elsewhere}
use Rattle.plain_host.proofs.Changes.{change_at}

-- ---- the first of a range of numbers

find_first : (p : ℕ → Bool) (a n row : ℕ) → a ≤ row → row < a + n → ((q : ℕ) → a ≤ q → q < row → p q ≡ false) → p row ≡ true → find p (range_with_len a n) ≡ Some row
find_first p a zero row from to before at = absurd (omega (arith, from, to))
find_first p a (suc n) row from to before at = ⊎_elim
    (λ (here : a ≡ row). ap (λ (t : Bool). cond t (Some a) (find p (range_with_len (a + 1) n))) (ap p here ∙ at) ∙ ap (λ (k : ℕ). Some k) here)
    (λ (other : a ≡ row → ⊥).
    ap (λ (t : Bool). cond t (Some a) (find p (range_with_len (a + 1) n))) (before a (omega arith) (omega (arith, from, other)))
    ∙ find_first p (a + 1) n row (omega (arith, from, other)) (omega (arith, to)) (λ q least below. before q (omega (arith, least)) below) at)
    (cases_eq a row)

find_none : (p : ℕ → Bool) (a n : ℕ) → ((q : ℕ) → a ≤ q → q < a + n → p q ≡ false) → find p (range_with_len a n) ≡ None
find_none p a zero before = refl
find_none p a (suc n) before =
    ap (λ (t : Bool). cond t (Some a) (find p (range_with_len (a + 1) n))) (before a (omega arith) (omega arith))
    ∙ find_none p (a + 1) n (λ q least below. before q (omega (arith, least)) (omega (arith, below)))

-- ---- the one of a list that is in a row

-- the test fails on all that aren't in the row
abbrev IsOfRow : (Standing → Bool) → ℕ → Type 0
IsOfRow p row = (x : Standing) → (x.row.row == row) ≡ false → p x ≡ false

none_any : (p : Standing → Bool) (row : ℕ) (bs : List Standing) → IsOfRow p row → AreElsewhere row bs → list_any p bs ≡ false
none_any p row [] of other = refl
none_any p row (x ∷ bs) of other = ap (λ (t : Bool). t || list_any p bs) (of x other.0) ∙ none_any p row bs of other.1

-- the one has it, where one has it
any_around : (p : Standing → Bool) (row : ℕ) (os cs : List Standing) (b : Standing) → IsOfRow p row → AreElsewhere row os → AreElsewhere row cs → list_any p (os ++ b ∷ cs) ≡ p b
any_around p row [] cs b of first last = ap (λ (t : Bool). p b || t) (none_any p row cs of last) ∙ or_false (p b)
  where
    or_false : (t : Bool) → (t || false) ≡ t
    or_false true = refl
    or_false false = refl
any_around p row (x ∷ os) cs b of first last = ap (λ (t : Bool). t || list_any p (os ++ b ∷ cs)) (of x first.0) ∙ any_around p row os cs b of first.1 last

found_around : (p : Standing → Bool) (row : ℕ) (os cs : List Standing) (b : Standing) → IsOfRow p row → AreElsewhere row os → p b ≡ true → find p (os ++ b ∷ cs) ≡ Some b
found_around p row [] cs b of first at = ap (λ (t : Bool). cond t (Some b) (find p cs)) at
found_around p row (x ∷ os) cs b of first at = ap (λ (t : Bool). cond t (Some x) (find p (os ++ b ∷ cs))) (of x first.0) ∙ found_around p row os cs b of first.1 at

-- where a sealed booking is a row's present one, it is the row's in the list
record IsListed (s : State) (row : ℕ) (b : Booking) : Type 0 where
  pub os : List Standing
  pub cs : List Standing
  pub is : standings_of s ≡ os ++ standing_of b ∷ cs
  pub first : AreElsewhere row os
  pub last : AreElsewhere row cs
  pub here : b.row ≡ row

is_listed : (g : Layout) (s : State) (row : ℕ) (b : Booking) → IsWellFormed g s → present s row ≡ Some b → is_sealed b.phase ≡ true → IsListed s row b
is_listed g s row b well at sealed =
    let st = stands g s row b well at in
    record {
      os = standings_by (is_there s) st.before;
      cs = standings_by (is_there s) st.after;
      is = ap (standings_by (is_there s)) st.is
          ∙ by_around (is_there s) st.before st.after b (both_true (is_there s b) (is_sealed b.phase) (there s row b st) sealed);
      first = elsewhere s row st.before st.first;
      last = elsewhere s row st.after st.last;
      here = st.same;
    }

of_row_uses : (row : ℕ) → IsOfRow (λ (b : Standing). b.row.row == row) row
of_row_uses row x other = other

of_row_gives : (row : ℕ) → IsOfRow (gives_way row) row
of_row_gives row x other = ap (λ (t : Bool). t && (is_ended x.view.phase && nat_lt x.row.generation last_generation)) other

some_of : (o : Option Booking) → IsSome o → (b : Booking) × (o ≡ Some b)
some_of None some = absurd (true≢false (sym some))
some_of (Some b) some = (b, refl)

-- the rows in use

in_use : (g : Layout) (s : State) (q : ℕ) → IsWellFormed g s → AllByRecursion IsStanding s → IsSome (present s q) → uses_row (standings_of s) q ≡ true
in_use g s q well each some =
    let at = some_of (present s q) some in
    let b = at.0 in
    let l = is_listed g s q b well at.1 (All-found IsStanding (stands_in s q) s b at.1 each).sealed in
    ap (λ (bs : List Standing). uses_row bs q) l.is
    ∙ (any_around (λ (x : Standing). x.row.row == q) q l.os l.cs (standing_of b) (of_row_uses q) l.first l.last ∙ eq-eqb b.row q l.here)

none_there : (s : State) (q : ℕ) → present s q ≡ None → AreElsewhere q (standings_of s)
none_there s q free = elsewhere s q s (none_passes (stands_in s q) s free)

not_in_use : (s : State) (q : ℕ) → present s q ≡ None → uses_row (standings_of s) q ≡ false
not_in_use s q free = none_any (λ (x : Standing). x.row.row == q) q (standings_of s) (of_row_uses q) (none_there s q free)

-- the rows that give way

gives_is : (g : Layout) (s : State) (q : ℕ) (b : Booking) → IsWellFormed g s → AllByRecursion IsStanding s → present s q ≡ Some b
    → list_any (gives_way q) (standings_of s) ≡ (is_ended b.phase && nat_lt b.generation last_generation)
gives_is g s q b well each at =
    let l = is_listed g s q b well at (All-found IsStanding (stands_in s q) s b at each).sealed in
    ap (list_any (gives_way q)) l.is
    ∙ (any_around (gives_way q) q l.os l.cs (standing_of b) (of_row_gives q) l.first l.last
    ∙ ap (λ (t : Bool). t && (is_ended b.phase && nat_lt b.generation last_generation)) (eq-eqb b.row q l.here))

gives_not : (g : Layout) (s : State) (q : ℕ) → IsWellFormed g s → AllByRecursion IsStanding s → IsSome (present s q) → ¬ IsStartable s q → list_any (gives_way q) (standings_of s) ≡ false
gives_not g s q well each some none =
    let at = some_of (present s q) some in
    let b = at.0 in
    gives_is g s q b well each at.1
    ∙ false_from_ne_true (is_ended b.phase && nat_lt b.generation last_generation)
    (λ e. none (on_row s q b (λ (x : Booking). (is_ended x.phase ≡ true) × (x.generation < last_generation)) at.1 (parts (is_ended b.phase) b.generation e)))
  where
    parts : (t : Bool) (n : ℕ) → (t && nat_lt n last_generation) ≡ true → (t ≡ true) × (n < last_generation)
    parts true n e = (refl, ltb-true n last_generation e)
    parts false n e = absurd (true≢false (sym e))

gives_found : (g : Layout) (s : State) (q : ℕ) (b : Booking) → IsWellFormed g s → AllByRecursion IsStanding s → present s q ≡ Some b → is_ended b.phase ≡ true → b.generation < last_generation
    → find (gives_way q) (standings_of s) ≡ Some (standing_of b)
gives_found g s q b well each at ended low =
    let l = is_listed g s q b well at (All-found IsStanding (stands_in s q) s b at each).sealed in
    ap (find (gives_way q)) l.is
    ∙ found_around (gives_way q) q l.os l.cs (standing_of b) (of_row_gives q) l.first
    (both_true (b.row == q) (is_ended b.phase && nat_lt b.generation last_generation) (eq-eqb b.row q l.here)
    (both_true (is_ended b.phase) (nat_lt b.generation last_generation) ended (lt-ltb b.generation last_generation low)))

-- ---- a booking behind those that stand, of a later generation than theirs

-- no booking has the row with this generation or a later one
abbrev pub IsLatest : State → RowNo → Type 0
IsLatest standing row = next_generation standing row.row ≤ row.generation

next_last : (standing : State) (b : Booking) (q : ℕ) → next_generation (standing ++ b ∷ []) q ≡ max (next_generation standing q) (cond (nat_eq b.row q) (b.generation + 1) 0)
next_last standing b q = ap (λ (ks : List (ℕ × ℕ)). next_in ks q) (map-append key_of standing (b ∷ [])) ∙ next-push (map key_of standing) (key_of b) q

pub next_here : (standing : State) (b : Booking) (row : RowNo) → row_of b ≡ row → IsLatest standing row → next_generation (standing ++ b ∷ []) row.row ≡ row.generation + 1
next_here standing b row is latest =
    next_last standing b row.row
    ∙ (ap (λ (t : Bool). max (next_generation standing row.row) (cond t (b.generation + 1) 0)) (eq-eqb b.row row.row (ap (λ (r : RowNo). r.row) is))
    ∙ (let g : b.generation ≡ row.generation = ap (λ (r : RowNo). r.generation) is in let m : max (next_generation standing row.row) (b.generation + 1) ≡ row.generation + 1 = omega (arith, g, latest) in m))

next_else : (standing : State) (b : Booking) (q : ℕ) → (b.row ≡ q → ⊥) → next_generation (standing ++ b ∷ []) q ≡ next_generation standing q
next_else standing b q other =
    next_last standing b q
    ∙ (ap (λ (t : Bool). max (next_generation standing q) (cond t (b.generation + 1) 0)) (ne_eqb b.row q other)
    ∙ (let m : max (next_generation standing q) 0 ≡ next_generation standing q = omega arith in m))

pub earlier_aside : (standing : State) (b : Booking) (row : RowNo) → row_of b ≡ row → IsLatest standing row → IsAside (standing ++ b ∷ []) row.row standing
earlier_aside standing b row is latest = All-map (λ x le. aside x le) standing (next_above standing)
  where
    aside : (x : Booking) → x.generation + 1 ≤ next_generation standing x.row → stands_in (standing ++ b ∷ []) row.row x ≡ false
    aside x le = not_true (stands_in (standing ++ b ∷ []) row.row x) (λ t.
        let key = key_of_test row.row (next_generation (standing ++ b ∷ []) row.row - 1) x t in
        let below : x.generation + 1 ≤ next_generation standing row.row = subst (λ (r : ℕ). x.generation + 1 ≤ next_generation standing r) key.0 le in
        omega (arith, below, latest, key.1, next_here standing b row is latest))

-- it is its row's present one
abbrev pub last_stands : (standing : State) (b : Booking) (row : RowNo) → row_of b ≡ row → IsLatest standing row → Stands (standing ++ b ∷ []) row.row b
last_stands standing b row is latest = record {
  before = standing;
  after = [];
  is = refl;
  same = ap (λ (r : RowNo). r.row) is;
  passes = test_of_key row.row (next_generation (standing ++ b ∷ []) row.row - 1) b (ap (λ (r : RowNo). r.row) is)
      (let g : b.generation ≡ row.generation = ap (λ (r : RowNo). r.generation) is in
      let at : b.generation ≡ next_generation (standing ++ b ∷ []) row.row - 1 = omega (arith, g, next_here standing b row is latest) in at);
  first = earlier_aside standing b row is latest;
  last = tt;
}

pub change_last : (standing : State) (b : Booking) (row : RowNo) (f : Booking → Booking) → row_of b ≡ row → IsLatest standing row → change (standing ++ b ∷ []) row.row f ≡ standing ++ f b ∷ []
change_last standing b row f is latest = change_at (standing ++ b ∷ []) b row.row row.row f (last_stands standing b row is latest) (eq-eqb row.row row.row refl)

-- what is left of the others

-- those of the bookings that stand which aren't in the row
abbrev pub beside : State → RowNo → List Standing
beside standing row = without row.row (standings_of standing)

left_by : (p q : Booking → Bool) (row : ℕ) (xs : State) → AllByRecursion (λ x. q x ≡ (p x && not (x.row == row))) xs
    → map standing_of (filter q xs) ≡ without row (map standing_of (filter p xs))
left_by p q row [] all = refl
left_by p q row (x ∷ xs) all =
    ap (λ (t : Bool). map standing_of (cond t (x ∷ filter q xs) (filter q xs))) all.0 ∙ go (p x) (x.row == row) refl (left_by p q row xs all.1)
  where
    rest : List Standing
    rest = map standing_of (filter p xs)

    go : (t r : Bool) → (x.row == row) ≡ r → map standing_of (filter q xs) ≡ without row (map standing_of (filter p xs))
        → map standing_of (cond (t && not r) (x ∷ filter q xs) (filter q xs)) ≡ without row (map standing_of (cond t (x ∷ filter p xs) (filter p xs)))
    go true true e same =
        same ∙ sym (ap (λ (u : Bool). cond (not u) (standing_of x ∷ without row (map standing_of (filter p xs))) (without row (map standing_of (filter p xs)))) e)
    go true false e same =
        ap (λ (l : List Standing). standing_of x ∷ l) same
        ∙ sym (ap (λ (u : Bool). cond (not u) (standing_of x ∷ without row (map standing_of (filter p xs))) (without row (map standing_of (filter p xs)))) e)
    go false r e same = same

there_last : (standing : State) (b : Booking) (row : RowNo) → row_of b ≡ row → IsLatest standing row
    → AllByRecursion (λ x. is_there (standing ++ b ∷ []) x ≡ (is_there standing x && not (x.row == row.row))) standing
there_last standing b row is latest = All-map (λ x le. one x le) standing (next_above standing)
  where
    with_true : (t : Bool) → t ≡ (t && true)
    with_true true = refl
    with_true false = refl

    one : (x : Booking) → x.generation + 1 ≤ next_generation standing x.row → is_there (standing ++ b ∷ []) x ≡ (is_there standing x && not (x.row == row.row))
    one x le = ⊎_elim
        (λ (here : x.row ≡ row.row).
        let out : is_there (standing ++ b ∷ []) x ≡ false = not_true (is_there (standing ++ b ∷ []) x) (λ t.
        let key = key_of_test x.row (next_generation (standing ++ b ∷ []) x.row - 1) x t in
        let below : x.generation + 1 ≤ next_generation standing row.row = subst (λ (r : ℕ). x.generation + 1 ≤ next_generation standing r) here le in
        let next : next_generation (standing ++ b ∷ []) x.row ≡ row.generation + 1 = ap (next_generation (standing ++ b ∷ [])) here ∙ next_here standing b row is latest in
        omega (arith, below, latest, key.1, next)) in
        out ∙ sym (second_false (is_there standing x) (not (x.row == row.row)) (ap not (eq-eqb x.row row.row here))))
        (λ (other : x.row ≡ row.row → ⊥).
        let same : is_there (standing ++ b ∷ []) x ≡ is_there standing x =
        ap (λ (n : ℕ). (x.row == x.row) && (x.generation == n - 1)) (next_else standing b x.row (λ e. other (sym e ∙ ap (λ (r : RowNo). r.row) is))) in
        same ∙ (with_true (is_there standing x) ∙ sym (ap (λ (t : Bool). is_there standing x && not t) (ne_eqb x.row row.row other))))
        (cases_eq x.row row.row)

beside_last : (standing : State) (b : Booking) (row : RowNo) → row_of b ≡ row → IsLatest standing row → standings_by (is_there (standing ++ b ∷ [])) standing ≡ beside standing row
beside_last standing b row is latest =
    left_by (λ x. is_there standing x && is_sealed x.phase) (λ x. is_there (standing ++ b ∷ []) x && is_sealed x.phase) row.row standing
    (All-map (λ x e. ap (λ (t : Bool). t && is_sealed x.phase) e ∙ swap (is_there standing x) (not (x.row == row.row)) (is_sealed x.phase)) standing
    (there_last standing b row is latest))
  where
    swap : (s t u : Bool) → ((s && t) && u) ≡ ((s && u) && t)
    swap true true true = refl
    swap true true false = refl
    swap true false true = refl
    swap true false false = refl
    swap false t u = refl

pub standings_unsealed : (standing : State) (b : Booking) (row : RowNo) → row_of b ≡ row → IsLatest standing row → is_sealed b.phase ≡ false
    → standings_of (standing ++ b ∷ []) ≡ beside standing row
standings_unsealed standing b row is latest unsealed =
    let test = is_there (standing ++ b ∷ []) in
    by_beside test standing [] b (second_false (test b) (is_sealed b.phase) unsealed)
    ∙ (append-nil (standings_by test standing) ∙ beside_last standing b row is latest)

pub standings_sealed : (standing : State) (b : Booking) (row : RowNo) → row_of b ≡ row → IsLatest standing row → is_sealed b.phase ≡ true
    → standings_of (standing ++ b ∷ []) ≡ beside standing row ++ standing_of b ∷ []
standings_sealed standing b row is latest sealed =
    let test = is_there (standing ++ b ∷ []) in
    let here : test b ≡ true = there (standing ++ b ∷ []) row.row b (last_stands standing b row is latest) in
    by_around test standing [] b (both_true (test b) (is_sealed b.phase) here sealed)
    ∙ ap (λ (l : List Standing). l ++ standing_of b ∷ []) (beside_last standing b row is latest)

-- where the row had none, all are left
all_left : (row : ℕ) (bs : List Standing) → AreElsewhere row bs → without row bs ≡ bs
all_left row [] other = refl
all_left row (x ∷ bs) other =
    ap (λ (t : Bool). cond (not t) (x ∷ without row bs) (without row bs)) other.0 ∙ ap (λ (l : List Standing). x ∷ l) (all_left row bs other.1)

-- ---- what stands, and the row in the making behind it

kept_behind : (s rest : State) → AllByRecursion IsStanding s → kept_of (s ++ rest) ≡ kept_of rest
kept_behind [] rest each = refl
kept_behind (b ∷ bs) rest each =
    ap (λ (t : Bool). option_map row_of (cond t (Some b) (find (λ (x : Booking). is_in_making x.phase) (bs ++ rest)))) (sealed_unmade b.phase each.0.sealed)
    ∙ kept_behind bs rest each.1

pub kept_none : (s : State) → AllByRecursion IsStanding s → kept_of s ≡ None
kept_none s each = ap kept_of (sym (append-nil s)) ∙ kept_behind s [] each

kept_last : (s : State) (b : Booking) → AllByRecursion IsStanding s → b.phase ≡ Making → kept_of (s ++ b ∷ []) ≡ Some (row_of b)
kept_last s b each making = kept_behind s (b ∷ []) each ∙ ap (λ (p : Phase). option_map row_of (cond (is_in_making p) (Some b) None)) making

-- the row stands behind what stands, in the making by the first desk with these items, and none of the others is as
-- late
pub record IsMaking (standing : State) (row : RowNo) (items : List BookedItem) (s : State) : Type 0 where
  pub last : Booking
  pub row_is : row_of last ≡ row
  pub latest : IsLatest standing row
  pub items_are : last.items ≡ items
  pub making : last.phase ≡ Making
  pub owner : last.owner ≡ 0
  pub is : s ≡ standing ++ last ∷ []

-- the plain host's choice of this row
abbrev pub choice_at : State → RowNo → Choice
choice_at standing row = record { row = row; left = beside standing row }

-- what the plain host then has
pub plain_making : (standing : State) (row : RowNo) (items : List BookedItem) (s : State) → AllByRecursion IsStanding standing → IsMaking standing row items s
    → plain_in s ≡ keeping (choice_at standing row)
plain_making standing row items s each m =
    let bookings : standings_of s ≡ beside standing row = ap standings_of m.is ∙ standings_unsealed standing m.last row m.row_is m.latest (ap is_sealed m.making) in
    let kept : kept_of s ≡ Some row = ap kept_of m.is ∙ (kept_last standing m.last each m.making ∙ ap (λ (r : RowNo). Some r) m.row_is) in
    λ i. record { bookings = bookings i; kept = kept i }

-- what stands isn't in the making

not_making : (p : Phase) → is_sealed p ≡ true → p ≡ Making → ⊥
not_making p sealed making = true≢false (sym sealed ∙ ap is_sealed making)

-- a row in the making behind what stands is the latest of its row
made_latest : (g : Layout) (s standing : State) (e : Booking) → IsWellFormed g s → s ≡ standing ++ e ∷ [] → e.phase ≡ Making → IsLatest standing (row_of e)
made_latest g s standing e well is making = go (present standing e.row) refl
  where
    top : e.generation + 1 ≡ next_generation (standing ++ e ∷ []) e.row
    top = by (All-right (IsPresentOrEnded (map key_of (standing ++ e ∷ []))) standing (e ∷ [])
        (subst (λ (t : State). AllByRecursion (IsPresentOrEnded (map key_of t)) t) is well.earlier)).0
      where
        by : IsPresentOrEnded (map key_of (standing ++ e ∷ [])) e → e.generation + 1 ≡ next_generation (standing ++ e ∷ []) e.row
        by (inl it) = it
        by (inr ended) = absurd (true≢false (sym ended ∙ ap is_ended making))

    at_most : next_generation standing e.row ≤ e.generation + 1
    at_most = omega (arith, top, next_last standing e e.row)

    apart : AllByRecursion (λ (x : Booking). AllByRecursion (λ (k : ℕ × ℕ). key_of x ≢ k) (key_of e ∷ [])) standing
    apart = All-under_map (λ (j : ℕ × ℕ). AllByRecursion (λ (k : ℕ × ℕ). j ≢ k) (key_of e ∷ [])) key_of standing
        (Pairwise-across (λ (j k : ℕ × ℕ). j ≢ k) (map key_of standing) (key_of e ∷ [])
        (subst (Pairwise (λ (j k : ℕ × ℕ). j ≢ k)) (ap (map key_of) is ∙ map-append key_of standing (e ∷ [])) well.keys))

    go : (o : Option Booking) → present standing e.row ≡ o → IsLatest standing (row_of e)
    go None free = let none : next_generation standing e.row ≡ 0 = free_next standing e.row free in omega (arith, none)
    go (Some x) at =
        let latest = present_latest standing e.row x at in
        let other = (All-found (λ (x : Booking). AllByRecursion (λ (k : ℕ × ℕ). key_of x ≢ k) (key_of e ∷ [])) (stands_in standing e.row) standing x at apart).0 in
        ⊎_elim
        (λ (same : x.generation ≡ e.generation). absurd (other (λ i. (latest.0 i, same i))))
        (λ (differs : x.generation ≡ e.generation → ⊥). let l = latest.1 in let m = at_most in omega (arith, l, m, differs))
        (cases_eq x.generation e.generation)

-- an empty row behind what stands is in the making
empty_making : (g : Layout) (s standing : State) (e : Booking) → IsWellFormed g s → IsEmptyRow e → s ≡ standing ++ e ∷ [] → IsMaking standing (row_of e) [] s
empty_making g s standing e well empty is = record {
  last = e;
  row_is = refl;
  latest = made_latest g s standing e well is empty.making;
  items_are = empty.none;
  making = empty.making;
  owner = empty.owner;
  is = is;
}

none_made : (standing : State) (p : Booking → Bool) (b : Booking) → AllByRecursion IsStanding standing → find p standing ≡ Some b → b.phase ≡ Making → ⊥
none_made standing p b each at making = not_making b.phase (All-found IsStanding p standing b at each).sealed making

-- one in the making behind those that stand is the last
found_last : (standing : State) (p : Booking → Bool) (e x : Booking) → AllByRecursion IsStanding standing → find p (standing ++ e ∷ []) ≡ Some x → x.phase ≡ Making → (x ≡ e) × (p e ≡ true)
found_last standing p e x each at making = go (find p standing) refl (p e) refl
  where
    go : (o : Option Booking) → find p standing ≡ o → (t : Bool) → p e ≡ t → (x ≡ e) × (p e ≡ true)
    go (Some y) here t is =
        let same : Some y ≡ Some x = sym (ap (λ (o : Option Booking). option_or o (cond (p e) (Some e) None)) here) ∙ (sym (find-push p standing e) ∙ at) in
        let one : y ≡ x = cc in
        absurd (none_made standing p y each here (ap (λ (b : Booking). b.phase) one ∙ making))
    go None here true is =
        let same : Some e ≡ Some x =
        sym (ap (λ (o : Option Booking). option_or o (cond (p e) (Some e) None)) here ∙ ap (λ (u : Bool). cond u (Some e) None) is) ∙ (sym (find-push p standing e) ∙ at) in
        (let one : x ≡ e = cc in one, is)
    go None here false is =
        let none : ◌≡◌ {A = Option Booking} None (Some x) =
        sym (ap (λ (o : Option Booking). option_or o (cond (p e) (Some e) None)) here ∙ ap (λ (u : Bool). cond u (Some e) None) is) ∙ (sym (find-push p standing e) ∙ at) in
        absurd cc

made_is_last : (g : Layout) (s : State) (settled : IsSettled s) (row : RowNo) (desk : ℕ) → IsWellFormed g s → OnRow s row.row (λ b. IsMadeBy desk b × (b.generation ≡ row.generation))
    → IsMaking settled.standing row [] s
made_is_last g s settled row desk well on = by_tail settled.is
  where
    by_tail : (s ≡ settled.standing) ⊎ ((b : Booking) × IsEmptyRow b × (s ≡ settled.standing ++ b ∷ [])) → IsMaking settled.standing row [] s
    by_tail (inl none) =
        let b = found (present s row.row) (λ b. IsMadeBy desk b × (b.generation ≡ row.generation)) on in
        absurd (none_made settled.standing (stands_in s row.row) b.0 settled.each (ap (find (stands_in s row.row)) (sym none) ∙ b.1) b.2.0.0)
    by_tail (inr (e, empty, is)) =
        let x = found (present s row.row) (λ b. IsMadeBy desk b × (b.generation ≡ row.generation)) on in
        let last = found_last settled.standing (stands_in s row.row) e x.0 settled.each (ap (find (stands_in s row.row)) (sym is) ∙ x.1) x.2.0.0 in
        let r : e.row ≡ row.row = (key_of_test row.row (next_generation s row.row - 1) e last.1).0 in
        let n : e.generation ≡ row.generation = ap (λ (b : Booking). b.generation) (sym last.0) ∙ x.2.1 in
        subst (λ (q : RowNo). IsMaking settled.standing q [] s) (λ i. record { row = r i; generation = n i }) (empty_making g s settled.standing e well empty is)

none_is_left : (g : Layout) (s : State) (settled : IsSettled s) → IsWellFormed g s → ((row : ℕ) → OnRow s row (IsMadeBy 0) → ⊥) → s ≡ settled.standing
none_is_left g s settled well none = by_tail settled.is
  where
    by_tail : (s ≡ settled.standing) ⊎ ((b : Booking) × IsEmptyRow b × (s ≡ settled.standing ++ b ∷ [])) → s ≡ settled.standing
    by_tail (inl is) = is
    by_tail (inr (e, empty, is)) =
        let here : booking_at s e.row e.generation ≡ Some e = stands_there s settled.standing e [] well.keys is in
        let at : present s e.row ≡ Some e = unended_present s e.row e.generation e well.earlier here (ap is_ended empty.making) in
        absurd (none e.row (on_row s e.row e (IsMadeBy 0) at (empty.making, empty.owner)))

-- ---- the start of a hold

-- what it leaves, and that it is the plain host's choice
pub record HasBegun (old new : DeskView) (settled : IsSettled (state_seen old)) (row : RowNo) : Type 0 where
  pub alone : IsAlone new
  pub layout : new.layout ≡ old.layout
  pub legal : IsLegal new.layout new.seen
  pub making : IsMaking settled.standing row [] (state_seen new)
  pub chosen : choice_for old.layout.rows (plain_of old) ≡ Some (choice_at settled.standing row)

-- where no row is in the making, the plain host has what stands
plain_settled : (s standing : State) → AllByRecursion IsStanding standing → s ≡ standing → plain_in s ≡ record { bookings = standings_of standing; kept = None }
plain_settled s standing each is = ap plain_in is ∙ ap (λ (k : Option RowNo). record { bookings = standings_of standing; kept = k }) (kept_none standing each)

-- the first row that no booking has
chosen_unused : (g : Layout) (rows : ℕ) (s : State) (row : RowNo) → IsWellFormed g s → AllByRecursion IsStanding s → row.row < rows → row.generation ≡ 0 → present s row.row ≡ None
    → IsLeastFree s row.row → choice_for rows (record { bookings = standings_of s; kept = None }) ≡ Some (choice_at s row)
chosen_unused g rows s row well each inside first free least =
    let bs = standings_of s in
    let unused : least_unused rows bs ≡ Some row.row =
    find_first (λ q. not (uses_row bs q)) 0 rows row.row (omega arith) (omega (arith, inside))
    (λ q from below. not_from_true (uses_row bs q) (in_use g s q well each (least q below)))
    (not_from_false (uses_row bs row.row) (not_in_use s row.row free)) in
    ap (choice_of rows bs) unused
    ∙ (λ i. Some (record { row = record { row = row.row; generation = (sym first) i }; left = (sym (all_left row.row bs (none_there s row.row free))) i }))

none_unused : (g : Layout) (rows : ℕ) (s : State) → IsWellFormed g s → AllByRecursion IsStanding s → IsLeastFree s rows → least_unused rows (standings_of s) ≡ None
none_unused g rows s well each full =
    find_none (λ q. not (uses_row (standings_of s) q)) 0 rows
    (λ q from below. not_from_true (uses_row (standings_of s) q) (in_use g s q well each (full q (omega (arith, below)))))

-- the first row whose booking gives way
chosen_ended : (g : Layout) (rows : ℕ) (s : State) (row : RowNo) (b : Booking) → IsWellFormed g s → AllByRecursion IsStanding s → row.row < rows → IsLeastFree s rows
    → present s row.row ≡ Some b → is_ended b.phase ≡ true → b.generation < last_generation → row.generation ≡ b.generation + 1 → NoneStartable s row.row
    → choice_for rows (record { bookings = standings_of s; kept = None }) ≡ Some (choice_at s row)
chosen_ended g rows s row b well each inside full at ended low next none =
    let bs = standings_of s in
    let here : b.row ≡ row.row = (present_latest s row.row b at).0 in
    let least : least_ended rows bs ≡ Some row.row =
    find_first (λ q. list_any (gives_way q) bs) 0 rows row.row (omega arith) (omega (arith, inside))
    (λ q from below. gives_not g s q well each (full q (omega (arith, below, inside))) (none q below))
    (gives_is g s row.row b well each at ∙ both_true (is_ended b.phase) (nat_lt b.generation last_generation) ended (lt-ltb b.generation last_generation low)) in
    ap (choice_of rows bs) (none_unused g rows s well each full)
    ∙ (ap (choice_among bs) least
    ∙ (ap (option_map (following bs)) (gives_found g s row.row b well each at ended low)
    ∙ (λ i. Some (record { row = record { row = here i; generation = (sym next) i }; left = without (here i) bs }))))

none_chosen : (g : Layout) (rows : ℕ) (s : State) → IsWellFormed g s → AllByRecursion IsStanding s → IsLeastFree s rows → NoneStartable s rows
    → choice_for rows (record { bookings = standings_of s; kept = None }) ≡ None
none_chosen g rows s well each full none =
    let bs = standings_of s in
    let least : least_ended rows bs ≡ None =
    find_none (λ q. list_any (gives_way q) bs) 0 rows (λ q from below. gives_not g s q well each (full q (omega (arith, below))) (none q (omega (arith, below)))) in
    ap (choice_of rows bs) (none_unused g rows s well each full) ∙ ap (choice_among bs) least

-- the started booking behind what stands
started_making : (old new : DeskView) (standing : State) (row : RowNo) → old.number ≡ 0 → state_seen old ≡ standing → IsLatest standing row
    → state_seen new ≡ with_started (state_seen old) row old.number → IsMaking standing row [] (state_seen new)
started_making old new standing row number is latest state =
    let words = words_of_row (state_seen old) row.row in
    record {
      last = started row.row row.generation old.number words;
      row_is = refl;
      latest = latest;
      items_are = refl;
      making = refl;
      owner = number;
      is = state ∙ ap (λ (t : State). t ++ started row.row row.generation old.number words ∷ []) is;
    }

inside_rows : (g : Layout) (standing : State) (row : RowNo) (items : List BookedItem) (s : State) → IsMaking standing row items s → AllByRecursion (IsInRange g) s → row.row < g.rows
inside_rows g standing row items s m range =
    let below : m.last.row < g.rows = (All-right (IsInRange g) standing (m.last ∷ []) (subst (AllByRecursion (IsInRange g)) m.is range)).0.row in
    subst (λ (n : ℕ). n < g.rows) (ap (λ (r : RowNo). r.row) m.row_is) below

begun_by : (old new : DeskView) (row : RowNo) → (settled : IsSettled (state_seen old)) → IsAlone old → IsAlone new → new.layout ≡ old.layout → IsLegal new.layout new.seen → IsWellFormed old.layout (state_seen old)
    → AllByRecursion (IsInRange old.layout) (state_seen new) → StartsLeast old new (Some row) → HasBegun old new settled row
begun_by old new row settled alone still same_layout legal well range (inl (makes, same)) =
    let at = made_is_last old.layout (state_seen old) settled row old.number well makes in
    record {
      alone = still;
      layout = same_layout;
      legal = legal;
      making = subst (IsMaking settled.standing row []) (sym same) at;
      chosen = ap (choice_for old.layout.rows) (plain_making settled.standing row [] (state_seen old) settled.each at);
    }
begun_by old new row settled alone still same_layout legal well range (inr (inl (none, first, free, least, state))) =
    let s = state_seen old in
    let standing = settled.standing in
    let is : s ≡ standing = none_is_left old.layout s settled well (λ r on. none r (subst (λ (d : ℕ). OnRow s r (IsMadeBy d)) (sym alone.number) on)) in
    let free_there : present standing row.row ≡ None = ap (λ (t : State). present t row.row) (sym is) ∙ free in
    let latest : IsLatest standing row = (let next = free_next standing row.row free_there in omega (arith, next)) in
    let m = started_making old new standing row alone.number is latest state in
    record {
      alone = still;
      layout = same_layout;
      legal = legal;
      making = m;
      chosen = ap (choice_for old.layout.rows) (plain_settled s standing settled.each is)
          ∙ chosen_unused old.layout old.layout.rows standing row (subst (IsWellFormed old.layout) is well) settled.each (inside_rows old.layout standing row [] (state_seen new) m range) first free_there
          (subst (λ (t : State). IsLeastFree t row.row) is least);
    }
begun_by old new row settled alone still same_layout legal well range (inr (inr (none, full, (startable, next, others), state))) =
    let s = state_seen old in
    let standing = settled.standing in
    let is : s ≡ standing = none_is_left old.layout s settled well (λ r on. none r (subst (λ (d : ℕ). OnRow s r (IsMadeBy d)) (sym alone.number) on)) in
    let b = found (present s row.row) (λ (x : Booking). (is_ended x.phase ≡ true) × (x.generation < last_generation)) startable in
    let c = found (present s row.row) (λ (x : Booking). row.generation ≡ x.generation + 1) next in
    let both : Some c.0 ≡ Some b.0 = sym c.1 ∙ b.1 in
    let one : c.0 ≡ b.0 = cc in
    let follows : row.generation ≡ b.0.generation + 1 = c.2 ∙ ap (λ (x : Booking). x.generation + 1) one in
    let at : present standing row.row ≡ Some b.0 = ap (λ (t : State). present t row.row) (sym is) ∙ b.1 in
    let latest : IsLatest standing row = (let top = (present_latest standing row.row b.0 at).1 in omega (arith, top, follows)) in
    let m = started_making old new standing row alone.number is latest state in
    record {
      alone = still;
      layout = same_layout;
      legal = legal;
      making = m;
      chosen = ap (choice_for old.layout.rows) (plain_settled s standing settled.each is)
          ∙ chosen_ended old.layout old.layout.rows standing row b.0 (subst (IsWellFormed old.layout) is well) settled.each (inside_rows old.layout standing row [] (state_seen new) m range)
          (subst (λ (t : State). IsLeastFree t old.layout.rows) is full) at b.2.0 b.2.1 follows (subst (λ (t : State). NoneStartable t row.row) is others);
    }

pub has_begun : (old new : DeskView) (row : RowNo) → IsAlone old → (settled : IsSettled (state_seen old)) → IsWellFormed old.layout (state_seen old)
    → AddsStepsBy (StartsHold old new (Some row)) old new → HasBegun old new settled row
has_begun old new row alone settled well did =
    let f = shape_follows old new did.0 alone did.2 in
    begun_by old new row settled alone f.alone f.layout did.2.legal well
    (subst (λ (g : Layout). AllByRecursion (IsInRange g) (state_seen new)) f.layout (ranges_all new.layout new.seen did.2.legal))
    (starts_least old new (Some row) alone did)

-- where none is found, the plain host has none either
pub none_begun : (old new : DeskView) → IsAlone old → (settled : IsSettled (state_seen old)) → IsWellFormed old.layout (state_seen old) → AddsStepsBy (StartsHold old new None) old new
    → (choice_for old.layout.rows (plain_of old) ≡ None) × (state_seen new ≡ state_seen old) × IsAlone new
none_begun old new alone settled well did =
    let s = state_seen old in
    let starts = starts_least old new None alone did in
    let is : s ≡ settled.standing = none_is_left old.layout s settled well (λ r on. starts.0 r (subst (λ (d : ℕ). OnRow s r (IsMadeBy d)) (sym alone.number) on)) in (
      ap (choice_for old.layout.rows) (plain_settled s settled.standing settled.each is)
          ∙ none_chosen old.layout old.layout.rows settled.standing (subst (IsWellFormed old.layout) is well) settled.each
          (subst (λ (t : State). IsLeastFree t old.layout.rows) is starts.1) (subst (λ (t : State). NoneStartable t old.layout.rows) is starts.2),
      starts.3,
      (shape_follows old new did.0 alone did.2).alone,
    )

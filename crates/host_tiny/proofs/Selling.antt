-- The rows of a run and the reservations in them, from one wish to the next.
use Rattle.std.proofs.Common.{◌≡◌, ℕ, ◌+◌, ◌-◌, ◌<◌, ◌≤◌, max, Bool, true, false, cond, eq-eqb, ne_eqb, List, [], ◌∷◌, ◌++◌, map, length, Option, Some, None, refl, sym, ap, ◌∙◌, subst, ⊎_elim, inl, inr, arith, append-nil, length-append}
use Rattle.std.specs.Prelude.{◌⊎◌, ◌==◌, ◌&&◌, IsSome, find}
use mathlib.Core.List.{map-append}
use Rattle.std.specs.Option.{option_or}
use Rattle.std.proofs.lemmas.Bool.{cases_eq, cases_lt}
use Rattle.std.specs.List.{AllByRecursion}
use Rattle.history_model.specs.declared.booking.BookedItem.{BookedItem}
use Rattle.history_model.specs.declared.phase.Phase.{Phase}
use Rattle.history_model.specs.declared.phase.Phase.TheVariants.{Making, Prebooked}
use Rattle.history_model.specs.Allowed.{IsMadeBy, OnRow}
use Rattle.history_model.specs.Apply.{started, words_of_row, in_phase, noted}
use Rattle.rail_ids.specs.declared.RowNo.{RowNo}
use Rattle.rail_ids.specs.Spelling.{last_generation}
use Rattle.history_model.specs.Phase.{is_ended}
use Rattle.history_model.specs.Booking.{Booking, State, change, key_of, next_in, next_generation, present, stands_as, stands_in}
use Rattle.history_model.proofs.Keeping.{found}
use Rattle.history_model.proofs.ListLemmas.{All-append, All-found, find-push, flat_map-append}
use Rattle.history_model.proofs.Owners.{on_row}
use Rattle.claim_rule.specs.Rule.{DeskView, state_seen}
use Rattle.booking_rows.specs.Starts.{IsLeastFree}
use Rattle.history_model.proofs.Generations.{free_next, next-push, test_of_key}
use Rattle.lone_desk.specs.Lone.{IsStartable, StartsLeast, after_steps}
use Rattle.lone_desk.proofs.OwnRow.{IsApart, change_last}
use Rattle.host_tiny.specs.Reservations.{Held}
use Rattle.host_tiny.specs.Run.{IsSold, IsEmptyRow, IsSettled, StandFrom, held_of, notes_and_seal, reservations}
use Rattle.host_tiny.proofs.Pieces.{sold_held}

-- ---- rows in order

pub rows_apart : (row : ℕ) (s : State) (q : ℕ) → StandFrom row s → row + length s ≤ q → IsApart q s
rows_apart row [] q is past = tt
rows_apart row (b ∷ bs) q is past =
    (ne_eqb b.row q (λ e. omega (arith, e, is.0, past)), rows_apart (row + 1) bs q is.2 (omega (arith, past)))

none_of_row : (s : State) (q generation : ℕ) → IsApart q s → find (stands_as q generation) s ≡ None
none_of_row [] q generation apart = refl
none_of_row (b ∷ bs) q generation apart =
    ap (λ (t : Bool). cond (t && (b.generation == generation)) (Some b) (find (stands_as q generation) bs)) apart.0 ∙ none_of_row bs q generation apart.1

rows_past : (row : ℕ) (s : State) (q : ℕ) → StandFrom row s → row + length s ≤ q → present s q ≡ None
rows_past row s q is past = none_of_row s q (next_generation s q - 1) (rows_apart row s q is past)

some_next : (row : ℕ) (s : State) (q : ℕ) → StandFrom row s → row ≤ q → q < row + length s → 1 ≤ next_generation s q
some_next row [] q is from to = absurd (omega (arith, from, to))
some_next row (b ∷ bs) q is from to = ⊎_elim
    (λ (here : b.row ≡ q). subst (λ (t : Bool). 1 ≤ max (cond t (b.generation + 1) 0) (next_generation bs q)) (sym (eq-eqb b.row q here)) (omega arith))
    (λ (other : b.row ≡ q → ⊥).
    let rest = some_next (row + 1) bs q is.2 (omega (arith, from, other, is.0)) (omega (arith, to)) in omega (arith, rest))
    (cases_eq b.row q)

rows_there : (row : ℕ) (s : State) (q : ℕ) → StandFrom row s → row ≤ q → q < row + length s → present s q ≡ None → ⊥
rows_there row s q is from to none = let next = some_next row s q is from to in let zero = free_next s q none in omega (arith, next, zero)

stand_more : (row : ℕ) (s : State) (b : Booking) → StandFrom row s → b.row ≡ row + length s → b.generation ≡ 0 → StandFrom row (s ++ b ∷ [])
stand_more row [] b is here first = (omega (arith, here), first, tt)
stand_more row (x ∷ xs) b is here first = (is.0, is.1, stand_more (row + 1) xs b is.2 (omega (arith, here)) first)

some_or_none : (s : State) (q : ℕ) → present s q ≡ None → IsSome (present s q) → ⊥
some_or_none s q none some = absurd (let P : Option Booking → Type 0 = λ o. IsSome o in let no : false ≡ true = subst P none some in cc)

-- the least row that is not in use is the next one
next_row : (s : State) (row : ℕ) → StandFrom 0 s → present s row ≡ None → IsLeastFree s row → row ≡ length s
next_row s row rows free least = ⊎_elim
    (λ (below : row < length s). absurd (rows_there 0 s row rows (omega arith) (omega (arith, below)) free))
    (λ (from : length s ≤ row). ⊎_elim
    (λ (past : length s < row). absurd (some_or_none s (length s) (rows_past 0 s (length s) rows (omega arith)) (least (length s) past)))
    (λ (to : row ≤ length s). omega (arith, from, to))
    (cases_lt (length s) row))
    (cases_lt row (length s))

-- where so many rows are in use there are as many bookings
all_rows : (s : State) (count : ℕ) → StandFrom 0 s → IsLeastFree s count → count ≤ length s
all_rows s count rows least = ⊎_elim
    (λ (few : length s < count). absurd (some_or_none s (length s) (rows_past 0 s (length s) rows (omega arith)) (least (length s) few)))
    (λ (all : count ≤ length s). all)
    (cases_lt (length s) count)

-- ---- the row in the making

next_apart : (row : ℕ) (s : State) → IsApart row s → next_generation s row ≡ 0
next_apart row [] apart = refl
next_apart row (b ∷ bs) apart =
    let rest = next_apart row bs apart.1 in
    ap (λ (t : Bool). max (cond t (b.generation + 1) 0) (next_generation bs row)) apart.0 ∙ omega (arith, rest)

next_last : (front : State) (b : Booking) (row : ℕ) → next_generation (front ++ b ∷ []) row ≡ max (next_generation front row) (cond (b.row == row) (b.generation + 1) 0)
next_last front b row = ap (λ (ks : List (ℕ × ℕ)). next_in ks row) (map-append key_of front (b ∷ [])) ∙ next-push (map key_of front) (key_of b) row

pub found_last : (front : State) (b : Booking) (row : ℕ) → b.row ≡ row → IsApart row front → present (front ++ b ∷ []) row ≡ Some b
found_last front b row here apart =
    let none = next_apart row front apart in
    let next : next_generation (front ++ b ∷ []) row ≡ b.generation + 1 =
    next_last front b row ∙ (ap (λ (t : Bool). max (next_generation front row) (cond t (b.generation + 1) 0)) (eq-eqb b.row row here) ∙ omega (arith, none)) in
    let n = b.generation + 1 - 1 in
    ap (λ (m : ℕ). find (stands_as row (m - 1)) (front ++ b ∷ [])) next
    ∙ (find-push (stands_as row n) front b
    ∙ (ap (λ (o : Option Booking). option_or o (cond (stands_as row n b) (Some b) None)) (none_of_row front row n apart)
    ∙ ap (λ (t : Bool). cond t (Some b) None) (test_of_key row n b here (omega arith))))

not_sold : (phase : Phase) → phase ≡ Making → phase ≡ Prebooked → ⊥
not_sold phase making sold = absurd (let no : Making ≡ Prebooked = sym making ∙ sold in cc)

none_made : (sold : State) (row : ℕ) (b : Booking) → AllByRecursion IsSold sold → present sold row ≡ Some b → b.phase ≡ Making → ⊥
none_made sold row b each at making = not_sold b.phase making (All-found IsSold (stands_in sold row) sold b at each).phase

or_none : {X : Type 0} (o : Option X) → option_or o None ≡ o
or_none None = refl
or_none (Some x) = refl

present_before : (front : State) (b : Booking) (row : ℕ) → (b.row ≡ row → ⊥) → present (front ++ b ∷ []) row ≡ present front row
present_before front b row other =
    let same : next_generation (front ++ b ∷ []) row ≡ next_generation front row =
    next_last front b row ∙ (ap (λ (t : Bool). max (next_generation front row) (cond t (b.generation + 1) 0)) (ne_eqb b.row row other) ∙ omega arith) in
    let n = next_generation front row - 1 in
    ap (λ (m : ℕ). find (stands_as row (m - 1)) (front ++ b ∷ [])) same
    ∙ (find-push (stands_as row n) front b
    ∙ (ap (λ (t : Bool). option_or (present front row) (cond (t && (b.generation == n)) (Some b) None)) (ne_eqb b.row row other) ∙ or_none (present front row)))

-- the empty row at the end, begun or kept
pub record HasRow (s : State) (settled : IsSettled s) (now : State) (row : ℕ) : Type 0 where
  pub last : Booking
  pub empty : IsEmptyRow row last
  pub row_is : row ≡ length settled.sold
  pub now_is : now ≡ settled.sold ++ last ∷ []

made_is_last : (s : State) (settled : IsSettled s) (row : RowNo) (desk : ℕ) → OnRow s row.row (λ b. IsMadeBy desk b × (b.generation ≡ row.generation))
    → HasRow s settled s row.row × (row.generation ≡ 0)
made_is_last s settled row desk on = by_rows settled.is
  where
    Made : Booking → Type 0
    Made b = IsMadeBy desk b × (b.generation ≡ row.generation)

    by_rows : (s ≡ settled.sold) ⊎ ((b : Booking) × IsEmptyRow (length settled.sold) b × (s ≡ settled.sold ++ b ∷ [])) → HasRow s settled s row.row × (row.generation ≡ 0)
    by_rows (inl none) =
        let b = found (present s row.row) Made on in
        absurd (none_made settled.sold row.row b.0 settled.each (ap (λ (t : State). present t row.row) (sym none) ∙ b.1) b.2.0.0)
    by_rows (inr (b, empty, is)) = ⊎_elim
        (λ (here : b.row ≡ row.row). let at : row.row ≡ length settled.sold = sym here ∙ empty.row_is in
        let x = found (present s row.row) Made on in
        let apart = rows_apart 0 settled.sold row.row settled.rows (omega (arith, at)) in
        let same : Some x.0 ≡ Some b = sym x.1 ∙ (ap (λ (t : State). present t row.row) is ∙ found_last settled.sold b row.row here apart) in
        let one : x.0 ≡ b = cc in (
          record {
            last = b;
            empty = record { phase = empty.phase; none = empty.none; owner = empty.owner; row_is = here; first = empty.first };
            row_is = at;
            now_is = is;
          },
          sym x.2.1 ∙ (ap (λ (y : Booking). y.generation) one ∙ empty.first),
        ))
        (λ (other : b.row ≡ row.row → ⊥).
        let x = found (present s row.row) Made on in
        absurd (none_made settled.sold row.row x.0 settled.each
        (sym (present_before settled.sold b row.row other) ∙ (ap (λ (t : State). present t row.row) (sym is) ∙ x.1)) x.2.0.0))
        (cases_eq b.row row.row)

none_is_left : (s : State) (settled : IsSettled s) → ((row : ℕ) → OnRow s row (IsMadeBy 0) → ⊥) → s ≡ settled.sold
none_is_left s settled none = by_rows settled.is
  where
    by_rows : (s ≡ settled.sold) ⊎ ((b : Booking) × IsEmptyRow (length settled.sold) b × (s ≡ settled.sold ++ b ∷ [])) → s ≡ settled.sold
    by_rows (inl is) = is
    by_rows (inr (b, empty, is)) =
        let apart = rows_apart 0 settled.sold (length settled.sold) settled.rows (omega arith) in
        let at : present s (length settled.sold) ≡ Some b = ap (λ (t : State). present t (length settled.sold)) is
        ∙ found_last settled.sold b (length settled.sold) empty.row_is apart in
        absurd (none (length settled.sold) (on_row s (length settled.sold) b (IsMadeBy 0) at (empty.phase, empty.owner)))

-- none that is sold has ended, so none gives way
none_gives_way : (sold : State) (row : ℕ) → AllByRecursion IsSold sold → IsStartable sold row → ⊥
none_gives_way sold row each may =
    let x = found (present sold row) (λ b. (is_ended b.phase ≡ true) × (b.generation < last_generation)) may in
    let no : false ≡ true = sym (ap is_ended (All-found IsSold (stands_in sold row) sold x.0 x.1 each).phase) ∙ x.2.0 in cc

-- what a start leaves
pub row_started : (old new : DeskView) (row : RowNo) → old.number ≡ 0 → (settled : IsSettled (state_seen old)) → StartsLeast old new (Some row)
    → HasRow (state_seen old) settled (state_seen new) row.row × (row.generation ≡ 0)
row_started old new row first settled (inl (makes, same)) =
    let at = made_is_last (state_seen old) settled row old.number makes in
    (record { last = at.0.last; empty = at.0.empty; row_is = at.0.row_is; now_is = same ∙ at.0.now_is }, at.1)
row_started old new row first settled (inr (inl (none, generation, free, least, state))) =
    let s = state_seen old in
    let is : s ≡ settled.sold = none_is_left s settled (λ r on. none r (subst (λ (d : ℕ). OnRow s r (IsMadeBy d)) (sym first) on)) in
    let new_one : Booking = started row.row row.generation old.number (words_of_row s row.row) in (
      record {
        last = new_one;
        empty = record { phase = refl; none = refl; owner = first; row_is = refl; first = generation };
        row_is = next_row settled.sold row.row settled.rows (ap (λ (t : State). present t row.row) (sym is) ∙ free)
            (subst (λ (t : State). IsLeastFree t row.row) is least);
        now_is = state ∙ ap (λ (t : State). t ++ new_one ∷ []) is;
      },
      generation,
    )
row_started old new row first settled (inr (inr (none, full, ended, state))) =
    let s = state_seen old in
    let is : s ≡ settled.sold = none_is_left s settled (λ r on. none r (subst (λ (d : ℕ). OnRow s r (IsMadeBy d)) (sym first) on)) in
    absurd (none_gives_way settled.sold row.row settled.each (subst (λ (t : State). IsStartable t row.row) is ended.0))

pub no_row_started : (old new : DeskView) → old.number ≡ 0 → old.layout.rows ≡ 1024 → (settled : IsSettled (state_seen old)) → StartsLeast old new None
    → (1024 ≤ length settled.sold) × (state_seen new ≡ state_seen old)
no_row_started old new first rows settled (none, least, startable, same) =
    let s = state_seen old in
    let is : s ≡ settled.sold = none_is_left s settled (λ r on. none r (subst (λ (d : ℕ). OnRow s r (IsMadeBy d)) (sym first) on)) in
    let all = all_rows settled.sold old.layout.rows settled.rows (subst (λ (t : State). IsLeastFree t old.layout.rows) is least) in
    (omega (arith, all, rows), same)

-- ---- reservations

pub reservations_more : (sold : State) (b : Booking) → reservations (sold ++ b ∷ []) ≡ reservations sold ++ held_of b.items
reservations_more sold b =
    flat_map-append (λ (x : Booking). held_of x.items) sold (b ∷ [])
    ∙ ap (λ (l : List Held). reservations sold ++ l) (append-nil (held_of b.items))

pub one_each : (sold : State) → AllByRecursion IsSold sold → length (reservations sold) ≡ length sold
one_each [] each = refl
one_each (b ∷ bs) each =
    let rest = one_each bs each.1 in
    let parts = length-append (held_of b.items) (reservations bs) in
    let one = ap length (sold_held b each.0) in
    omega (arith, parts, one, rest)

-- an empty row holds no reservation
with_empty : (sold : State) (b : Booking) → b.items ≡ [] → reservations (sold ++ b ∷ []) ≡ reservations sold
with_empty sold b none =
    reservations_more sold b ∙ (ap (λ (is : List BookedItem). reservations sold ++ held_of is) none ∙ append-nil (reservations sold))

pub settled_reservations : (s : State) (settled : IsSettled s) → reservations s ≡ reservations settled.sold
settled_reservations s settled = by_rows settled.is
  where
    by_rows : (s ≡ settled.sold) ⊎ ((b : Booking) × IsEmptyRow (length settled.sold) b × (s ≡ settled.sold ++ b ∷ [])) → reservations s ≡ reservations settled.sold
    by_rows (inl is) = ap reservations is
    by_rows (inr (b, empty, is)) = ap reservations is ∙ with_empty settled.sold b empty.none

pub row_reservations : (s : State) (settled : IsSettled s) (now : State) (row : ℕ) → HasRow s settled now row → reservations now ≡ reservations settled.sold
row_reservations s settled now row has = ap reservations has.now_is ∙ with_empty settled.sold has.last has.empty.none

-- a row left empty settles
pub settles_empty : (s : State) (settled : IsSettled s) (row : ℕ) (now : State) (b : Booking) → row ≡ length settled.sold → IsEmptyRow row b
    → now ≡ settled.sold ++ b ∷ [] → IsSettled now
settles_empty s settled row now b at empty is = record {
  sold = settled.sold;
  each = settled.each;
  rows = settled.rows;
  is = inr (b, record { phase = empty.phase; none = empty.none; owner = empty.owner; row_is = empty.row_is ∙ at; first = empty.first }, is);
}

-- and so does a row sealed with one place
pub settles_sold : (s : State) (settled : IsSettled s) (row : ℕ) (now : State) (b : Booking) → row ≡ length settled.sold → b.row ≡ row → b.generation ≡ 0 → IsSold b
    → now ≡ settled.sold ++ b ∷ [] → IsSettled now
settles_sold s settled row now b at here first sold is = record {
  sold = settled.sold ++ b ∷ [];
  each = All-append IsSold settled.sold (b ∷ []) settled.each (sold, tt);
  rows = stand_more 0 settled.sold b settled.rows (omega (arith, here, at)) first;
  is = inl is;
}

-- ---- the seal

-- notes and the seal leave the row's items
pub sealed_last : (front : State) (b : Booking) (row desk m n o p : ℕ) → b.row ≡ row → IsApart row front
    → (c : Booking) × (c.row ≡ row) × (c.items ≡ b.items) × (c.phase ≡ Prebooked)
    × (after_steps (front ++ b ∷ []) desk (notes_and_seal row m n o p) ≡ front ++ c ∷ []) × (c.generation ≡ b.generation)
sealed_last front b row desk m n o p here apart =
    let one = noted 1 m b in
    let two = noted 2 n one in
    let three = noted 3 o two in
    let four = noted 4 p three in (
      in_phase Prebooked four,
      here,
      refl,
      refl,
      ap (λ (s : State). change (change (change (change s row (noted 2 n)) row (noted 3 o)) row (noted 4 p)) row (in_phase Prebooked))
          (change_last front b row (noted 1 m) here apart)
          ∙ (ap (λ (s : State). change (change (change s row (noted 3 o)) row (noted 4 p)) row (in_phase Prebooked)) (change_last front one row (noted 2 n) here apart)
          ∙ (ap (λ (s : State). change (change s row (noted 4 p)) row (in_phase Prebooked)) (change_last front two row (noted 3 o) here apart)
          ∙ (ap (λ (s : State). change s row (in_phase Prebooked)) (change_last front three row (noted 4 p) here apart)
          ∙ change_last front four row (in_phase Prebooked) here apart))),
      refl,
    )

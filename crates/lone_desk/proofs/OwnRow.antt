-- The row that a lone desk makes is the last of the list, and its steps there leave the others as they are.
use Rattle.std.proofs.Common.{◌≡◌, ℕ, zero, suc, ◌+◌, ◌-◌, max, Bool, true, false, cond, eq-eqb, List, [], ◌∷◌, ◌++◌, length, map, refl, sym, ap, ◌∙◌, subst, arith, append-nil}
use Rattle.std.specs.Prelude.{◌==◌, ◌&&◌}
use Rattle.std.specs.List.{AllByRecursion}
use Rattle.std.proofs.lemmas.Bool.Decides.{Decides-eqb}
use mathlib.Core.List.{map-append}
use Rattle.leg_masks.specs.Interval.{Interval}
use Rattle.history_model.specs.declared.entry.Step.{Step}
use Rattle.history_model.specs.declared.entry.Step.TheVariants.{Look, Take, Give, Start, SawRow, Note, Seal, Turn, LostTurn, Close, Met}
use Rattle.history_model.specs.Apply.{apply_step, item_taken, given, noted, in_phase}
use Rattle.history_model.specs.declared.booking.BookedItem.{BookedItem}
use Rattle.history_model.specs.Booking.{Booking, State, key_of, stands_as, next_in, next_generation, change, all_items}
use Rattle.history_model.specs.Lists.{change_first}
use Rattle.history_model.proofs.Generations.{next-push, test_of_key}
use Rattle.history_model.proofs.ListLemmas.{All-append, flat_map-append}
use Rattle.hold_core.specs.declared.tries.Outcome.{Outcome}
use Rattle.hold_core.specs.declared.tries.Outcome.TheVariants.{Won, Refused, Contended}
use Rattle.hold_core.specs.Tries.{Part, Try, looks_at, part_steps, parts_steps, try_steps, undone, won_steps}
use Rattle.hold_core.specs.Places.{tries_steps, gives_back, won_by}
use Rattle.lone_desk.specs.Lone.{is_at, after_steps}

-- the row is none of these bookings'
abbrev pub IsApart : ℕ → State → Type 0
IsApart row s = AllByRecursion (λ b. (b.row == row) ≡ false) s

-- the steps are of the row, or look
abbrev pub AllAt : ℕ → List Step → Type 0
AllAt row steps = AllByRecursion (λ st. is_at row st ≡ true) steps

pub changed_behind : (p : Booking → Bool) (f : Booking → Booking) (before after : State) (b : Booking) → AllByRecursion (λ x. p x ≡ false) before → p b ≡ true
    → change_first p f (before ++ b ∷ after) ≡ before ++ f b ∷ after
changed_behind p f [] after b none passes = ap (λ (t : Bool). cond t (f b ∷ after) (b ∷ change_first p f after)) passes
changed_behind p f (x ∷ before) after b none passes =
    ap (λ (t : Bool). cond t (f x ∷ (before ++ b ∷ after)) (x ∷ change_first p f (before ++ b ∷ after))) none.0
    ∙ ap (λ (s : State). x ∷ s) (changed_behind p f before after b none.1 passes)

apart_next : (front : State) (row : ℕ) → IsApart row front → next_generation front row ≡ 0
apart_next [] row apart = refl
apart_next (x ∷ front) row apart =
    ap (λ (t : Bool). max (cond t (x.generation + 1) 0) (next_generation front row)) apart.0
    ∙ (let rest = apart_next front row apart.1 in let none : max 0 (next_generation front row) ≡ 0 = omega (arith, rest) in none)

-- so the last is the row's present booking
last_next : (front : State) (b : Booking) (row : ℕ) → b.row ≡ row → IsApart row front → next_generation (front ++ b ∷ []) row ≡ b.generation + 1
last_next front b row here apart =
    ap (λ (ks : List (ℕ × ℕ)). next_in ks row) (map-append key_of front (b ∷ []))
    ∙ (next-push (map key_of front) (key_of b) row
    ∙ (ap (λ (t : Bool). max (next_generation front row) (cond t (b.generation + 1) 0)) (eq-eqb b.row row here)
    ∙ (let none = apart_next front row apart in let top : max (next_generation front row) (b.generation + 1) ≡ b.generation + 1 = omega (arith, none) in top)))

none_stands : (row generation : ℕ) (front : State) → IsApart row front → AllByRecursion (λ x. stands_as row generation x ≡ false) front
none_stands row generation [] apart = tt
none_stands row generation (x ∷ front) apart = (ap (λ (t : Bool). t && (x.generation == generation)) apart.0, none_stands row generation front apart.1)

pub change_last : (front : State) (b : Booking) (row : ℕ) (f : Booking → Booking) → b.row ≡ row → IsApart row front
    → change (front ++ b ∷ []) row f ≡ front ++ f b ∷ []
change_last front b row f here apart =
    let n = next_generation (front ++ b ∷ []) row - 1 in
    let next = last_next front b row here apart in
    changed_behind (stands_as row n) f front [] b (none_stands row n front apart) (test_of_key row n b here (omega (arith, next)))

-- the items of all, with those of the last
pub items_with : (front : State) (b : Booking) → all_items (front ++ b ∷ []) ≡ all_items front ++ b.items
items_with front b = flat_map-append (λ (x : Booking). x.items) front (b ∷ []) ∙ ap (λ (l : List BookedItem). all_items front ++ l) (append-nil b.items)

-- the list with another booking in the last one's place
pub record KeepsFront (front : State) (row : ℕ) (s : State) : Type 0 where
  pub last : Booking
  pub same : last.row ≡ row
  pub is : s ≡ front ++ last ∷ []

changed : (front : State) (b : Booking) (row r : ℕ) (f : Booking → Booking) → b.row ≡ row → ((x : Booking) → (f x).row ≡ x.row) → (r == row) ≡ true → IsApart row front
    → KeepsFront front row (change (front ++ b ∷ []) r f)
changed front b row r f here same at apart =
    let is : r ≡ row = (Decides-eqb r row).0 at in
    record {
      last = f b;
      same = same b ∙ here;
      is = ap (λ (k : ℕ). change (front ++ b ∷ []) k f) is ∙ change_last front b row f here apart;
    }

step_keeps : (front : State) (b : Booking) (row desk : ℕ) (st : Step) → b.row ≡ row → IsApart row front → is_at row st ≡ true
    → KeepsFront front row (apply_step (front ++ b ∷ []) desk st)
step_keeps front b row desk (Look place half shown) here apart at = record { last = b; same = here; is = refl }
step_keeps front b row desk (Take r place span) here apart at = changed front b row r (item_taken place span) here (λ x. refl) at apart
step_keeps front b row desk (Give r item) here apart at = changed front b row r (given item) here (λ x. refl) at apart
step_keeps front b row desk (Start r generation) here apart at = absurd cc
step_keeps front b row desk (SawRow r word value) here apart at = record { last = b; same = here; is = refl }
step_keeps front b row desk (Note r word value) here apart at = changed front b row r (noted word value) here (λ x. refl) at apart
step_keeps front b row desk (Seal r phase) here apart at = changed front b row r (in_phase phase) here (λ x. refl) at apart
step_keeps front b row desk (Turn r from to moment amount successor) here apart at = absurd cc
step_keeps front b row desk (LostTurn r wanted shown) here apart at = record { last = b; same = here; is = refl }
step_keeps front b row desk (Close r) here apart at = absurd cc
step_keeps front b row desk Met here apart at = record { last = b; same = here; is = refl }

pub steps_keep : (front : State) (b : Booking) (row desk : ℕ) (steps : List Step) → b.row ≡ row → IsApart row front → AllAt row steps
    → KeepsFront front row (after_steps (front ++ b ∷ []) desk steps)
steps_keep front b row desk [] here apart at = record { last = b; same = here; is = refl }
steps_keep front b row desk (st ∷ steps) here apart at =
    let one = step_keeps front b row desk st here apart at.0 in
    subst (λ (s : State). KeepsFront front row (after_steps s desk steps)) (sym one.is) (steps_keep front one.last row desk steps one.same apart at.1)

looks_at_row : (row place : ℕ) (piece : Interval) (shown : List ℕ) → AllAt row (looks_at place piece shown)
looks_at_row row place piece [] = tt
looks_at_row row place piece (w ∷ ws) = (refl, looks_at_row row place piece ws)

won_at_row : (row k place : ℕ) (piece : Interval) (o : Outcome) → AllAt row (won_steps row k place piece o)
won_at_row row k place piece Won = (eq-eqb row row refl, (eq-eqb row row refl, tt))
won_at_row row k place piece Refused = tt
won_at_row row k place piece Contended = tt

parts_at_row : (row k place : ℕ) (ts : List Part) → AllAt row (parts_steps row k place ts)
parts_at_row row k place [] = tt
parts_at_row row k place (t ∷ ts) =
    All-append (λ st. is_at row st ≡ true) (part_steps row k place t) (parts_steps row (k + 1) place ts)
    (All-append (λ st. is_at row st ≡ true) (looks_at place t.piece t.shown) (won_steps row k place t.piece t.outcome) (looks_at_row row place t.piece t.shown) (won_at_row row k place t.piece t.outcome))
    (parts_at_row row (k + 1) place ts)

undone_at_row : (row k : ℕ) (o : Outcome) (ts : List Part) → AllAt row (undone row k o ts)
undone_at_row row k Won ts = tt
undone_at_row row k Refused [] = tt
undone_at_row row k Refused (t ∷ []) = tt
undone_at_row row k Refused (t ∷ u ∷ ts) = (eq-eqb row row refl, tt)
undone_at_row row k Contended [] = tt
undone_at_row row k Contended (t ∷ []) = tt
undone_at_row row k Contended (t ∷ u ∷ ts) = (eq-eqb row row refl, tt)

-- the tries for a row are steps of it
pub tries_at_row : (row k : ℕ) (span : Interval) (ts : List Try) → AllAt row (tries_steps row k span ts)
tries_at_row row k span [] = tt
tries_at_row row k span (t ∷ ts) =
    All-append (λ st. is_at row st ≡ true) (try_steps row k t) (tries_steps row (k + length (won_by span t)) span ts)
    (All-append (λ st. is_at row st ≡ true) (parts_steps row k t.place t.parts) (undone row k t.outcome t.parts) (parts_at_row row k t.place t.parts) (undone_at_row row k t.outcome t.parts))
    (tries_at_row row (k + length (won_by span t)) span ts)

pub gives_at_row : (row n : ℕ) → AllAt row (gives_back row n)
gives_at_row row zero = tt
gives_at_row row (suc n) = (eq-eqb row row refl, gives_at_row row n)

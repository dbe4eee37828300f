-- What live bookings occupy, row by row.
use Rattle.std.proofs.Common.{◌≡◌, ◌≢◌, ◌∙◌, ℕ, ◌+◌, ◌-◌, ⊎_elim, Bool, true, false, ◌&&◌, ◌||◌, cond, eqb, ltb, eq-eqb, [], ◌∷◌, map, find, refl, sym, ap, Option, Some, None, arith}
use Rattle.std.specs.List.{AllByRecursion, filter, list_any}
use Rattle.std.specs.Option.{option_map_or}
use Rattle.std.proofs.lemmas.Bool.{and_from, and_parts, both_ways, eqb-true, false_from_ne_true, lt-ltb}
use Rattle.std.proofs.lemmas.Bool.Decides.{nat_tests}
use Rattle.history_model.specs.declared.phase.Phase.{Phase}
use Rattle.history_model.specs.declared.phase.Phase.TheVariants.{Free, Making, Prebooked, Confirmed, Fulfilled, Ending, Ended}
use Rattle.history_model.specs.Booking.{Booking, State, is_occupied, key_of, next_generation, next_in, occupies, phase_of_row, present, stands_in}
use Rattle.history_model.specs.Laws.{IsInRange, IsPresentOrEnded}
use Rattle.history_model.specs.Lists.{Pairwise}
use Rattle.history_model.specs.Phase.{is_ended, is_live}
use Rattle.history_model.proofs.Items.{any_of_items}
use Rattle.history_model.proofs.ListLemmas.{All-map}
use Rattle.history_model.proofs.Ranges.{ranges_all, row_of}
use Rattle.claim_rule.specs.Walls.{WallView}
use Rattle.cold_store.specs.Exports.{IsClosed, is_live_below, state_on}
use Rattle.cold_store.proofs.WallRows.{well_formed}

-- tests on lists

any-filter : (f g : Booking → Bool) (s : State) → list_any f (filter g s) ≡ list_any (λ b. g b && f b) s
any-filter f g [] = refl
any-filter f g (b ∷ bs) = go (g b) (any-filter f g bs)
  where
    go : (t : Bool) → list_any f (filter g bs) ≡ list_any (λ b. g b && f b) bs
        → list_any f (cond t (b ∷ filter g bs) (filter g bs)) ≡ ((t && f b) || list_any (λ b. g b && f b) bs)
    go true e = ap (λ x. f b || x) e
    go false e = e

none-any : (f g : Booking → Bool) (s : State) → AllByRecursion (λ b. g b ≡ false) s → list_any (λ b. g b && f b) s ≡ false
none-any f g [] none = refl
none-any f g (b ∷ bs) none = ap (λ t. (t && f b) || list_any (λ b. g b && f b) bs) none.0 ∙ none-any f g bs none.1

distribute : (h k f a b : Bool) → (((h || k) && f) || (a || b)) ≡ (((h && f) || a) || ((k && f) || b))
distribute true true true a b = refl
distribute true false true a b = refl
distribute true true false a b = refl
distribute true false false a b = refl
distribute false true true true b = refl
distribute false true true false b = refl
distribute false true false a b = refl
distribute false false f a b = refl

any-either : (f g h k : Booking → Bool) (s : State) → ((b : Booking) → g b ≡ (h b || k b))
    → list_any (λ b. g b && f b) s ≡ (list_any (λ b. h b && f b) s || list_any (λ b. k b && f b) s)
any-either f g h k [] same = refl
any-either f g h k (b ∷ bs) same =
    (λ j. (same b j && f b) || any-either f g h k bs same j)
    ∙ distribute (h b) (k b) (f b) (list_any (λ b. h b && f b) bs) (list_any (λ b. k b && f b) bs)

or_false : (a : Bool) → (a || false) ≡ a
or_false true = refl
or_false false = refl

-- where those that pass g stand as p says, and one alone stands so
one_stands : (p g f : Booking → Bool) (s : State) → AllByRecursion (λ b. g b ≡ true → p b ≡ true) s
    → ((b c : Booking) → p b ≡ true → p c ≡ true → key_of b ≡ key_of c) → Pairwise (λ (j k : ℕ × ℕ). j ≢ k) (map key_of s)
    → list_any (λ b. g b && f b) s ≡ option_map_or (λ b. g b && f b) (find p s) false
one_stands p g f [] all same keys = refl
one_stands p g f (b ∷ bs) all same keys = go (p b) refl (one_stands p g f bs all.1 same keys.1)
  where
    others : (cs : State) → p b ≡ true → AllByRecursion (λ (k : ℕ × ℕ). key_of b ≢ k) (map key_of cs) → AllByRecursion (λ b. g b ≡ true → p b ≡ true) cs
        → AllByRecursion (λ c. g c ≡ false) cs
    others [] e unlike so = tt
    others (c ∷ cs) e unlike so = (false_from_ne_true (g c) (λ x. unlike.0 (same b c e (so.0 x))), others cs e unlike.1 so.1)

    go : (t : Bool) → p b ≡ t → list_any (λ b. g b && f b) bs ≡ option_map_or (λ b. g b && f b) (find p bs) false
        → ((g b && f b) || list_any (λ b. g b && f b) bs) ≡ option_map_or (λ b. g b && f b) (cond t (Some b) (find p bs)) false
    go true e rest = ap (λ t. (g b && f b) || t) (none-any f g bs (others bs e keys.0 all.1)) ∙ or_false (g b && f b)
    go false e rest =
        let no : g b ≡ false = false_from_ne_true (g b) (λ x. both_ways (p b) e (all.0 x)) in
        ap (λ t. (t && f b) || list_any (λ b. g b && f b) bs) no ∙ rest

-- live bookings

live_not_ended : (phase : Phase) → is_live phase ≡ true → is_ended phase ≡ true → ⊥
live_not_ended Free a b = cc
live_not_ended Making a b = cc
live_not_ended Prebooked a b = cc
live_not_ended Confirmed a b = cc
live_not_ended Fulfilled a b = cc
live_not_ended (Ending kind) a b = cc
live_not_ended (Ended kind) a b = cc

abbrev live_in : ℕ → Booking → Bool
live_in row b = eqb b.row row && is_live b.phase

lt_more : (a n : ℕ) → ltb a (n + 1) ≡ (ltb a n || eqb a n)
lt_more a n = grind (arith, nat_tests)

and_either : (x y l : Bool) → ((x || y) && l) ≡ ((x && l) || (y && l))
and_either true true true = refl
and_either true false true = refl
and_either true true false = refl
and_either true false false = refl
and_either false y l = refl

live_split : (row : ℕ) (b : Booking) → is_live_below (row + 1) b ≡ (is_live_below row b || live_in row b)
live_split row b = ap (λ t. t && is_live b.phase) (lt_more b.row row) ∙ and_either (ltb b.row row) (eqb b.row row) (is_live b.phase)

stands_live : (s : State) (row : ℕ) (b : Booking) → IsPresentOrEnded (map key_of s) b → live_in row b ≡ true → stands_in s row b ≡ true
stands_live s row b is live =
    let parts = and_parts (eqb b.row row) (is_live b.phase) live in
    let here = eqb-true b.row row parts.0 in
    ⊎_elim
    (λ (last : b.generation + 1 ≡ next_in (map key_of s) b.row).
    let next : b.generation + 1 ≡ next_generation s row = last ∙ ap (next_in (map key_of s)) here in
    let so : b.generation ≡ next_generation s row - 1 = omega (arith, next) in
    and_from (eqb b.row row) (eqb b.generation (next_generation s row - 1)) parts.0 (eq-eqb b.generation (next_generation s row - 1) so))
    (λ (ended : is_ended b.phase ≡ true). absurd (live_not_ended b.phase parts.1 ended))
    is

one_key : (s : State) (row : ℕ) (b c : Booking) → stands_in s row b ≡ true → stands_in s row c ≡ true → key_of b ≡ key_of c
one_key s row b c x y =
    let n = next_generation s row - 1 in
    let l = and_parts (eqb b.row row) (eqb b.generation n) x in
    let m = and_parts (eqb c.row row) (eqb c.generation n) y in
    let rows : b.row ≡ c.row = eqb-true b.row row l.0 ∙ sym (eqb-true c.row row m.0) in
    let generations : b.generation ≡ c.generation = eqb-true b.generation n l.1 ∙ sym (eqb-true c.generation n m.1) in
    λ j. (rows j, generations j)

-- what the live bookings of the rows below a number occupy
abbrev pub live_on : WallView → ℕ → ℕ → ℕ → Bool
live_on w rows place leg = is_occupied (filter (is_live_below rows) (state_on w)) place leg

as_tests : (g : Booking → Bool) (s : State) (place leg : ℕ) → is_occupied (filter g s) place leg ≡ list_any (λ b. g b && list_any (occupies place leg) b.items) s
as_tests g s place leg = sym (any_of_items (occupies place leg) (filter g s)) ∙ any-filter (λ b. list_any (occupies place leg) b.items) g s

row_part : (w : WallView) (row place leg : ℕ) → IsClosed w
    → live_on w (row + 1) place leg ≡ (live_on w row place leg || option_map_or (λ (b : Booking). live_in row b && list_any (occupies place leg) b.items) (present (state_on w) row) false)
row_part w row place leg closed =
    let s = state_on w in
    let good = well_formed w closed in
    let f : Booking → Bool = λ b. list_any (occupies place leg) b.items in
    as_tests (is_live_below (row + 1)) s place leg
    ∙ (any-either f (is_live_below (row + 1)) (is_live_below row) (live_in row) s (live_split row)
    ∙ (λ j. sym (as_tests (is_live_below row) s place leg) j
    || one_stands (stands_in s row) (live_in row) f s (All-map {P = IsPresentOrEnded (map key_of s)} {Q = λ b. live_in row b ≡ true → stands_in s row b ≡ true} (stands_live s row) s good.earlier) (one_key s row) good.keys j))

-- a row whose booking isn't live adds nothing
pub none_more : (w : WallView) (row place leg : ℕ) → IsClosed w → is_live (phase_of_row (state_on w) row) ≡ false → live_on w (row + 1) place leg ≡ live_on w row place leg
none_more w row place leg closed dead =
    row_part w row place leg closed ∙ (ap (λ t. live_on w row place leg || t) (go (present (state_on w) row) dead) ∙ or_false (live_on w row place leg))
  where
    and_false : (a : Bool) → (a && false) ≡ false
    and_false true = refl
    and_false false = refl

    go : (o : Option Booking) → is_live (option_map_or (λ (b : Booking). b.phase) o Free) ≡ false → option_map_or (λ (b : Booking). live_in row b && list_any (occupies place leg) b.items) o false ≡ false
    go None e = refl
    go (Some b) e = ap (λ t. (eqb b.row row && t) && list_any (occupies place leg) b.items) e ∙ ap (λ t. t && list_any (occupies place leg) b.items) (and_false (eqb b.row row))

-- and one that is adds its items
pub live_more : (w : WallView) (row place leg : ℕ) (b : Booking) → IsClosed w → present (state_on w) row ≡ Some b → is_live b.phase ≡ true
    → live_on w (row + 1) place leg ≡ (live_on w row place leg || list_any (occupies place leg) b.items)
live_more w row place leg b closed at live =
    row_part w row place leg closed
    ∙ (ap (λ (o : Option Booking). live_on w row place leg || option_map_or (λ (b : Booking). live_in row b && list_any (occupies place leg) b.items) o false) at
    ∙ (λ j. live_on w row place leg || ((eq-eqb b.row row (row_of (state_on w) row b at) j && live j) && list_any (occupies place leg) b.items)))

-- all rows together
pub live_all : (w : WallView) → IsClosed w → filter (is_live_below w.layout.rows) (state_on w) ≡ filter (λ b. is_live b.phase) (state_on w)
live_all w closed = go (state_on w) (ranges_all w.layout w.history closed.legal)
  where
    go : (s : State) → AllByRecursion (IsInRange w.layout) s → filter (is_live_below w.layout.rows) s ≡ filter (λ b. is_live b.phase) s
    go [] all = refl
    go (b ∷ bs) all =
        let within = all.0.row in
        (λ j. cond (lt-ltb b.row w.layout.rows within j && is_live b.phase) (b ∷ go bs all.1 j) (go bs all.1 j))

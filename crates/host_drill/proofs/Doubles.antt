-- Where no two live bookings share a place on a leg, there is no pair to count.
use Rattle.std.proofs.Common.{◌-◌, ◌≡◌, ◌≢◌, ◌∙◌, ◌+◌, ◌⊎◌, inl, inr, ℕ, zero, suc, List, [], ◌∷◌, Option, Some, None, Bool, true, false, ◌&&◌, ◌||◌, cond, refl, sym, subst, arith}
use Rattle.std.specs.List.{AllByRecursion, list_any, find}
use Rattle.std.specs.Option.{option_map_or}
use Rattle.std.proofs.lemmas.Bool.{eqb-true, ltb-true, leb-true}
use Rattle.leg_masks.specs.Interval.{Interval, Holds, has_leg}
use Rattle.history_model.specs.Phase.{is_live}
use Rattle.history_model.specs.declared.booking.BookedItem.{BookedItem}
use Rattle.history_model.specs.Booking.{Booking, State, present, stands_in, next_generation}
use Rattle.history_model.proofs.Generations.{key_of_test}
use Rattle.history_model.specs.Lists.{Pairwise, Across}
use Rattle.history_model.specs.Laws.{AreClear, NoDouble}
use Rattle.history_model.proofs.ListLemmas.{All-found}
use Rattle.host_drill.specs.Totals.{count_below}
use Rattle.host_drill.proofs.Sums.{count_none}
use Rattle.host_drill.specs.Doubles.{any_below, share_a_leg, are_double, doubled_of}

and_both : (a b : Bool) → (a && b) ≡ true → (a ≡ true) × (b ≡ true)
and_both true b e = (refl, e)
and_both false b e = absurd cc

or_none : (a b : Bool) → a ≡ false → b ≡ false → (a || b) ≡ false
or_none false b e f = f
or_none true b e f = absurd cc

not_true : (b : Bool) → (b ≡ true → ⊥) → b ≡ false
not_true true never = absurd (never refl)
not_true false never = refl

-- a number that passes
any_found : (test : ℕ → Bool) (n : ℕ) → any_below test n ≡ true → (k : ℕ) × (test k ≡ true)
any_found test zero e = absurd cc
any_found test (suc n) e = last (λ before. any_found test n before) (any_below test n) (test n) refl refl e
  where
    last : (any_below test n ≡ true → (k : ℕ) × (test k ≡ true)) → (a b : Bool) → any_below test n ≡ a → test n ≡ b → (a || b) ≡ true → (k : ℕ) × (test k ≡ true)
    last earlier true b before here both = earlier before
    last earlier false b before here both = (n, here ∙ both)

-- items that are clear of each other have no leg in common
both_have : (i j : BookedItem) → (AreClear i j) ⊎ (AreClear j i) → i.place ≡ j.place → (leg : ℕ) → Holds i.span leg → Holds j.span leg → ⊥
both_have i j (inl apart) place leg mine theirs = apart place (leg, mine, theirs)
both_have i j (inr apart) place leg mine theirs = apart (sym place) (leg, theirs, mine)

holds : (span : Interval) (leg : ℕ) → has_leg span leg ≡ true → Holds span leg
holds span leg has =
    let both = and_both _ _ has in
    (leb-true span.from leg both.0, ltb-true leg span.to both.1)

share_none : (i j : BookedItem) → (AreClear i j) ⊎ (AreClear j i) → share_a_leg i j ≡ false
share_none i j clear = not_true (share_a_leg i j) (λ (shared : share_a_leg i j ≡ true).
    let both = and_both _ _ shared in
    let leg = any_found (λ leg. has_leg i.span leg && has_leg j.span leg) i.span.to both.1 in
    let has = and_both _ _ leg.1 in
    both_have i j clear (eqb-true i.place j.place both.0) leg.0 (holds i.span leg.0 has.0) (holds j.span leg.0 has.1))

any_none : {X : Type 0} (test : X → Bool) (xs : List X) → AllByRecursion (λ x. test x ≡ false) xs → list_any test xs ≡ false
any_none test [] none = refl
any_none test (x ∷ xs) none = or_none (test x) (list_any test xs) none.0 (any_none test xs none.1)

-- neither have the items of one list with those of another
first_none : (i : BookedItem) (js : List BookedItem) → AllByRecursion (AreClear i) js → AllByRecursion (λ j. share_a_leg i j ≡ false) js
first_none i [] clear = tt
first_none i (j ∷ js) clear = (share_none i j (inl clear.0), first_none i js clear.1)

across_none : (is js : List BookedItem) → Across AreClear is js → AllByRecursion (λ i. list_any (share_a_leg i) js ≡ false) is
across_none [] js clear = tt
across_none (i ∷ is) js clear = (any_none (share_a_leg i) js (first_none i js clear.0), across_none is js clear.1)

column_none : (i : BookedItem) (is js : List BookedItem) → Across AreClear js (i ∷ is) → AllByRecursion (λ j. share_a_leg i j ≡ false) js
column_none i is [] clear = tt
column_none i is (j ∷ js) clear = (share_none i j (inr clear.0.0), column_none i is js clear.1)

rest_clear : (i : BookedItem) (is js : List BookedItem) → Across AreClear js (i ∷ is) → Across AreClear js is
rest_clear i is [] clear = tt
rest_clear i is (j ∷ js) clear = (clear.0.1, rest_clear i is js clear.1)

back_none : (is js : List BookedItem) → Across AreClear js is → AllByRecursion (λ i. list_any (share_a_leg i) js ≡ false) is
back_none [] js clear = tt
back_none (i ∷ is) js clear = (any_none (share_a_leg i) js (column_none i is js clear), back_none is js (rest_clear i is js clear))

-- two elements that are found by tests that no element passes both of
pair_step : {X : Type 0} (R : X → X → Type 0) (p q : X → Bool) (x : X) (xs : List X) (b c : X) (s t : Bool) → p x ≡ s → q x ≡ t
    → cond s (Some x) (find p xs) ≡ Some b → cond t (Some x) (find q xs) ≡ Some c → (p x ≡ true → q x ≡ false) → AllByRecursion (R x) xs
    → (find p xs ≡ Some b → find q xs ≡ Some c → R b c ⊎ R c b) → R b c ⊎ R c b
pair_step R p q x xs b c true true ps qs e f apart all rest = absurd (let never : true ≡ false = sym qs ∙ apart ps in cc)
pair_step {X = X} R p q x xs b c true false ps qs e f apart all rest =
    let same : x ≡ b = cc in inl (subst (λ (y : X). R y c) same (All-found (R x) q xs c f all))
pair_step {X = X} R p q x xs b c false true ps qs e f apart all rest =
    let same : x ≡ c = cc in inr (subst (λ (y : X). R y b) same (All-found (R x) p xs b e all))
pair_step R p q x xs b c false false ps qs e f apart all rest = rest e f

pair_found : {X : Type 0} (R : X → X → Type 0) (p q : X → Bool) → ((x : X) → p x ≡ true → q x ≡ false) → (xs : List X) (b c : X)
    → find p xs ≡ Some b → find q xs ≡ Some c → Pairwise R xs → R b c ⊎ R c b
pair_found R p q apart [] b c e f all = absurd cc
pair_found R p q apart (x ∷ xs) b c e f all =
    pair_step R p q x xs b c (p x) (q x) refl refl e f (apart x) all.0 (λ e f. pair_found R p q apart xs b c e f all.1)

all_empty : (is : List BookedItem) → AllByRecursion (λ i. list_any (share_a_leg i) [] ≡ false) is
all_empty [] = tt
all_empty (i ∷ is) = (refl, all_empty is)

abbrev OneWay : List BookedItem → List BookedItem → Type 0
OneWay is js = Across AreClear is js ⊎ Across AreClear js is

share_nothing : (is js : List BookedItem) → OneWay is js → list_any (λ i. list_any (share_a_leg i) js) is ≡ false
share_nothing is js (inl clear) = any_none (λ i. list_any (share_a_leg i) js) is (across_none is js clear)
share_nothing is js (inr clear) = any_none (λ i. list_any (share_a_leg i) js) is (back_none is js clear)

live_share_nothing : (b c : Booking) (s t : Bool) → (s ≡ true → t ≡ true → OneWay b.items c.items)
    → list_any (λ i. list_any (share_a_leg i) (cond t c.items [])) (cond s b.items []) ≡ false
live_share_nothing b c false t clear = refl
live_share_nothing b c true false clear = any_none (λ i. list_any (share_a_leg i) []) b.items (all_empty b.items)
live_share_nothing b c true true clear = share_nothing b.items c.items (clear refl refl)

abbrev items_of : Option Booking → List BookedItem
items_of o = option_map_or (λ b. cond (is_live b.phase) b.items []) o []

clear_of : (o p : Option Booking)
    → ((b c : Booking) → o ≡ Some b → p ≡ Some c → is_live b.phase ≡ true → is_live c.phase ≡ true → OneWay b.items c.items)
    → list_any (λ i. list_any (share_a_leg i) (items_of p)) (items_of o) ≡ false
clear_of None p clear = refl
clear_of (Some b) None clear = any_none (λ i. list_any (share_a_leg i) []) (items_of (Some b)) (all_empty (items_of (Some b)))
clear_of (Some b) (Some c) clear = live_share_nothing b c (is_live b.phase) (is_live c.phase) (clear b c refl refl)

ways : {P Q : Type 0} {A B : Type 0} → (A → B → P) ⊎ (B → A → Q) → A → B → P ⊎ Q
ways (inl f) a b = inl (f a b)
ways (inr f) a b = inr (f b a)

none_double : (s : State) (row other : ℕ) → row ≢ other → NoDouble s → are_double s row other ≡ false
none_double s row other differ clear =
    clear_of (present s row) (present s other) (λ b c e f.
    ways (pair_found (λ b c. is_live b.phase ≡ true → is_live c.phase ≡ true → Across AreClear b.items c.items) (stands_in s row) (stands_in s other) apart s b c e f clear))
  where
    apart : (x : Booking) → stands_in s row x ≡ true → stands_in s other x ≡ false
    apart x here = not_true (stands_in s other x)
        (λ there. differ (sym (key_of_test row (next_generation s row - 1) x here).0 ∙ (key_of_test other (next_generation s other - 1) x there).0))

-- no two live bookings share a place on a leg, so no pair does
pub no_doubles : (s : State) (rows : ℕ) → NoDouble s → doubled_of s rows ≡ 0
no_doubles s zero clear = refl
no_doubles s (suc row) clear =
    let before = no_doubles s row clear in
    let here = count_none (are_double s row) row (λ other less. none_double s row other (λ same. let e : ⊥ = omega (arith, less, same) in e) clear) in
    let e : doubled_of s row + count_below (are_double s row) row ≡ 0 = omega (arith, before, here) in e

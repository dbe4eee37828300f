-- The accounts of one row more, and the table of the accounts of all.
use Rattle.std.proofs.Common.{◌⊎◌, ◌≡◌, ◌∙◌, ℕ, zero, suc, ◌+◌, ◌*◌, ◌<◌, ◌≤◌, Bool, true, false, cond, eqb, eq-eqb, ne_eqb, List, [], ◌∷◌, ◌++◌, map, length, get_or, refl, sym, ap, subst, Option, Some, None, IsSomeAnd, arith, inl, inr, append-nil}
use Rattle.std.specs.Prelude.{Any, flat_map, option_and_then, option_to_list, IsSome}
use Rattle.std.specs.BTreeMap.{BTreeMap, IsOrdered, get, keys}
use Rattle.std.specs.Cmp.{nat_cmp_total}
use Rattle.std.specs.List.{AllByRecursion, cons_option, filter_map, range_with_len, sum}
use Rattle.std.specs.Option.{unwrap_or}
use Rattle.std.specs.Ordering.{nat_cmp}
use Rattle.std.specs.declared.cmp.Ordering.TheVariants.{Less}
use Rattle.std.proofs.lemmas.List.{map-id}
use Rattle.std.proofs.lemmas.List.Elements.{filter-append, filter_map-append, recursion_from_All}
use Rattle.std.proofs.lemmas.List.FromFn.{map-range_with_len_more}
use Rattle.std.proofs.lemmas.List.Sums.{sum_by_push}
use Rattle.std.proofs.lemmas.Bool.{cases_lt, eqb-true, false≢true}
use Rattle.std.proofs.lemmas.Cmp.{ranked}
use Rattle.std.proofs.lemmas.Map.Keys.{sorted_head, sorted_tail}
use Rattle.std.specs.List.Sorted.{IsStrictlySortedBy}
use Rattle.std.proofs.lemmas.Map.Lookups.{exact_unsigned}
use Rattle.std.proofs.lemmas.Map.Views.{All-found, btree_map_contains_key_iff}
use Rattle.history_model.specs.Booking.{State}
use Rattle.history_model.specs.Lists.{Pairwise}
use Rattle.claim_rule.specs.Openings.{KeptBooking, kept_bookings, kept_of_row}
use Rattle.claim_rule.specs.Walls.{WallView}
use Rattle.settle_report.specs.declared.account.Account.{Account}
use Rattle.settle_report.specs.declared.account.Sale.{Sale}
use Rattle.settle_report.specs.declared.table.Accounts.{Accounts}
use Rattle.settle_report.specs.Accounts.{AreRetailers, IsSettled, account_of, generation_at, given_away, kept_on, of_retailer, state_on}
use Rattle.settle_report.specs.Steps.{AddsSale, AddsToOne, AreAccounts, HasRoomAt, IsFair, IsOfFew, account_at, entry_line, own_sale, sale_in, sale_of, some_account, text_of}
use Rattle.settle_report.specs.Table.{IsSettlement, account_line, forgotten_fields, head_fields, line_of}
use Rattle.settle_report.proofs.AccountFacts.{AllFair, of_few}
use Rattle.settle_report.proofs.RowFacts.{fair_row, row_generation}

-- lists of one row more

snoc_range : (n : ℕ) → range_with_len 0 (n + 1) ≡ range_with_len 0 n ++ n ∷ []
snoc_range n = sym (map-id (range_with_len 0 (n + 1))) ∙ (map-range_with_len_more (λ (k : ℕ). k) 0 n n (let e : 0 + n ≡ n = omega arith in e) ∙ ap (λ (l : List ℕ). l ++ n ∷ []) (map-id (range_with_len 0 n)))

pub kept_more : (s : State) (n : ℕ) → kept_bookings (n + 1) s ≡ kept_bookings n s ++ option_to_list (kept_of_row s n)
kept_more s n = ap (filter_map (kept_of_row s)) (snoc_range n) ∙ (filter_map-append (kept_of_row s) (range_with_len 0 n) (n ∷ []) ∙ ap (λ (l : List KeptBooking). kept_bookings n s ++ l) (last (kept_of_row s n)))
  where
    last : (o : Option KeptBooking) → cons_option o [] ≡ option_to_list o
    last None = refl
    last (Some k) = refl

given_more : (s : State) (n : ℕ) → given_away (n + 1) s ≡ given_away n s + generation_at s n
given_more s n = ap (λ (l : List ℕ). sum l) (map-range_with_len_more (generation_at s) 0 n n (let e : 0 + n ≡ n = omega arith in e)) ∙ sum_by_push (λ (k : ℕ). k) (map (generation_at s) (range_with_len 0 n)) (generation_at s n)

-- bounds

pub given_few : (w : WallView) (n : ℕ) → IsSettled w → given_away n (state_on w) ≤ n * 65535
given_few w zero settled = omega arith
given_few w (suc n) settled =
    let before = given_few w n settled in
    let one = row_generation w n settled in
    let more = given_more (state_on w) n in
    let same : given_away (suc n) (state_on w) ≡ given_away (n + 1) (state_on w) = ap (λ (m : ℕ). given_away m (state_on w)) (let e : suc n ≡ n + 1 = omega arith in e) in
    subst (λ (m : ℕ). m ≤ suc n * 65535) (sym (same ∙ more)) (omega (arith, before, one))

fair_both : (xs ys : List KeptBooking) → AllFair xs → AllFair ys → AllFair (xs ++ ys)
fair_both [] ys a b = b
fair_both (x ∷ xs) ys a b = (a.0, fair_both xs ys a.1 b)

pub all_fair : (w : WallView) (n : ℕ) → IsSettled w → AllFair (kept_bookings n (state_on w))
all_fair w zero settled = tt
all_fair w (suc n) settled =
    let same : n + 1 ≡ suc n = omega arith in
    subst (λ (m : ℕ). AllFair (kept_bookings m (state_on w))) same
    (subst AllFair (sym (kept_more (state_on w) n)) (fair_both (kept_bookings n (state_on w)) (option_to_list (kept_of_row (state_on w) n)) (all_fair w n settled) (fair_row w n settled)))

length_both : (xs ys : List KeptBooking) → length (xs ++ ys) ≡ length xs + length ys
length_both [] ys = let e : length ys ≡ 0 + length ys = omega arith in e
length_both (x ∷ xs) ys = let before = length_both xs ys in omega (arith, before)

one_at_most : (o : Option KeptBooking) → length (option_to_list o) ≤ 1
one_at_most None = omega arith
one_at_most (Some k) = omega arith

pub kept_few : (s : State) (n : ℕ) → length (kept_bookings n s) ≤ n
kept_few s zero = omega arith
kept_few s (suc n) =
    let same : n + 1 ≡ suc n = omega arith in
    let before = kept_few s n in
    let one = one_at_most (kept_of_row s n) in
    let long = length_both (kept_bookings n s) (option_to_list (kept_of_row s n)) in
    subst (λ (m : ℕ). length (kept_bookings m s) ≤ m) same
    (subst (λ (l : List KeptBooking). length l ≤ n + 1) (sym (kept_more s n)) (omega (arith, before, one, long)))

fair_some : (r : ℕ) (kept : List KeptBooking) → AllFair kept → AllFair (of_retailer r kept)
fair_some r [] fair = tt
fair_some r (k ∷ kept) fair = more (eqb k.retailer r) (fair_some r kept fair.1)
  where
    more : (b : Bool) → AllFair (of_retailer r kept) → AllFair (cond b (k ∷ of_retailer r kept) (of_retailer r kept))
    more true rest = (fair.0, rest)
    more false rest = rest

few_some : (r : ℕ) (kept : List KeptBooking) → length (of_retailer r kept) ≤ length kept
few_some r [] = omega arith
few_some r (k ∷ kept) = more (eqb k.retailer r) (few_some r kept)
  where
    more : (b : Bool) → length (of_retailer r kept) ≤ length kept → length (cond b (k ∷ of_retailer r kept) (of_retailer r kept)) ≤ length (k ∷ kept)
    more true rest = omega (arith, rest)
    more false rest = omega (arith, rest)

-- one sale more

account_there : (ks : List KeptBooking) → unwrap_or (some_account ks) (account_of []) ≡ account_of ks
account_there [] = refl
account_there (k ∷ ks) = refl

at_retailer : (w : WallView) (n r : ℕ) (a : Accounts) → AreAccounts w n a → 0 < r → account_at a.by_retailer r ≡ account_of (of_retailer r (kept_bookings n (state_on w)))
at_retailer w n r a are some = ap (λ (o : Option Account). unwrap_or o (account_of [])) (are.each r some) ∙ account_there (of_retailer r (kept_bookings n (state_on w)))

-- what is known of a sale that a row shows
pub record IsSaleOf (s : State) (n : ℕ) (sale : Sale) (k : KeptBooking) : Type 0 where
  pub kept : kept_of_row s n ≡ Some k
  pub some : 0 < k.retailer
  pub is : sale ≡ sale_of k

pub sale_there : (s : State) (n : ℕ) (sale : Sale) → Some sale ≡ sale_in s n → (k : KeptBooking) × IsSaleOf s n sale k
sale_there s n sale e = go (kept_of_row s n) refl e
  where
    positive : (r : ℕ) → eqb r 0 ≡ false → 0 < r
    positive zero z = absurd (cc z)
    positive (suc r) z = omega arith

    one : (zero : Bool) (k : KeptBooking) → eqb k.retailer 0 ≡ zero → Some sale ≡ cond zero None (Some (sale_of k)) → (0 < k.retailer) × (sale ≡ sale_of k)
    one true k z e = absurd (cc e)
    one false k z e = (positive k.retailer z, cc e)

    go : (o : Option KeptBooking) → kept_of_row s n ≡ o → Some sale ≡ option_and_then own_sale o → (k : KeptBooking) × IsSaleOf s n sale k
    go None at e = absurd (cc e)
    go (Some k) at e = let x = one (eqb k.retailer 0) k refl e in (k, record { kept = at; some = x.0; is = x.1 })

pub has_room : (w : WallView) (n : ℕ) (a : Accounts) (sale : Sale) → IsSettled w → n < w.layout.rows → AreAccounts w n a → Some sale ≡ sale_in (state_on w) n
    → HasRoomAt sale.retailer a.by_retailer
has_room w n a sale settled within are e =
    let k = sale_there (state_on w) n sale e in
    let r = k.0.retailer in
    let kept = kept_bookings n (state_on w) in
    let less = kept_few (state_on w) n in
    let part = few_some r kept in
    let rows = settled.rows in
    let of = of_few n (of_retailer r kept) (omega (arith, less, part)) (fair_some r kept (all_fair w n settled)) in
    let at = at_retailer w n r a are k.1.some in
    subst (λ (q : ℕ). HasRoomAt q a.by_retailer) (sym (ap (λ (x : Sale). x.retailer) k.1.is))
    (n, omega (arith, within, rows), subst (IsOfFew n) (sym at) of)

pub is_fair : (w : WallView) (n : ℕ) (sale : Sale) → IsSettled w → Some sale ≡ sale_in (state_on w) n → IsFair sale
is_fair w n sale settled e =
    let k = sale_there (state_on w) n sale e in
    subst IsFair (sym k.1.is)
    (subst (λ (o : Option KeptBooking). AllFair (option_to_list o)) k.1.kept (fair_row w n settled)).0

some_more : (ks : List KeptBooking) (k : KeptBooking) → some_account (ks ++ k ∷ []) ≡ Some (account_of (ks ++ k ∷ []))
some_more [] k = refl
some_more (j ∷ ks) k = refl

of_more : (s : State) (n r : ℕ) (k : KeptBooking) → kept_of_row s n ≡ Some k → of_retailer r (kept_bookings (n + 1) s) ≡ of_retailer r (kept_bookings n s) ++ cond (eqb k.retailer r) (k ∷ []) []
of_more s n r k at = ap (of_retailer r) (kept_more s n ∙ ap (λ (o : Option KeptBooking). kept_bookings n s ++ option_to_list o) at) ∙ filter-append (λ (k : KeptBooking). eqb k.retailer r) (kept_bookings n s) (k ∷ [])

found_some : {X : Type 0} (o : Option X) (P : X → Type 0) → IsSomeAnd o P → (x : X) × (o ≡ Some x) × P x
found_some None P h = absurd h
found_some (Some x) P h = (x, refl, h)

same_more : (w : WallView) (n r : ℕ) (a b : Accounts) (sale : Sale) (k : KeptBooking) → AreAccounts w n a → IsSaleOf (state_on w) n sale k → sale.retailer ≡ k.retailer
    → AddsToOne sale a.by_retailer b.by_retailer → 0 < r → (same : Bool) → eqb k.retailer r ≡ same
    → get nat_cmp b.by_retailer r ≡ some_account (of_retailer r (kept_bookings (n + 1) (state_on w)))
same_more w n r a b sale k are is retailer adds some true e =
    let kept = of_retailer r (kept_bookings n (state_on w)) in
    let here : k.retailer ≡ r = eqb-true k.retailer r e in
    let x = found_some (get nat_cmp b.by_retailer sale.retailer) (AddsSale sale (account_at a.by_retailer sale.retailer)) adds.one in
    let old : account_at a.by_retailer sale.retailer ≡ account_of kept = ap (account_at a.by_retailer) (retailer ∙ here) ∙ at_retailer w n r a are some in
    ap (get nat_cmp b.by_retailer) (sym (retailer ∙ here))
    ∙ (x.1 ∙ (ap (λ (y : Account). Some y) (x.2 kept k old is.is) ∙ (sym (some_more kept k)
    ∙ ap some_account (sym (of_more (state_on w) n r k is.kept ∙ ap (λ (c : Bool). kept ++ cond c (k ∷ []) []) e)))))
same_more w n r a b sale k are is retailer adds some false e =
    let kept = of_retailer r (kept_bookings n (state_on w)) in
    adds.others r (λ z. absurd (false≢true (sym e ∙ eq-eqb k.retailer r (sym retailer ∙ sym z))))
    ∙ (are.each r some ∙ ap some_account (sym (of_more (state_on w) n r k is.kept ∙ (ap (λ (c : Bool). kept ++ cond c (k ∷ []) []) e ∙ append-nil kept))))

pub one_sale_more : (w : WallView) (n : ℕ) (a b : Accounts) (sale : Sale) → AreAccounts w n a → Some sale ≡ sale_in (state_on w) n
    → AddsToOne sale a.by_retailer b.by_retailer → b.given_away ≡ a.given_away + generation_at (state_on w) n → AreAccounts w (n + 1) b
one_sale_more w n a b sale are e adds given =
    let s = state_on w in
    let k = sale_there s n sale e in
    let retailer : sale.retailer ≡ k.0.retailer = ap (λ (x : Sale). x.retailer) k.1.is in
    let positive = k.1.some in
    record {
      each = λ r some. same_more w n r a b sale k.0 are k.1 retailer adds some (eqb k.0.retailer r) refl;
      no_retailer = adds.others 0 (λ z. omega (arith, z, retailer, positive)) ∙ are.no_retailer;
      given = given ∙ (ap (λ (m : ℕ). m + generation_at s n) are.given ∙ sym (given_more s n));
    }

-- no sale more

none_of : (o : Option KeptBooking) (r : ℕ) → 0 < r → option_and_then own_sale o ≡ None → of_retailer r (option_to_list o) ≡ []
none_of None r some e = refl
none_of (Some k) r some e = at_zero (eqb k.retailer 0) refl e
  where
    at_zero : (zero : Bool) → eqb k.retailer 0 ≡ zero → cond zero None (Some (sale_of k)) ≡ None → of_retailer r (k ∷ []) ≡ []
    at_zero true z e = ap (λ (c : Bool). cond c (k ∷ []) []) (ne_eqb k.retailer r (λ same. let zero : k.retailer ≡ 0 = eqb-true k.retailer 0 z in omega (arith, zero, same, some)))
    at_zero false z e = absurd (cc e)

pub no_sale_more : (w : WallView) (n : ℕ) (a b : Accounts) → AreAccounts w n a → sale_in (state_on w) n ≡ None
    → b.by_retailer ≡ a.by_retailer → b.given_away ≡ a.given_away + generation_at (state_on w) n → AreAccounts w (n + 1) b
no_sale_more w n a b are e same given =
    let s = state_on w in
    record {
      each = λ r some.
          ap (λ (m : BTreeMap ℕ Account). get nat_cmp m r) same
          ∙ (are.each r some ∙ ap some_account (sym (ap (of_retailer r) (kept_more s n)
          ∙ (filter-append (λ (k : KeptBooking). eqb k.retailer r) (kept_bookings n s) (option_to_list (kept_of_row s n))
          ∙ (ap (λ (l : List KeptBooking). of_retailer r (kept_bookings n s) ++ l) (none_of (kept_of_row s n) r some e) ∙ append-nil (of_retailer r (kept_bookings n s)))))));
      no_retailer = ap (λ (m : BTreeMap ℕ Account). get nat_cmp m 0) same ∙ are.no_retailer;
      given = given ∙ (ap (λ (m : ℕ). m + generation_at s n) are.given ∙ sym (given_more s n));
    }

-- the table

rises : (ks : List ℕ) → IsStrictlySortedBy nat_cmp ks → Pairwise (λ (a b : ℕ). a < b) ks
rises [] sorted = tt
rises (k ∷ ks) sorted = (above k ks (sorted_head nat_cmp k ks sorted), rises ks (sorted_tail nat_cmp k ks sorted))
  where
    above : (k : ℕ) (ks : List ℕ) → AllByRecursion (λ y. nat_cmp k y ≡ Less) ks → AllByRecursion (λ b. k < b) ks
    above k [] all = tt
    above k (x ∷ ks) all = (ranked k x Less (sym all.0), above k ks all.1)

any_from : (r : ℕ) (kept : List KeptBooking) → IsSome (some_account (of_retailer r kept)) → Any (λ k. k.retailer ≡ r) kept
any_from r [] some = absurd (cc some)
any_from r (k ∷ kept) some = go (eqb k.retailer r) refl some (any_from r kept)
  where
    go : (b : Bool) → eqb k.retailer r ≡ b → IsSome (some_account (cond b (k ∷ of_retailer r kept) (of_retailer r kept)))
        → (IsSome (some_account (of_retailer r kept)) → Any (λ k. k.retailer ≡ r) kept) → Any (λ k. k.retailer ≡ r) (k ∷ kept)
    go true e some rest = (0, k, omega arith, refl, eqb-true k.retailer r e)
    go false e some rest = let x = rest some in (suc x.0, x.1, (let l = x.2 in omega (arith, l)), x.3, x.4)

from_any : (r : ℕ) (kept : List KeptBooking) → Any (λ k. k.retailer ≡ r) kept → IsSome (some_account (of_retailer r kept))
from_any r [] any = let l = any.2 in absurd (omega (arith, l))
from_any r (k ∷ kept) any = go (eqb k.retailer r) refl any.0 any.2 any.3 (λ i l e. from_any r kept (i, any.1, l, e, any.4))
  where
    go : (b : Bool) → eqb k.retailer r ≡ b → (i : ℕ) → i < length (k ∷ kept) → get_or (k ∷ kept) i any.1 ≡ any.1
        → ((i : ℕ) → i < length kept → get_or kept i any.1 ≡ any.1 → IsSome (some_account (of_retailer r kept)))
        → IsSome (some_account (cond b (k ∷ of_retailer r kept) (of_retailer r kept)))
    go true e i l at rest = refl
    go false e zero l at rest = absurd (false≢true (sym e ∙ eq-eqb k.retailer r (ap (λ (x : KeptBooking). x.retailer) at ∙ any.4)))
    go false e (suc i) l at rest = rest i (omega (arith, l)) at

pub are_retailers : (w : WallView) (a : Accounts) → AreAccounts w w.layout.rows a → IsOrdered nat_cmp a.by_retailer → AreRetailers (kept_on w) (keys a.by_retailer)
are_retailers w a are ordered =
    record {
      rising = rises (keys a.by_retailer) ordered;
      just = λ r.
          (let has = btree_map_contains_key_iff nat_cmp_total exact_unsigned a.by_retailer r in (
            λ c. there r (has.1 c) (cases_lt 0 r),
            λ x. has.0 (subst (λ (o : Option Account). IsSome o) (sym (are.each r x.0)) (from_any r (kept_on w) x.1)),
          ));
    }
  where
    there : (r : ℕ) → IsSome (get nat_cmp a.by_retailer r) → (0 < r) ⊎ (r ≤ 0) → (0 < r) × Any (λ k. k.retailer ≡ r) (kept_on w)
    there r some (inl l) = (l, any_from r (kept_on w) (subst (λ (o : Option Account). IsSome o) (are.each r l) some))
    there r some (inr l) = let zero : r ≡ 0 = omega (arith, l) in absurd (cc (subst (λ (o : Option Account). IsSome o) (ap (get nat_cmp a.by_retailer) zero ∙ are.no_retailer) some))

some_is : (ks : List KeptBooking) (x : Account) → some_account ks ≡ Some x → x ≡ account_of ks
some_is [] x e = absurd (cc e)
some_is (k ∷ ks) x e = cc e

line_is : (w : WallView) (a : Accounts) → AreAccounts w w.layout.rows a → (e : ℕ × Account) → get nat_cmp a.by_retailer e.0 ≡ Some e.1 → entry_line e ≡ account_line (kept_on w) e.0
line_is w a are e at = go (cases_lt 0 e.0)
  where
    go : (0 < e.0) ⊎ (e.0 ≤ 0) → entry_line e ≡ account_line (kept_on w) e.0
    go (inl l) = ap (λ (x : Account). entry_line (e.0, x)) (some_is (of_retailer e.0 (kept_on w)) e.1 (sym (are.each e.0 l) ∙ at))
    go (inr l) = let zero : e.0 ≡ 0 = omega (arith, l) in absurd (cc (sym are.no_retailer ∙ (ap (get nat_cmp a.by_retailer) (sym zero) ∙ at)))

lines_are : (w : WallView) (a : Accounts) → AreAccounts w w.layout.rows a → (es : List (ℕ × Account)) → AllByRecursion (λ e. get nat_cmp a.by_retailer e.0 ≡ Some e.1) es
    → flat_map entry_line es ≡ flat_map (account_line (kept_on w)) (map (λ (e : ℕ × Account). e.0) es)
lines_are w a are [] all = refl
lines_are w a are (e ∷ es) all =
    ap (λ (l : List ℕ). l ++ flat_map entry_line es) (line_is w a are e all.0) ∙ ap (λ (l : List ℕ). account_line (kept_on w) e.0 ++ l) (lines_are w a are es all.1)

pub is_settlement : (w : WallView) (a : Accounts) (text : List ℕ) → AreAccounts w w.layout.rows a → IsOrdered nat_cmp a.by_retailer → text ≡ text_of a → IsSettlement w text
is_settlement w a text are ordered is =
    let all = recursion_from_All (λ (e : ℕ × Account). get nat_cmp a.by_retailer e.0 ≡ Some e.1) a.by_retailer.entries (All-found nat_cmp_total a.by_retailer ordered) in
    let lines = lines_are w a are a.by_retailer.entries all in (
      keys a.by_retailer,
      are_retailers w a are ordered,
      is ∙ (ap (λ (l : List ℕ). line_of head_fields ++ (l ++ line_of (forgotten_fields a.given_away))) lines
          ∙ ap (λ (m : ℕ). line_of head_fields ++ (flat_map (account_line (kept_on w)) (keys a.by_retailer) ++ line_of (forgotten_fields m))) are.given),
    )

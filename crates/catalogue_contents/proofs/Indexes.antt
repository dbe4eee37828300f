-- What the indexes of the retailers find after an insertion.
use Rattle.std.proofs.Common.{◌≡◌, ℕ, ◌==◌, Bool, true, false, ◌||◌, cond, if◌then◌else◌, List, [], ◌∷◌, ◌++◌, Option, Some, None, Vec, Global, refl, sym, ap, ◌∙◌, arith, nat_lt, eqb-true}
use Rattle.std.specs.List.{list_any}
use Rattle.std.specs.Map.{lookup}
use Rattle.std.specs.Ordering.{nat_cmp, match_ordering, is_eq}
use Rattle.std.specs.declared.cmp.Ordering.{Ordering}
use Rattle.std.specs.declared.cmp.Ordering.TheVariants.{Less, Equal, Greater}
use Rattle.std.specs.Cmp.Lexicographic.{slice_cmp}
use Rattle.std.specs.BTreeMap.{insert_entry}
use Rattle.std.specs.BTreeSet.{insert_key}
use Rattle.std.specs.Str.{bytes_eq}
use Rattle.std.proofs.lemmas.Bool.Decides.{nat_tests}
use Rattle.std.proofs.lemmas.Map.Lookups.{exact_bytes}
use Rattle.std.proofs.lemmas.Map.Text.{is_eq-slice_cmp}
use Rattle.std.proofs.lemmas.List.Folds.{list_any-append}
use Rattle.rail_ids.specs.declared.RetailerNo.{RetailerNo}
use Rattle.catalogue_contents.specs.Retailers.{RetailerView, has_number, retailer_with}

abbrev pub Key : Type 0
Key = Vec ℕ Global

abbrev pub at : List ℕ → Key → Bool
at q k = is_eq (slice_cmp nat_cmp q k.items)

abbrev pub by_items : Key → Key → Ordering
by_items x y = slice_cmp nat_cmp x.items y.items

is_equal : (o : Ordering) → is_eq o ≡ true → o ≡ Equal
is_equal Less h = absurd cc
is_equal Equal h = refl
is_equal Greater h = absurd cc

same_case : (bk be : Bool) (v w : RetailerNo) (r : Option RetailerNo) → bk ≡ be → cond be (Some v) r ≡ cond bk (Some v) (cond be (Some w) r)
same_case true true v w r e = refl
same_case true false v w r e = absurd cc
same_case false true v w r e = absurd cc
same_case false false v w r e = refl

later_case : (bk be : Bool) (v w : RetailerNo) (more r : Option RetailerNo) → (bk ≡ true → be ≡ false) → more ≡ cond bk (Some v) r → cond be (Some w) more ≡ cond bk (Some v) (cond be (Some w) r)
later_case true true v w more r apart e = absurd (let h = apart refl in cc)
later_case true false v w more r apart e = e
later_case false true v w more r apart e = refl
later_case false false v w more r apart e = e

apart_from : (q : List ℕ) (k x : Key) → by_items k x ≡ Greater → at q k ≡ true → at q x ≡ false
apart_from q k x is same = ap (λ (l : List ℕ). is_eq (slice_cmp nat_cmp l x.items)) (exact_bytes q k.items (is_equal _ same)) ∙ ap is_eq is

by_order : (q : List ℕ) (k : Key) (v : RetailerNo) (e : Key × RetailerNo) (es more : List (Key × RetailerNo)) (o : Ordering) → by_items k e.0 ≡ o → lookup (at q) more ≡ cond (at q k) (Some v) (lookup (at q) es)
    → lookup (at q) (match_ordering o ((k, v) ∷ e ∷ es) ((e.0, v) ∷ es) (e ∷ more)) ≡ cond (at q k) (Some v) (lookup (at q) (e ∷ es))
by_order q k v e es more Less is rest = refl
by_order q k v e es more Equal is rest = same_case (at q k) (at q e.0) v e.1 (lookup (at q) es) (ap (λ (l : List ℕ). is_eq (slice_cmp nat_cmp q l)) (exact_bytes k.items e.0.items is))
by_order q k v e es more Greater is rest = later_case (at q k) (at q e.0) v e.1 (lookup (at q) more) (lookup (at q) es) (apart_from q k e.0 is) rest

-- a look-up after an insertion
pub lookup-insert_entry : (q : List ℕ) (k : Key) (v : RetailerNo) (es : List (Key × RetailerNo)) → lookup (at q) (insert_entry by_items es k v) ≡ cond (at q k) (Some v) (lookup (at q) es)
lookup-insert_entry q k v [] = refl
lookup-insert_entry q k v (e ∷ es) = by_order q k v e es (insert_entry by_items es k v) (by_items k e.0) refl (lookup-insert_entry q k v es)

-- the last retailer is found by its own key alone, where no other has it
pub retailer_with-last : (q key : List ℕ) (number : ℕ) (rs : List RetailerView) → retailer_with key rs ≡ None
    → cond (is_eq (slice_cmp nat_cmp q key)) (Some (record { 0 = number })) (retailer_with q rs) ≡ retailer_with q (rs ++ (record { number = number; key = key }) ∷ [])
retailer_with-last q key number [] none = ap (λ (b : Bool). cond b (Some (record { 0 = number })) None) (is_eq-slice_cmp q key)
retailer_with-last q key number (r ∷ rs) none =
    let v : RetailerNo = record { 0 = r.number } in
    let new : RetailerNo = record { 0 = number } in
    by_case (bytes_eq q r.key) (bytes_eq key r.key) (is_eq (slice_cmp nat_cmp q key)) v new (retailer_with q rs) (retailer_with key rs) _ refl
    (λ same. ap (λ (l : List ℕ). bytes_eq l r.key) (sym (exact_bytes q key (is_equal _ same)))) none (retailer_with-last q key number rs)
  where
    by_case : (bq bk same : Bool) (v new : RetailerNo) (found other more : Option RetailerNo) → bq ≡ bq → (same ≡ true → bk ≡ bq) → (if bk then Some v else other) ≡ None
        → (other ≡ None → cond same (Some new) found ≡ more) → cond same (Some new) (if bq then Some v else found) ≡ (if bq then Some v else more)
    by_case bq true same v new found other more _ eq none rest = absurd cc
    by_case true false true v new found other more _ eq none rest = absurd (let h = eq refl in cc)
    by_case true false false v new found other more _ eq none rest = refl
    by_case false false same v new found other more _ eq none rest = rest none

cmp_case : (x y : Bool) → (x ≡ true → y ≡ false) → is_eq (cond x Less (cond y Equal Greater)) ≡ y
cmp_case true true h = absurd (let e = h refl in cc)
cmp_case true false h = refl
cmp_case false true h = refl
cmp_case false false h = refl

eq_of_cmp : (a b : ℕ) → is_eq (nat_cmp a b) ≡ (a == b)
eq_of_cmp a b = cmp_case (nat_lt a b) (a == b) (λ less. grind (arith, nat_tests))

or_swap : (a b c : Bool) → (a || (b || c)) ≡ (b || (a || c))
or_swap true true c = refl
or_swap true false c = refl
or_swap false true c = refl
or_swap false false c = refl

or_same : (a b c : Bool) → a ≡ b → (b || c) ≡ (a || (b || c))
or_same true true c e = refl
or_same true false c e = absurd cc
or_same false true c e = absurd cc
or_same false false c e = refl

nat_equal : (a b : ℕ) → nat_cmp a b ≡ Equal → a ≡ b
nat_equal a b e = eqb-true a b (sym (eq_of_cmp a b) ∙ ap is_eq e)

set_order : (n k x : ℕ) (ks more : List ℕ) (o : Ordering) → nat_cmp k x ≡ o → list_any (λ m. is_eq (nat_cmp n m)) more ≡ (is_eq (nat_cmp n k) || list_any (λ m. is_eq (nat_cmp n m)) ks)
    → list_any (λ m. is_eq (nat_cmp n m)) (match_ordering o (k ∷ x ∷ ks) (x ∷ ks) (x ∷ more)) ≡ (is_eq (nat_cmp n k) || list_any (λ m. is_eq (nat_cmp n m)) (x ∷ ks))
set_order n k x ks more Less is rest = refl
set_order n k x ks more Equal is rest = or_same (is_eq (nat_cmp n k)) (is_eq (nat_cmp n x)) _ (ap (λ (m : ℕ). is_eq (nat_cmp n m)) (nat_equal k x is))
set_order n k x ks more Greater is rest = ap (λ (b : Bool). is_eq (nat_cmp n x) || b) rest ∙ or_swap (is_eq (nat_cmp n x)) (is_eq (nat_cmp n k)) _

-- a set's keys after an insertion
pub list_any-insert_key : (n k : ℕ) (ks : List ℕ) → list_any (λ m. is_eq (nat_cmp n m)) (insert_key nat_cmp ks k) ≡ (is_eq (nat_cmp n k) || list_any (λ m. is_eq (nat_cmp n m)) ks)
list_any-insert_key n k [] = refl
list_any-insert_key n k (x ∷ ks) = set_order n k x ks (insert_key nat_cmp ks k) (nat_cmp k x) refl (list_any-insert_key n k ks)

or_last : (a b : Bool) → (b || a) ≡ (a || (b || false))
or_last true true = refl
or_last true false = refl
or_last false true = refl
or_last false false = refl

pub has_number-last : (n number : ℕ) (key : List ℕ) (rs : List RetailerView) → (is_eq (nat_cmp n number) || has_number n rs) ≡ has_number n (rs ++ (record { number = number; key = key }) ∷ [])
has_number-last n number key rs = ap (λ (b : Bool). b || has_number n rs) (eq_of_cmp n number) ∙ or_last (has_number n rs) (n == number) ∙ sym (list_any-append (λ (r : RetailerView). n == r.number) rs ((record { number = number; key = key }) ∷ []))

-- The items of a line, read one by one.
use Rattle.std.proofs.Common.{◌≡◌, ℕ, ◌+◌, ◌<◌, ◌≤◌, Bool, true, false, nat_lt, List, [], ◌∷◌, ◌++◌, map, length, Option, Some, None, IfNone, IfSome, if◌then◌else◌, refl, sym, ap, ◌∙◌, subst, arith, append_assoc, append-nil, length-append}
use Rattle.std.specs.List.{AllByRecursion}
use Rattle.std.proofs.lemmas.Bool.Decides.{nat_tests}
use Rattle.std.proofs.lemmas.List.{length-map, map-append}
use Rattle.leg_masks.specs.Interval.{PlacedSpan as Item}
use Rattle.history_model.proofs.ListLemmas.{All-append, flat_map-append}
use Rattle.history_model.specs.Booking.{most_items}
use Rattle.line_text.specs.declared.heads.SaidItem.{SaidItem}
use Rattle.line_text.specs.Lines.{AreItemNumbers, item_field, items_fields}
use Rattle.cold_store.specs.Right.{IsWithin, kept_item}
use Rattle.cold_store.specs.Reads.{AreItemsOf, ReadsItems, items_with}
use Rattle.line_text.specs.Reads.{IsCut, Reads}

-- lists

module _ {A : Type 0} (P : A → Type 0) where
  pub all_front : (a b : List A) → AllByRecursion P (a ++ b) → AllByRecursion P a
  all_front [] b p = tt
  all_front (x ∷ a) b p = (p.0, all_front a b p.1)

  pub all_behind : (a b : List A) → AllByRecursion P (a ++ b) → AllByRecursion P b
  all_behind [] b p = p
  all_behind (x ∷ a) b p = all_behind a b p.1

-- what is kept of the items

room : (legs : List ℕ) (done : List SaidItem) (items : List Item) (s : SaidItem) (item : Item) (t : Bool) → nat_lt (length items) most_items ≡ t → AllByRecursion (IsWithin legs) done → length done ≤ most_items → items ≡ map kept_item done → IsWithin legs s → item ≡ kept_item s → AreItemsOf legs (done ++ s ∷ []) (if t then Some (items ++ item ∷ []) else None)
room legs done items s item true e each few is w kept =
    let n = length-map done kept_item in
    let m = ap (λ (l : List Item). length l) is in
    let k = length-append done (s ∷ []) in
    let below : length items < most_items = grind (arith, nat_tests) in (
      All-append (IsWithin legs) done (s ∷ []) each (w, tt),
      omega arith,
      ap (λ (l : List Item). l ++ item ∷ []) is
          ∙ (ap (λ (i : Item). map kept_item done ++ i ∷ []) kept ∙ sym (map-append kept_item done (s ∷ []))),
    )
room legs done items s item false e each few is w kept =
    let n = length-map done kept_item in
    let m = ap (λ (l : List Item). length l) is in
    let k = length-append done (s ∷ []) in
    let full : most_items ≤ length items = grind (arith, nat_tests) in
    λ h. absurd (let f = h.1 in omega arith)

items_more : (legs : List ℕ) (done : List SaidItem) (items : Option (List Item)) (s : SaidItem) (item : Option Item) → AreItemsOf legs done items → IfSome item (λ i. IsWithin legs s × (i ≡ kept_item s)) → IfNone item (¬ IsWithin legs s) → AreItemsOf legs (done ++ s ∷ []) (items_with items item)
items_more legs done None s item are some none =
    let k = length-append done (s ∷ []) in
    λ h. are (all_front (IsWithin legs) done (s ∷ []) h.0, (let f = h.1 in omega arith))
items_more legs done (Some items) s None are some none = λ h. none (all_behind (IsWithin legs) done (s ∷ []) h.0).0
items_more legs done (Some items) s (Some item) are some none =
    room legs done items s item (nat_lt (length items) most_items) refl are.0 are.1 are.2 some.0 some.1

-- the items so far, of so many
pub record AreReadSoFar (legs : List ℕ) (count i : ℕ) (old new : List ℕ) (items : Option (List Item)) : Type 0 where
  pub done : List SaidItem
  pub numbers : AllByRecursion AreItemNumbers done
  pub many : length done ≡ i
  pub is : old ≡ items_fields done ++ new
  pub are : AreItemsOf legs done items
  pub only : (said : List SaidItem) (rest : List ℕ) → AllByRecursion AreItemNumbers said → length said ≡ count → IsCut rest
      → old ≡ items_fields said ++ rest → (more : List SaidItem) × (said ≡ done ++ more) × (new ≡ items_fields more ++ rest)

pub none_so_far : (legs : List ℕ) (count : ℕ) (old : List ℕ) (items : Option (List Item)) → items ≡ Some [] → AreReadSoFar legs count 0 old old items
none_so_far legs count old items e =
    record {
      done = [];
      numbers = tt;
      many = refl;
      is = refl;
      are = subst (AreItemsOf legs []) (sym e) (tt, omega arith, refl);
      only = λ said rest numbers count cut is. (said, refl, is);
    }

cut_fields : (said : List SaidItem) (rest : List ℕ) → IsCut rest → IsCut (items_fields said ++ rest)
cut_fields [] rest cut = cut
cut_fields (s ∷ said) rest cut = refl

-- the next of the items
next_of : (done more said : List SaidItem) (count i : ℕ) (mid new rest : List ℕ) (read : Option SaidItem) → said ≡ done ++ more → length done ≡ i → length said ≡ count → i < count → AllByRecursion AreItemNumbers said → IsCut rest → mid ≡ items_fields more ++ rest → Reads item_field AreItemNumbers mid new read → (s : SaidItem) × (behind : List SaidItem) × (more ≡ s ∷ behind) × (read ≡ Some s) × (new ≡ items_fields behind ++ rest)
next_of done [] said count i mid new rest read parts n all less numbers cut is r =
    let k = ap (λ (l : List SaidItem). length l) parts in let m = length-append done [] in absurd (omega arith)
next_of done (s ∷ behind) said count i mid new rest read parts n all less numbers cut is r =
    let each = all_behind AreItemNumbers done (s ∷ behind) (subst (AllByRecursion AreItemNumbers) parts numbers) in
    let o = r.only s (items_fields behind ++ rest) each.0 (cut_fields behind rest cut)
    (is ∙ append_assoc (item_field s) (items_fields behind) rest) in
    (s, behind, refl, o.0, o.1)

pub one_more : {legs : List ℕ} {count i : ℕ} {old mid new : List ℕ} {items : Option (List Item)} (s : SaidItem) (item : Option Item) (now : Option (List Item)) → AreReadSoFar legs count i old mid items → i < count → Reads item_field AreItemNumbers mid new (Some s) → IfSome item (λ i. IsWithin legs s × (i ≡ kept_item s)) → IfNone item (¬ IsWithin legs s) → now ≡ items_with items item → AreReadSoFar legs count (i + 1) old new now
one_more {legs = legs} {count = count} {i = i} {old = old} {mid = mid} {new = new} {items = items} s item now so less r some none e =
    let k = length-append so.done (s ∷ []) in
    record {
      done = so.done ++ s ∷ [];
      numbers = All-append AreItemNumbers so.done (s ∷ []) so.numbers (r.found.0, tt);
      many = let n = so.many in omega arith;
      is = so.is
          ∙ (ap (λ (x : List ℕ). items_fields so.done ++ x) r.found.1
          ∙ (sym (append_assoc (items_fields so.done) (item_field s) new)
          ∙ ap (λ (x : List ℕ). x ++ new) (ap (λ (x : List ℕ). items_fields so.done ++ x) (sym (append-nil (item_field s))) ∙ sym (flat_map-append item_field so.done (s ∷ [])))));
      are = subst (AreItemsOf legs (so.done ++ s ∷ [])) (sym e) (items_more legs so.done items s item so.are some none);
      only = λ said rest numbers all cut is.
          let o = so.only said rest numbers all cut is in
          let h = next_of so.done o.0 said count i mid new rest (Some s) o.1 so.many all less numbers cut o.2 r in
          let same : h.0 ≡ s = let q = h.3 in cc in
          (h.1, o.1 ∙ (ap (λ (l : List SaidItem). so.done ++ l) (h.2 ∙ ap (λ (x : SaidItem). x ∷ h.1) same) ∙ sym (append_assoc so.done (s ∷ []) h.1)), h.4);
    }

pub item_fails : {legs : List ℕ} {count i : ℕ} {old mid new : List ℕ} {items : Option (List Item)} → AreReadSoFar legs count i old mid items → i < count → Reads item_field AreItemNumbers mid new None → ReadsItems legs count old new None
item_fails {count = count} {i = i} {mid = mid} {new = new} so less r =
    record {
      found = tt;
      only = λ said rest numbers all cut is.
          let o = so.only said rest numbers all cut is in
          let h = next_of so.done o.0 said count i mid new rest None o.1 so.many all less numbers cut o.2 r in
          absurd (let q = h.3 in cc);
    }

no_more : (done more : List SaidItem) → length (done ++ more) ≤ length done → more ≡ []
no_more done [] h = refl
no_more done (s ∷ more) h = let k = length-append done (s ∷ more) in absurd (omega arith)

pub items_read : {legs : List ℕ} {count i : ℕ} {old new : List ℕ} {items : Option (List Item)} → AreReadSoFar legs count i old new items → i ≡ count → ReadsItems legs count old new (Some items)
items_read {legs = legs} {items = items} so all =
    record {
      found = (so.done, so.numbers, so.many ∙ all, so.is, so.are);
      only = λ said rest numbers n cut is.
          let o = so.only said rest numbers n cut is in
          let k = so.many in
          let m = ap (λ (l : List SaidItem). length l) o.1 in
          let last = no_more so.done o.0 (omega arith) in
          let same : said ≡ so.done = o.1 ∙ (ap (λ (l : List SaidItem). so.done ++ l) last ∙ append-nil so.done) in
          (subst (λ (l : List SaidItem). AreItemsOf legs l items) (sym same) so.are, o.2 ∙ ap (λ (l : List SaidItem). items_fields l ++ rest) last);
    }

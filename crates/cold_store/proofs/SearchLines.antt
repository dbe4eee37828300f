-- The line of a row among lines in rising row.
use Rattle.std.proofs.Common.{◌≡◌, ◌≢◌, ◌⊎◌, ⊎_elim, inl, inr, ℕ, zero, suc, ◌+◌, ◌<◌, ◌≤◌, ◌↔◌, Bool, true, false, leb, List, [], ◌∷◌, length, get_or, Any, IsTrue, refl, sym, ap, ◌∙◌, subst, arith, le-leb}
use Rattle.std.specs.List.{AllByRecursion}
use Rattle.std.specs.List.Sorted.{IsNonDecreasingBy}
use Rattle.std.specs.Ordering.{nat_cmp, ordering_index}
use Rattle.std.proofs.lemmas.Bool.{cases_eq, cases_lt, leb-true}
use Rattle.std.proofs.lemmas.Bool.Decides.{nat_tests}
use Rattle.std.proofs.lemmas.Cmp.{ranked}
use Rattle.std.proofs.lemmas.List.{get_or_default}
use Rattle.std.proofs.lemmas.List.Sorted.{IsNonDecreasingBy-from_default}
use Rattle.history_model.specs.Lists.{Pairwise}
use Rattle.line_text.specs.declared.ends.SaidRow.{SaidRow}
use Rattle.cold_store.specs.Drafts.{AreRisingRows, HasLineOf}

pub All-at : {X : Type 0} (P : X → Type 0) (xs : List X) (i : ℕ) (d : X) → AllByRecursion P xs → i < length xs → P (get_or xs i d)
All-at P [] i d h l = absurd (omega arith)
All-at P (x ∷ xs) zero d h l = h.0
All-at P (x ∷ xs) (suc i) d h l = All-at P xs i d h.1 (omega arith)

pub Pairwise-at : {X : Type 0} (R : X → X → Type 0) (xs : List X) (i j : ℕ) (d : X) → Pairwise R xs → i < j → j < length xs → R (get_or xs i d) (get_or xs j d)
Pairwise-at R [] i j d h l m = absurd (omega arith)
Pairwise-at R (x ∷ xs) i zero d h l m = absurd (omega arith)
Pairwise-at R (x ∷ xs) zero (suc j) d h l m = All-at (R x) xs j d h.0 (omega arith)
Pairwise-at R (x ∷ xs) (suc i) (suc j) d h l m = Pairwise-at R xs i j d h.1 (omega arith) (omega arith)

module _ (lines : List SaidRow) (rising : AreRisingRows lines) (s : SaidRow) where
  rows_rise : (i j : ℕ) (d : SaidRow) → i < j → j < length lines → (get_or lines i d).row < (get_or lines j d).row
  rows_rise i j d l m = Pairwise-at (λ (a b : SaidRow). a.row < b.row) lines i j d rising l m

  pub comparisons_rise : IsNonDecreasingBy (λ (line : SaidRow). ordering_index (nat_cmp line.row s.row)) lines
  comparisons_rise = IsNonDecreasingBy-from_default (λ (line : SaidRow). ordering_index (nat_cmp line.row s.row)) lines s (λ i j le in_range.
      let rise : (get_or lines i s).row ≤ (get_or lines j s).row = ⊎_elim
      (λ (less : i < j). let r = rows_rise i j s less in_range in omega arith)
      (λ (more : j ≤ i). let same : i ≡ j = omega arith in let e = ap (λ (k : ℕ). (get_or lines k s).row) same in omega arith)
      (cases_lt i j) in
      let a : ℕ = (get_or lines i s).row in let b : ℕ = (get_or lines j s).row in
      in_order a b s.row rise)
    where
      in_order : (a b k : ℕ) → a ≤ b → ordering_index (nat_cmp a k) ≤ ordering_index (nat_cmp b k)
      in_order a b k le = grind (arith, nat_tests)

  pub line_found : (at : ℕ) (d : SaidRow) → at < length lines → (get_or lines at d).row ≡ s.row → IsTrue (leb s.generation (get_or lines at d).generation) ↔ HasLineOf lines s
  line_found at d within row = (
    λ test. (at, get_or lines at d, within, get_or_default lines at (get_or lines at d) d within, (row, leb-true s.generation (get_or lines at d).generation test)),
    λ has.
        let k : ℕ = has.0 in
        let x : SaidRow = has.1 in
        let in_ : k < length lines = has.2 in
        let is : get_or lines k d ≡ x = get_or_default lines k d x in_ ∙ has.3 in
        let same : k ≡ at = ⊎_elim (λ (e : k ≡ at). e)
        (λ (n : k ≢ at). absurd (⊎_elim
        (λ (less : k < at). let r = rows_rise k at d less within in let q : (get_or lines k d).row ≡ s.row = ap (λ (y : SaidRow). y.row) is ∙ has.4.0 in omega arith)
        (λ (more : at ≤ k). let r = rows_rise at k d (omega arith) in_ in let q : (get_or lines k d).row ≡ s.row = ap (λ (y : SaidRow). y.row) is ∙ has.4.0 in omega arith)
        (cases_lt k at)))
        (cases_eq k at) in
        let there : get_or lines at d ≡ x = ap (λ (n : ℕ). get_or lines n d) (sym same) ∙ is in
        le-leb s.generation (get_or lines at d).generation (subst (λ (y : SaidRow). s.generation ≤ y.generation) (sym there) has.4.1),
  )

  pub line_absent : (at : ℕ) → ((k : ℕ) (d : SaidRow) → k < at → (get_or lines k d).row < s.row) → ((k : ℕ) (d : SaidRow) → at ≤ k → k < length lines → s.row < (get_or lines k d).row) → HasLineOf lines s → ⊥
  line_absent at before after has =
      let k : ℕ = has.0 in
      let x : SaidRow = has.1 in
      let in_ : k < length lines = has.2 in
      let row : (get_or lines k x).row ≡ s.row = ap (λ (y : SaidRow). y.row) has.3 ∙ has.4.0 in
      ⊎_elim
      (λ (less : k < at). let r = before k x less in omega arith)
      (λ (more : at ≤ k). let r = after k x more in_ in omega arith)
      (cases_lt k at)

-- Looks at places in a row, one stretch behind the other.
use mir.Val.{bool_byte}
use Rattle.std.proofs.Common.{◌≡◌, ◌∙◌, ℕ, zero, suc, ◌+◌, Bool, true, false, append_assoc, append-nil, List, [], ◌∷◌, ◌++◌, refl, sym, ap, subst, arith}
use Rattle.std.specs.Prelude.{count_by, cond}
use Rattle.std.proofs.lemmas.List.Sums.{sum_by-append}
use Rattle.leg_masks.specs.Interval.{Interval}
use Rattle.rail_ids.specs.declared.PlaceNo.{PlaceNo}
use Rattle.history_model.specs.declared.entry.Step.{Step}
use Rattle.claim_rule.specs.Rule.{DeskView}
use Rattle.claim_rule.specs.Calls.{AddsStepsBy}
use Rattle.claim_rule.proofs.Shapes.{shape_then}
use Rattle.availability.specs.Looks.{LooksAt, CountsFree, HasLooked, row_from}

looks_then : (places others : List PlaceNo) (span : Interval) (states more : List Bool) (es fs : List Step) → LooksAt places span states es → LooksAt others span more fs
    → LooksAt (places ++ others) span (states ++ more) (es ++ fs)
looks_then [] others span [] more es fs at next = subst (λ (l : List Step). LooksAt others span more (l ++ fs)) (sym at) next
looks_then (p ∷ places) others span (b ∷ states) more es fs at next =
    (at.0, at.1 ++ fs, at.2, looks_then places others span states more at.1 fs at.3 next, ap (λ (l : List Step). l ++ fs) at.4 ∙ append_assoc at.0 at.1 fs)
looks_then [] others span (b ∷ states) more es fs at next = absurd at
looks_then (p ∷ places) others span [] more es fs at next = absurd at

row_then : (first m n : ℕ) → row_from first (m + n) ≡ row_from first m ++ row_from (first + m) n
row_then first zero n =
    let e : 0 + n ≡ n = omega arith in
    let f : first ≡ first + 0 = omega arith in
    ap (row_from first) e ∙ ap (λ (k : ℕ). row_from k n) f
row_then first (suc m) n =
    let e : suc m + n ≡ suc (m + n) = omega arith in
    let f : first + 1 + m ≡ first + suc m = omega arith in
    ap (row_from first) e
    ∙ ap (λ (l : List PlaceNo). record { 0 = first } ∷ l) (row_then (first + 1) m n ∙ ap (λ (k : ℕ). row_from (first + 1) m ++ row_from k n) f)

-- a stretch, and then the one behind it
pub counted_then : (old mid new : DeskView) (first m n : ℕ) (span : Interval) (count more : ℕ) → AddsStepsBy (CountsFree (row_from first m) span count) old mid → AddsStepsBy (CountsFree (row_from (first + m) n) span more) mid new
    → AddsStepsBy (CountsFree (row_from first (m + n)) span (count + more)) old new
counted_then old mid new first m n span count more did next = (
  did.0 ++ next.0,
  subst (λ (l : List PlaceNo). CountsFree l span (count + more) (did.0 ++ next.0)) (sym (row_then first m n)) (
    did.1.0 ++ next.1.0,
    looks_then (row_from first m) (row_from (first + m) n) span did.1.0 next.1.0 did.0 next.0 did.1.1 next.1.1,
    ap (λ (k : ℕ). k + more) did.1.2 ∙ (ap (λ (k : ℕ). count_by (λ state. state) did.1.0 + k) next.1.2 ∙ sym (sum_by-append (λ (b : Bool). cond b 1 0) did.1.0 next.1.0)),
  ),
  shape_then old mid new did.0 next.0 did.2 next.2,
)

as_byte : (free : Bool) → bool_byte free ≡ 0 + cond free 1 0
as_byte true = refl
as_byte false = refl

-- the look at one place
pub counted_one : (old new : DeskView) (place : ℕ) (span : Interval) (free : Bool) → HasLooked (record { 0 = place }) span free old new
    → AddsStepsBy (CountsFree (row_from place 1) span (bool_byte free)) old new
counted_one old new place span free look = (
  look.0,
  (free ∷ [], (look.0, [], look.1, refl, sym (append-nil look.0)), as_byte free),
  look.2,
)

-- three stretches, each behind the one before
pub counted_thrice : (old mid next new : DeskView) (first l m n second third all : ℕ) (span : Interval) (count more most : ℕ) → second ≡ first + l → third ≡ first + (l + m) → l + m + n ≡ all
    → AddsStepsBy (CountsFree (row_from first l) span count) old mid → AddsStepsBy (CountsFree (row_from second m) span more) mid next → AddsStepsBy (CountsFree (row_from third n) span most) next new
    → AddsStepsBy (CountsFree (row_from first all) span (count + more + most)) old new
counted_thrice old mid next new first l m n second third all span count more most at then is one two three =
    let two' = subst (λ (k : ℕ). AddsStepsBy (CountsFree (row_from k m) span more) mid next) at two in
    let three' = subst (λ (k : ℕ). AddsStepsBy (CountsFree (row_from k n) span most) next new) then three in
    let both = counted_then old mid next first l m span count more one two' in
    subst (λ (k : ℕ). AddsStepsBy (CountsFree (row_from first k) span (count + more + most)) old new) is (counted_then old next new first (l + m) n span (count + more) most both three')

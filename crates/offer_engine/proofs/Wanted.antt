-- The looks at places with traits, one place after the other.
use Rattle.std.proofs.Common.{◌≡◌, ◌∙◌, ℕ, ◌+◌, ◌≤◌, ◌<◌, Bool, true, false, List, [], ◌∷◌, ◌++◌, length, take, get_or, refl, sym, ap, subst, arith, append-nil, append_assoc, if◌then◌else◌}
use Rattle.std.specs.Prelude.{count_by}
use Rattle.std.specs.List.{filter}
use Rattle.std.proofs.lemmas.List.{take_more}
use Rattle.std.proofs.lemmas.List.Elements.{filter-append}
use Rattle.std.proofs.lemmas.List.Sums.{sum_by-append, count_by-le-length}
use Rattle.leg_masks.specs.Interval.{Interval}
use Rattle.rail_ids.specs.declared.PlaceNo.{PlaceNo}
use Rattle.history_model.specs.declared.entry.Step.{Step}
use Rattle.claim_rule.specs.Rule.{DeskView}
use Rattle.claim_rule.specs.Calls.{AddsStepsBy}
use Rattle.claim_rule.proofs.Shapes.{shape_then}
use Rattle.availability.specs.Looks.{LooksAt, CountsFree}

looks_append : (xs ys : List PlaceNo) (span : Interval) (ss ts : List Bool) (es fs : List Step) → LooksAt xs span ss es → LooksAt ys span ts fs → LooksAt (xs ++ ys) span (ss ++ ts) (es ++ fs)
looks_append [] ys span [] ts es fs a b = subst (LooksAt ys span ts) (sym (ap (λ (l : List Step). l ++ fs) a)) b
looks_append (p ∷ xs) ys span (s ∷ ss) ts es fs a b = (a.0, a.1 ++ fs, a.2, looks_append xs ys span ss ts a.1 fs a.3 b, ap (λ (l : List Step). l ++ fs) a.4 ∙ append_assoc a.0 a.1 fs)
looks_append [] ys span (s ∷ ss) ts es fs a b = absurd a
looks_append (p ∷ xs) ys span [] ts es fs a b = absurd a

looks_count : (xs : List PlaceNo) (span : Interval) (ss : List Bool) (es : List Step) → LooksAt xs span ss es → length ss ≡ length xs
looks_count [] span [] es a = refl
looks_count (p ∷ xs) span (s ∷ ss) es a = let more = looks_count xs span ss a.1 a.3 in omega (arith, more)
looks_count [] span (s ∷ ss) es a = absurd a
looks_count (p ∷ xs) span [] es a = absurd a

-- no more are free than were looked at
pub free_at_most : (xs : List PlaceNo) (span : Interval) (n : ℕ) (old new : DeskView) → AddsStepsBy (CountsFree xs span n) old new → n ≤ length xs
free_at_most xs span n old new did =
    let states = did.1.0 in
    let most = count_by-le-length (λ (s : Bool). s) states in
    let count = looks_count xs span states did.0 did.1.1 in
    omega (arith, most, count, did.1.2)

counts_append : (xs ys : List PlaceNo) (span : Interval) (a b : ℕ) (old mid new : DeskView) → AddsStepsBy (CountsFree xs span a) old mid → AddsStepsBy (CountsFree ys span b) mid new
    → AddsStepsBy (CountsFree (xs ++ ys) span (a + b)) old new
counts_append xs ys span a b old mid new one two =
    let ss = one.1.0 in
    let ts = two.1.0 in
    let sum : count_by (λ (s : Bool). s) (ss ++ ts) ≡ count_by (λ (s : Bool). s) ss + count_by (λ (s : Bool). s) ts = sum_by-append _ ss ts in (
      one.0 ++ two.0,
      (ss ++ ts, looks_append xs ys span ss ts one.0 two.0 one.1.1 two.1.1, omega (arith, sum, one.1.2, two.1.2)),
      shape_then old mid new one.0 two.0 one.2 two.2,
    )

pub wanted_yes : (p : PlaceNo → Bool) (xs : List PlaceNo) (i : ℕ) (d : PlaceNo) (span : Interval) (a b : ℕ) (old mid new : DeskView) → i < length xs → p (get_or xs i d) ≡ true
    → AddsStepsBy (CountsFree (filter p (take i xs)) span a) old mid → AddsStepsBy (CountsFree (get_or xs i d ∷ []) span b) mid new → AddsStepsBy (CountsFree (filter p (take (i + 1) xs)) span (a + b)) old new
wanted_yes p xs i d span a b old mid new h passes one two =
    let x = get_or xs i d in
    let kept : filter p (x ∷ []) ≡ x ∷ [] = ap (λ (t : Bool). if t then x ∷ [] else []) passes in
    let whole : filter p (take (i + 1) xs) ≡ filter p (take i xs) ++ x ∷ [] =
    ap (filter p) (take_more xs i d h) ∙ (filter-append p (take i xs) (x ∷ []) ∙ ap (λ (l : List PlaceNo). filter p (take i xs) ++ l) kept) in
    subst (λ (l : List PlaceNo). AddsStepsBy (CountsFree l span (a + b)) old new) (sym whole) (counts_append (filter p (take i xs)) (x ∷ []) span a b old mid new one two)

pub wanted_no : (p : PlaceNo → Bool) (xs : List PlaceNo) (i : ℕ) (d : PlaceNo) → i < length xs → p (get_or xs i d) ≡ false → filter p (take (i + 1) xs) ≡ filter p (take i xs)
wanted_no p xs i d h denied =
    let x = get_or xs i d in
    let dropped : filter p (x ∷ []) ≡ [] = ap (λ (t : Bool). if t then x ∷ [] else []) denied in
    ap (filter p) (take_more xs i d h)
    ∙ (filter-append p (take i xs) (x ∷ []) ∙ (ap (λ (l : List PlaceNo). filter p (take i xs) ++ l) dropped ∙ append-nil (filter p (take i xs))))

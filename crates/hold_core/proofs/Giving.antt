-- The gives of a hold's items, from the last to the first.
use Rattle.std.proofs.Common.{◌≡◌, ℕ, zero, suc, ◌+◌, ◌≤◌, List, [], ◌∷◌, ◌++◌, length, refl, sym, ap, ◌∙◌, subst, arith, append_assoc, append-nil, length-append}
use Rattle.leg_masks.specs.Interval.{PlacedSpan as Item}
use Rattle.history_model.specs.declared.entry.Step.{Step}
use Rattle.history_model.specs.declared.entry.Step.TheVariants.{Give}
use Rattle.history_model.specs.History.{IsLegal}
use Rattle.claim_rule.specs.Rule.{DeskView}
use Rattle.claim_rule.specs.Desks.{AddsSteps}
use Rattle.claim_rule.specs.Holds.{HoldView, with_one}
use Rattle.claim_rule.proofs.Shapes.{shape_then, shape_none}
use Rattle.hold_core.specs.Places.{gives_back}

-- the desk has given some of the row's items back, and so many are left
pub record GaveSome (start now : DeskView) (row total left : ℕ) : Type 0 where
  pub gives : List Step
  pub rest : gives ++ gives_back row left ≡ gives_back row total
  pub seen : AddsSteps start now gives

pub gave_none : (start : DeskView) (row total : ℕ) → IsLegal start.layout start.seen → GaveSome start start row total total
gave_none start row total legal = record { gives = []; rest = refl; seen = shape_none start legal }

pub gave_more : (a b c : DeskView) (row total left : ℕ) → GaveSome a b row total (suc left) → AddsSteps b c (Give row left ∷ []) → GaveSome a c row total left
gave_more a b c row total left so did = record {
  gives = so.gives ++ Give row left ∷ [];
  rest = append_assoc so.gives (Give row left ∷ []) (gives_back row left) ∙ so.rest;
  seen = shape_then a b c so.gives (Give row left ∷ []) so.seen did;
}

pub gave_all : (a b : DeskView) (row total : ℕ) → GaveSome a b row total 0 → AddsSteps a b (gives_back row total)
gave_all a b row total so = subst (AddsSteps a b) (sym (append-nil so.gives) ∙ so.rest) so.seen

pub one_less : (old new : HoldView) (i : Item) → old ≡ with_one new i → length old.items ≡ suc (length new.items)
one_less old new i e = ap (λ (h : HoldView). length h.items) e ∙ (length-append new.items (i ∷ []) ∙ (let e : length new.items + 1 ≡ suc (length new.items) = omega arith in e))

pub same_row : (old new : HoldView) (i : Item) → old ≡ with_one new i → new.row ≡ old.row
same_row old new i e = sym (ap (λ (h : HoldView). h.row) e)

pub gives_length : (row n : ℕ) → length (gives_back row n) ≡ n
gives_length row zero = refl
gives_length row (suc n) = ap suc (gives_length row n)

pub none_left : (items : List Item) (n k : ℕ) → length items + k ≡ n → n ≤ k → items ≡ []
none_left [] n k e l = refl
none_left (i ∷ is) n k e l = absurd (omega arith)

-- The looks of a try, and how it ends.
use Rattle.std.proofs.Common.{◌≡◌, ◌≢◌, ℕ, ◌+◌, ◌<◌, List, [], ◌∷◌, ◌++◌, length, refl, sym, ap, ◌∙◌, subst, arith, append-nil, length-append}
use Rattle.std.specs.List.{AllByRecursion}
use Rattle.leg_masks.specs.Interval.{Interval, IsClear, half_of, item_word, PlacedSpan as Item}
use Rattle.history_model.specs.declared.entry.Step.{Step}
use Rattle.history_model.specs.declared.entry.Step.TheVariants.{Look, Take, Note}
use Rattle.history_model.specs.Looks.{look_at}
use Rattle.claim_rule.specs.Rule.{DeskView}
use Rattle.claim_rule.specs.Desks.{AddsSteps}
use Rattle.claim_rule.specs.Holds.{HoldView, with_one}
use Rattle.claim_rule.proofs.Shapes.{shape_then}
use Rattle.hold_core.specs.declared.tries.Outcome.TheVariants.{Won, Refused, Contended}
use Rattle.hold_core.specs.Tries.{looks_at, AreMoving, AllClear, TriesPiece, with_items, won_steps}

pub all_more : {X : Type 0} (P : X → Type 0) (xs : List X) (x : X) → AllByRecursion P xs → P x → AllByRecursion P (xs ++ x ∷ [])
all_more P [] x all p = (p, tt)
all_more P (y ∷ ys) x all p = (all.0, all_more P ys x all.1 p)

moving_more : (front : List ℕ) (a b : ℕ) → AreMoving (front ++ a ∷ []) → b ≢ a → AreMoving ((front ++ a ∷ []) ++ b ∷ [])
moving_more [] a b m ne = (ne, tt)
moving_more (x ∷ []) a b m ne = (m.0, (ne, tt))
moving_more (x ∷ y ∷ rest) a b m ne = (m.0, moving_more (y ∷ rest) a b m.1 ne)

looks_more : (place : ℕ) (span : Interval) (shown : List ℕ) (n : ℕ) → looks_at place span (shown ++ n ∷ []) ≡ looks_at place span shown ++ look_at place span n ∷ []
looks_more place span [] n = refl
looks_more place span (w ∷ ws) n = ap (λ (l : List Step). look_at place span w ∷ l) (looks_more place span ws n)

-- the look of the half is the piece's
pub as_look : (a b : DeskView) (place : ℕ) (span : Interval) (half n : ℕ) → half ≡ half_of span → AddsSteps a b (Look place half n ∷ []) → AddsSteps a b (look_at place span n ∷ [])
as_look a b place span half n is did = subst (λ (h : ℕ). AddsSteps a b (Look place h n ∷ [])) is did

-- the looks at a place so far, all free on the span, each unlike the one before, and the last of them
pub record LookedFree (start now : DeskView) (place : ℕ) (span : Interval) (count last : ℕ) : Type 0 where
  pub front : List ℕ
  pub many : length front ≡ count
  pub clear : AllClear span (front ++ last ∷ [])
  pub moving : AreMoving (front ++ last ∷ [])
  pub seen : AddsSteps start now (looks_at place span (front ++ last ∷ []))

pub looked_first : (a b : DeskView) (place : ℕ) (span : Interval) (n : ℕ) → IsClear n span → AddsSteps a b (look_at place span n ∷ []) → LookedFree a b place span 0 n
looked_first a b place span n clear did = record { front = []; many = refl; clear = (clear, tt); moving = tt; seen = did }

looks_then : (a b c : DeskView) (place : ℕ) (span : Interval) (shown : List ℕ) (n : ℕ) → AddsSteps a b (looks_at place span shown) → AddsSteps b c (look_at place span n ∷ []) → AddsSteps a c (looks_at place span (shown ++ n ∷ []))
looks_then a b c place span shown n seen did = subst (AddsSteps a c) (sym (looks_more place span shown n)) (shape_then a b c (looks_at place span shown) (look_at place span n ∷ []) seen did)

pub looked_more : (a b c : DeskView) (place : ℕ) (span : Interval) (count last n : ℕ) → LookedFree a b place span count last → AddsSteps b c (look_at place span n ∷ []) → n ≢ last → IsClear n span → LookedFree a c place span (count + 1) n
looked_more a b c place span count last n so did ne clear = record {
  front = so.front ++ last ∷ [];
  many = length-append so.front (last ∷ []) ∙ ap (λ (k : ℕ). k + 1) so.many;
  clear = all_more (λ (w : ℕ). IsClear w span) (so.front ++ last ∷ []) n so.clear clear;
  moving = moving_more so.front last n so.moving ne;
  seen = looks_then a b c place span (so.front ++ last ∷ []) n so.seen did;
}

long : (front : List ℕ) (last count : ℕ) → length front ≡ count → length (front ++ last ∷ []) ≡ count + 1
long front last count many = length-append front (last ∷ []) ∙ ap (λ (k : ℕ). k + 1) many

none_more : (hold : HoldView) → hold ≡ with_items hold []
none_more hold = ap (λ (is : List Item). record { row = hold.row; items = is }) (sym (append-nil hold.items))

pub refused_at_once : (a b : DeskView) (hold held : HoldView) (place : ℕ) (span : Interval) (n : ℕ) → ¬ IsClear n span → AddsSteps a b (look_at place span n ∷ []) → held ≡ hold → TriesPiece a hold place span b held Refused
refused_at_once a b hold held place span n taken did same = (
  n ∷ [],
  record { some = omega arith; moving = tt; outcome = (omega arith, ([], n, tt, taken, refl)) },
  did,
  same ∙ none_more hold,
)

pub refused : (a b c : DeskView) (hold held : HoldView) (place : ℕ) (span : Interval) (count last n : ℕ) → LookedFree a b place span count last → count < 8 → AddsSteps b c (look_at place span n ∷ []) → n ≢ last → ¬ IsClear n span → held ≡ hold → TriesPiece a hold place span c held Refused
refused a b c hold held place span count last n so few did ne taken same =
    let shown = (so.front ++ last ∷ []) ++ n ∷ [] in
    let l : length shown ≡ count + 1 + 1 = long (so.front ++ last ∷ []) n (count + 1) (long so.front last count so.many) in (
      shown,
      record { some = omega arith; moving = moving_more so.front last n so.moving ne; outcome = (omega arith, (so.front ++ last ∷ [], n, so.clear, taken, refl)) },
      subst (AddsSteps a c) (sym (append-nil (looks_at place span shown))) (looks_then a b c place span (so.front ++ last ∷ []) n so.seen did),
      same ∙ none_more hold,
    )

pub contended : (a b : DeskView) (hold held : HoldView) (place : ℕ) (span : Interval) (last : ℕ) → LookedFree a b place span 8 last → held ≡ hold → TriesPiece a hold place span b held Contended
contended a b hold held place span last so same =
    let shown = so.front ++ last ∷ [] in
    let l : length shown ≡ 9 = long so.front last 8 so.many in (
      shown,
      record { some = omega arith; moving = so.moving; outcome = (l, so.clear) },
      subst (AddsSteps a b) (sym (append-nil (looks_at place span shown))) so.seen,
      same ∙ none_more hold,
    )

pub won : (a b c d : DeskView) (hold held : HoldView) (place : ℕ) (span : Interval) (count last : ℕ) → LookedFree a b place span count last → count < 8 → AddsSteps b c (Take hold.row.row place span ∷ []) → AddsSteps c d (Note hold.row.row (8 + length hold.items) (item_word place span) ∷ []) → held ≡ with_one hold (record { place = place; span = span }) → TriesPiece a hold place span d held Won
won a b c d hold held place span count last so few took noted is =
    let shown = so.front ++ last ∷ [] in
    let l : length shown ≡ count + 1 = long so.front last count so.many in (
      shown,
      record { some = omega arith; moving = so.moving; outcome = (omega arith, so.clear) },
      shape_then a b d (looks_at place span shown) (won_steps hold.row.row (length hold.items) place span Won) so.seen (shape_then b c d (Take hold.row.row place span ∷ []) _ took noted),
      is,
    )

-- the same of the hold that the loop has, which is the one it began with
pub won_with : (a b c d : DeskView) (hold h t n : HoldView) (place : ℕ) (span : Interval) (count last : ℕ) → h ≡ hold → t ≡ with_one h (record { place = place; span = span }) → n ≡ t → LookedFree a b place span count last → count < 8 → AddsSteps b c (Take h.row.row place span ∷ []) → AddsSteps c d (Note t.row.row (8 + length h.items) (item_word place span) ∷ []) → TriesPiece a hold place span d n Won
won_with a b c d hold h t n place span count last same is kept so few took noted =
    subst (λ (x : HoldView). TriesPiece a x place span d n Won) same
    (won a b c d h n place span count last so few took (subst (λ (x : HoldView). AddsSteps c d (Note x.row.row (8 + length h.items) (item_word place span) ∷ [])) is noted) (kept ∙ is))

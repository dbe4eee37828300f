-- One more look behind those so far.
use Rattle.std.proofs.Common.{◌≡◌, ◌∙◌, ℕ, ◌+◌, ◌&&◌, Bool, true, false, append_assoc, append-nil, List, [], ◌∷◌, ◌++◌, refl, sym, ap, subst, take, get_or, length, ◌<◌}
use Rattle.std.specs.Prelude.{IsTrue, ◌↔◌, count_by, cond}
use Rattle.std.proofs.lemmas.List.{take_more}
use Rattle.std.proofs.lemmas.List.Sums.{fold-append}
use Rattle.leg_masks.specs.Interval.{Interval, IsClear, half_of, pieces}
use Rattle.rail_ids.specs.declared.PlaceNo.{PlaceNo}
use Rattle.history_model.specs.declared.entry.Step.{Step}
use Rattle.history_model.specs.declared.entry.Step.TheVariants.{Look}
use Rattle.history_model.specs.Looks.{look_at}
use Rattle.history_model.proofs.ListLemmas.{All-append}
use Rattle.history_model.specs.History.{IsLegal}
use Rattle.history_model.specs.Work.{NoStep}
use Rattle.claim_rule.specs.Rule.{BooksView, DeskView}
use Rattle.claim_rule.specs.Calls.{AddsStepsBy}
use Rattle.claim_rule.specs.Desks.{IsOf, AddsSteps}
use Rattle.claim_rule.specs.Out.{KeepsHolds, KeepsEndings, IsTidy, exchanges}
use Rattle.claim_rule.proofs.Shapes.{shape_then, shape_none}
use Rattle.claim_rule.proofs.Out.{tidy_through, settled_calm, still_idle}
use Rattle.availability.specs.Looks.{LooksPieces, LooksAt, CountsFree, HasLooked, HasLookedAt}

looks_more : (places : List PlaceNo) (place : PlaceNo) (span : Interval) (states : List Bool) (free : Bool) (es looks : List Step) → LooksAt places span states es → LooksPieces place.0 (pieces span) free looks
    → LooksAt (places ++ place ∷ []) span (states ++ free ∷ []) (es ++ looks)
looks_more [] place span [] free es looks at is = (looks, [], is, refl, ap (λ (l : List Step). l ++ looks) at ∙ sym (append-nil looks))
looks_more (p ∷ places) place span (b ∷ states) free es looks at is =
    (at.0, at.1 ++ looks, at.2, looks_more places place span states free at.1 looks at.3 is, ap (λ (l : List Step). l ++ looks) at.4 ∙ append_assoc at.0 at.1 looks)
looks_more [] place span (b ∷ states) free es looks at is = absurd at
looks_more (p ∷ places) place span [] free es looks at is = absurd at

pub looked_none : (desk : DeskView) (span : Interval) → IsLegal desk.layout desk.seen → AddsStepsBy (LooksAt [] span []) desk desk
looked_none desk span legal = ([], refl, shape_none desk legal)

pub looked_more : (old mid new : DeskView) (places : List PlaceNo) (place : PlaceNo) (span : Interval) (states : List Bool) (free : Bool) → AddsStepsBy (LooksAt places span states) old mid → HasLooked place span free mid new
    → AddsStepsBy (LooksAt (places ++ place ∷ []) span (states ++ free ∷ [])) old new
looked_more old mid new places place span states free did look = (
  did.0 ++ look.0,
  looks_more places place span states free did.0 look.0 did.1 look.1,
  shape_then old mid new did.0 look.0 did.2 look.2,
)

count_more : (states : List Bool) (free : Bool) → count_by (λ state. state) (states ++ free ∷ []) ≡ count_by (λ state. state) states + cond free 1 0
count_more states free = fold-append (λ a x. a + cond x 1 0) 0 states (free ∷ [])

pieces_calm : (place : ℕ) (ps : List Interval) (free : Bool) (es : List Step) → LooksPieces place ps free es → NoStep exchanges es
pieces_calm place [] free es looks = subst (NoStep exchanges) (sym looks.1) tt
pieces_calm place (p ∷ ps) free es looks = subst (NoStep exchanges) (sym looks.7) (refl, pieces_calm place ps looks.2 looks.3 looks.5)

looks_calm : (places : List PlaceNo) (span : Interval) (states : List Bool) (es : List Step) → LooksAt places span states es → NoStep exchanges es
looks_calm [] span [] es looks = subst (NoStep exchanges) (sym looks) tt
looks_calm (p ∷ places) span (b ∷ states) es looks =
    subst (NoStep exchanges) (sym looks.4) (All-append (λ (st : Step). exchanges st ≡ false) looks.0 looks.1 (pieces_calm p.0 (pieces span) b looks.0 looks.2) (looks_calm places span states looks.1 looks.3))
looks_calm [] span (b ∷ states) es looks = absurd looks
looks_calm (p ∷ places) span [] es looks = absurd looks

pub looked_tidy : (books : BooksView) (old new : DeskView) (places : List PlaceNo) (span : Interval) (states : List Bool) → IsOf books new → AddsStepsBy (LooksAt places span states) old new → KeepsHolds old new → KeepsEndings old new → IsTidy old → IsTidy new
looked_tidy books old new places span states of did holds endings is =
    tidy_through books old new did.0 of did.2 (settled_calm old.number did.0 (looks_calm places span states did.0 did.1)) is (still_idle old new holds endings is.0)

pub counted_more : (old mid new : DeskView) (places : List PlaceNo) (place : PlaceNo) (span : Interval) (count : ℕ) (free : Bool) → AddsStepsBy (CountsFree places span count) old mid → HasLooked place span free mid new
    → AddsStepsBy (CountsFree (places ++ place ∷ []) span (count + cond free 1 0)) old new
counted_more old mid new places place span count free did look = (
  did.0 ++ look.0,
  (did.1.0 ++ free ∷ [], looks_more places place span did.1.0 free did.0 look.0 did.1.1 look.1, ap (λ n. n + cond free 1 0) did.1.2 ∙ sym (count_more did.1.0 free)),
  shape_then old mid new did.0 look.0 did.2 look.2,
)

pub counted_none : (desk : DeskView) (span : Interval) → IsLegal desk.layout desk.seen → AddsStepsBy (CountsFree [] span 0) desk desk
counted_none desk span legal = ([], ([], refl, refl), shape_none desk legal)

pub counted_tidy : (books : BooksView) (old new : DeskView) (places : List PlaceNo) (span : Interval) (count : ℕ) → IsOf books new → AddsStepsBy (CountsFree places span count) old new → KeepsHolds old new → KeepsEndings old new → IsTidy old → IsTidy new
counted_tidy books old new places span count of did holds endings is = looked_tidy books old new places span did.1.0 of (did.0, did.1.1, did.2) holds endings is

pub counted_next : (old mid new : DeskView) (places : List PlaceNo) (i : ℕ) (d : PlaceNo) (span : Interval) (count : ℕ) (free : Bool) → i < length places → AddsStepsBy (CountsFree (take i places) span count) old mid → HasLooked (get_or places i d) span free mid new
    → AddsStepsBy (CountsFree (take (i + 1) places) span (count + cond free 1 0)) old new
counted_next old mid new places i d span count free h did look =
    subst (λ (l : List PlaceNo). AddsStepsBy (CountsFree l span (count + cond free 1 0)) old new) (sym (take_more places i d h)) (counted_more old mid new (take i places) (get_or places i d) span count free did look)

pub looked_next : (old mid new : DeskView) (places : List PlaceNo) (i : ℕ) (d : PlaceNo) (span : Interval) (states : List Bool) (free : Bool) → i < length places → AddsStepsBy (LooksAt (take i places) span states) old mid → HasLooked (get_or places i d) span free mid new
    → AddsStepsBy (LooksAt (take (i + 1) places) span (states ++ free ∷ [])) old new
looked_next old mid new places i d span states free h did look =
    subst (λ (l : List PlaceNo). AddsStepsBy (LooksAt l span (states ++ free ∷ [])) old new) (sym (take_more places i d h)) (looked_more old mid new (take i places) (get_or places i d) span states free did look)

-- the looks at one place, from those at its pieces

and_true : (b : Bool) → b ≡ (b && true)
and_true true = refl
and_true false = refl

pub one_looked : (old new : DeskView) (place : PlaceNo) (span x : Interval) (free : Bool) → pieces span ≡ x ∷ [] → HasLookedAt place x free old new → HasLooked place span free old new
one_looked old new place span x free are look =
    (look_at place.0 x look.0 ∷ [], subst (λ (ps : List Interval). LooksPieces place.0 ps free (look_at place.0 x look.0 ∷ [])) (sym are) (look.0, free, true, [], look.1, (refl, refl), and_true free, refl), look.2)

pub two_looked : (old mid new : DeskView) (place : PlaceNo) (span x y : Interval) (a b free : Bool) → pieces span ≡ x ∷ y ∷ [] → HasLookedAt place x a old mid → HasLookedAt place y b mid new → free ≡ (a && b) → HasLooked place span free old new
two_looked old mid new place span x y a b free are first second is = (
  look_at place.0 x first.0 ∷ look_at place.0 y second.0 ∷ [],
  subst (λ (ps : List Interval). LooksPieces place.0 ps free (look_at place.0 x first.0 ∷ look_at place.0 y second.0 ∷ [])) (sym are)
      (first.0, a, b, look_at place.0 y second.0 ∷ [], first.1, (second.0, b, true, [], second.1, (refl, refl), and_true b, refl), is, refl),
  shape_then old mid new (look_at place.0 x first.0 ∷ []) (look_at place.0 y second.0 ∷ []) first.2 second.2,
)

-- the look of the half is the piece's
pub as_piece : (old new : DeskView) (place : PlaceNo) (piece : Interval) (half word : ℕ) (free : Bool) → half ≡ half_of piece → (IsTrue free ↔ IsClear word piece) → AddsSteps old new (Look place.0 half word ∷ []) → HasLookedAt place piece free old new
as_piece old new place piece half word free is says did = (word, says, subst (λ (h : ℕ). AddsSteps old new (Look place.0 h word ∷ [])) is did)

-- A try of a candidate, from those of its pieces.
use Rattle.std.proofs.Common.{◌≡◌, ◌≢◌, ◌⊎◌, inl, inr, ⊎_elim, false, ℕ, ◌+◌, ◌-◌, ◌<◌, ◌≤◌, List, [], ◌∷◌, ◌++◌, length, map, take, refl, sym, ap, ◌∙◌, subst, arith, append_assoc, append-nil, length-append}
use Rattle.std.specs.List.{AllByRecursion}
use Rattle.leg_masks.specs.Interval.{Interval, IsPiece, pieces, is_piece, PlacedSpan as Item}
use Rattle.leg_masks.proofs.HalfLegs.{pieces-whole, pieces-border, pieces_some, ends-border, cases_piece}
use Rattle.leg_masks.proofs.InPieces.{head_same}
use Rattle.history_model.specs.declared.entry.Step.{Step}
use Rattle.history_model.specs.declared.entry.Step.TheVariants.{Give}
use Rattle.claim_rule.specs.Rule.{DeskView}
use Rattle.claim_rule.specs.Desks.{AddsSteps}
use Rattle.claim_rule.specs.Holds.{HoldView, with_one}
use Rattle.claim_rule.specs.Out.{HasNoted, HasNotedItems, HasNotedButLast}
use Rattle.claim_rule.proofs.Holding.{take_front}
use Rattle.claim_rule.proofs.Noting.{noted_front}
use Rattle.claim_rule.proofs.Shapes.{shape_then}
use Rattle.hold_core.specs.declared.tries.Outcome.{Outcome}
use Rattle.hold_core.specs.declared.tries.Outcome.TheVariants.{Won, Refused, Contended}
use Rattle.hold_core.specs.Tries.{Part, AreParts, part_steps, undone, items_tried, piece_won, given_first, HasSecond, with_items, TriesPiece, TriesSecond, TriesPlace}

-- the pieces of a span, one by one

abbrev no_parts : List Part
no_parts = []

abbrev pub placed : ℕ → Interval → Item
placed place piece = record { place = place; span = piece }

-- a candidate whose last try is that of its first piece

not_won_r : Refused ≢ Won
not_won_r e = cc

not_won_c : Contended ≢ Won
not_won_c e = cc

pub one_part : (a b : DeskView) (hold held : HoldView) (place : ℕ) (span x : Interval) (rest : List Interval) (o : Outcome) → pieces span ≡ x ∷ rest → (o ≡ Won → rest ≡ []) → TriesPiece a hold place x b held o → TriesPlace a hold place span b held o
one_part a b hold held place span x rest o are last did =
    let t : Part = record { piece = x; shown = did.0; outcome = o } in
    let row = hold.row.row in
    let k = length hold.items in (
      t ∷ [],
      subst (λ (l : List Interval). AreParts l (t ∷ []) o) (sym are) (refl, did.1, ends o refl),
      subst (AddsSteps a b) (sym (steps o t row k)) did.2,
      did.3 ∙ ap (with_items hold) (items o last),
    )
  where
    ends : (q : Outcome) → o ≡ q → ((o ≡ Won) × AreParts rest [] o) ⊎ ((o ≢ Won) × (no_parts ≡ no_parts) × (o ≡ o))
    ends Won e = inl (e, subst (λ (l : List Interval). AreParts l [] o) (sym (last e)) e)
    ends Refused e = inr ((λ w. not_won_r (sym e ∙ w)), refl, refl)
    ends Contended e = inr ((λ w. not_won_c (sym e ∙ w)), refl, refl)

    steps : (q : Outcome) (t : Part) (row k : ℕ) → (part_steps row k place t ++ []) ++ undone row k q (t ∷ []) ≡ part_steps row k place t
    steps Won t row k = append-nil (part_steps row k place t ++ []) ∙ append-nil (part_steps row k place t)
    steps Refused t row k = append-nil (part_steps row k place t ++ []) ∙ append-nil (part_steps row k place t)
    steps Contended t row k = append-nil (part_steps row k place t ++ []) ∙ append-nil (part_steps row k place t)

    items : (q : Outcome) → (q ≡ Won → rest ≡ []) → piece_won place x q ≡ items_tried place span q
    items Won none = sym (ap (map (placed place)) (are ∙ ap (λ (l : List Interval). x ∷ l) (none refl)))
    items Refused none = refl
    items Contended none = refl

-- a candidate of two pieces, of which the first is won

same_items : (xs ys : List Item) (x y : Item) → xs ++ x ∷ [] ≡ ys ++ y ∷ [] → xs ≡ ys
same_items xs ys x y e = sym (take_front xs x) ∙ (ap (λ (l : List Item). take (length l - 1) l) e ∙ take_front ys y)

back_again : (hold mid held : HoldView) (i j : Item) → mid ≡ with_one hold i → mid ≡ with_one held j → held ≡ hold
back_again hold mid held i j e f =
    let rows : held.row ≡ hold.row = sym (ap (λ (h : HoldView). h.row) f) ∙ ap (λ (h : HoldView). h.row) e in
    let items : held.items ≡ hold.items = same_items held.items hold.items j i (sym (ap (λ (h : HoldView). h.items) f) ∙ ap (λ (h : HoldView). h.items) e) in
    λ k. record { row = rows k; items = items k }

none_more : (hold : HoldView) → hold ≡ with_items hold []
none_more hold = ap (λ (is : List Item). record { row = hold.row; items = is }) (sym (append-nil hold.items))

-- the steps behind the first piece, by the hold that the call began with
given_back : (hold mid : HoldView) (i : Item) (o : Outcome) (t u : Part) → mid ≡ with_one hold i → given_first mid o ≡ undone hold.row.row (length hold.items) o (t ∷ u ∷ [])
given_back hold mid i Won t u e = refl
given_back hold mid i Refused t u e = one_give hold mid i e
  where
    one_give : (hold mid : HoldView) (i : Item) → mid ≡ with_one hold i → Give mid.row.row (length mid.items - 1) ∷ [] ≡ Give hold.row.row (length hold.items) ∷ []
    one_give hold mid i e = ap (λ (h : HoldView). Give h.row.row (length h.items - 1) ∷ []) e ∙ ap (λ (n : ℕ). Give hold.row.row n ∷ []) (let l = length-append hold.items (i ∷ []) in omega arith)
given_back hold mid i Contended t u e = one_give hold mid i e
  where
    one_give : (hold mid : HoldView) (i : Item) → mid ≡ with_one hold i → Give mid.row.row (length mid.items - 1) ∷ [] ≡ Give hold.row.row (length hold.items) ∷ []
    one_give hold mid i e = ap (λ (h : HoldView). Give h.row.row (length h.items - 1) ∷ []) e ∙ ap (λ (n : ℕ). Give hold.row.row n ∷ []) (let l = length-append hold.items (i ∷ []) in omega arith)

second_steps : (hold mid : HoldView) (place : ℕ) (i : Item) (u : Part) → mid ≡ with_one hold i → part_steps mid.row.row (length mid.items) place u ≡ part_steps hold.row.row (length hold.items + 1) place u
second_steps hold mid place i u e = ap (λ (h : HoldView). part_steps h.row.row (length h.items) place u) e ∙ ap (λ (n : ℕ). part_steps hold.row.row n place u) (length-append hold.items (i ∷ []))

has_all : (hold mid held : HoldView) (place : ℕ) (span x y : Interval) (o : Outcome) → pieces span ≡ x ∷ y ∷ [] → mid ≡ with_one hold (placed place x) → HasSecond mid place y o held → held ≡ with_items hold (items_tried place span o)
has_all hold mid held place span x y Won are first has =
    has ∙ (ap (λ (h : HoldView). with_one h (placed place y)) first
    ∙ (ap (λ (is : List Item). record { row = hold.row; items = is }) (append_assoc hold.items (placed place x ∷ []) (placed place y ∷ []))
    ∙ ap (with_items hold) (sym (ap (map (placed place)) are))))
has_all hold mid held place span x y Refused are first has = back_again hold mid held (placed place x) has.0 first has.1 ∙ none_more hold
has_all hold mid held place span x y Contended are first has = back_again hold mid held (placed place x) has.0 first has.1 ∙ none_more hold

pub two_parts : (a b c : DeskView) (hold mid held : HoldView) (place : ℕ) (span x y : Interval) (o : Outcome) → pieces span ≡ x ∷ y ∷ [] → TriesPiece a hold place x b mid Won → TriesSecond b mid place y c held o → TriesPlace a hold place span c held o
two_parts a b c hold mid held place span x y o are first second =
    let t : Part = record { piece = x; shown = first.0; outcome = Won } in
    let u : Part = record { piece = y; shown = second.0; outcome = o } in
    let row = hold.row.row in
    let k = length hold.items in
    let p : List Step = part_steps row k place t in
    let q : List Step = part_steps row (k + 1) place u in
    let back : List Step = undone row k o (t ∷ u ∷ []) in
    let rest : part_steps mid.row.row (length mid.items) place u ++ given_first mid o ≡ q ++ back =
    (λ i. second_steps hold mid place (placed place x) u first.3 i ++ given_back hold mid (placed place x) o t u first.3 i) in (
      t ∷ u ∷ [],
      subst (λ (l : List Interval). AreParts l (t ∷ u ∷ []) o) (sym are) (refl, first.1, inl (refl, (refl, second.1, ends o refl))),
      subst (AddsSteps a c) (sym (append_assoc p (q ++ []) back ∙ ap (λ (l : List Step). p ++ (l ++ back)) (append-nil q)))
          (shape_then a b c p (q ++ back) first.2 (subst (AddsSteps b c) rest second.2)),
      has_all hold mid held place span x y o are first.3 second.3,
    )
  where
    ends : (q : Outcome) → o ≡ q → ((o ≡ Won) × (o ≡ Won)) ⊎ ((o ≢ Won) × (no_parts ≡ no_parts) × (o ≡ o))
    ends Won e = inl (e, e)
    ends Refused e = inr ((λ w. not_won_r (sym e ∙ w)), refl, refl)
    ends Contended e = inr ((λ w. not_won_c (sym e ∙ w)), refl, refl)

-- the try of a second piece

pub second_won : (b c : DeskView) (mid held : HoldView) (place : ℕ) (y : Interval) → TriesPiece b mid place y c held Won → TriesSecond b mid place y c held Won
second_won b c mid held place y did = (did.0, did.1, subst (AddsSteps b c) (sym (append-nil _)) did.2, did.3)

same_after : (mid held : HoldView) (is : List Item) → held ≡ with_items mid is → is ≡ [] → held ≡ mid
same_after mid held is e none = e ∙ (ap (with_items mid) none ∙ sym (none_more mid))

less_one : (mid after less : HoldView) (i : Item) → after ≡ mid → after ≡ with_one less i → length less.items ≡ length mid.items - 1
less_one mid after less i same one =
    let l : length mid.items ≡ length less.items + 1 = ap (λ (h : HoldView). length h.items) (sym same ∙ one) ∙ length-append less.items (i ∷ []) in omega (arith, l)

give_is : (mid after less : HoldView) (i : Item) → after ≡ mid → after ≡ with_one less i → Give after.row.row (length less.items) ∷ [] ≡ Give mid.row.row (length mid.items - 1) ∷ []
give_is mid after less i same one = λ k. Give (ap (λ (h : HoldView). h.row.row) same k) (less_one mid after less i same one k) ∷ []

pub second_refused : (b c d : DeskView) (mid after less : HoldView) (place : ℕ) (y : Interval) (i : Item) → TriesPiece b mid place y c after Refused → after ≡ with_one less i → AddsSteps c d (Give after.row.row (length less.items) ∷ []) → TriesSecond b mid place y d less Refused
second_refused b c d mid after less place y i did one gave =
    let same = same_after mid after [] did.3 refl in
    let t : Part = record { piece = y; shown = did.0; outcome = Refused } in
    (did.0, did.1, shape_then b c d (part_steps mid.row.row (length mid.items) place t) _ did.2 (subst (AddsSteps c d) (give_is mid after less i same one) gave), (i, sym same ∙ one))

pub second_contended : (b c d : DeskView) (mid after less : HoldView) (place : ℕ) (y : Interval) (i : Item) → TriesPiece b mid place y c after Contended → after ≡ with_one less i → AddsSteps c d (Give after.row.row (length less.items) ∷ []) → TriesSecond b mid place y d less Contended
second_contended b c d mid after less place y i did one gave =
    let same = same_after mid after [] did.3 refl in
    let t : Part = record { piece = y; shown = did.0; outcome = Contended } in
    (did.0, did.1, shape_then b c d (part_steps mid.row.row (length mid.items) place t) _ did.2 (subst (AddsSteps c d) (give_is mid after less i same one) gave), (i, sym same ∙ one))

-- where all items are noted, all but the last are
pub noted_but_last : (desk : DeskView) (hold less : HoldView) (i : Item) → hold ≡ with_one less i → HasNotedItems desk hold → HasNotedButLast desk hold
noted_but_last desk hold less i one on = (less.items, i, ap (λ (h : HoldView). h.items) one, noted_front desk hold.row.row less.items (i ∷ []) (subst (HasNoted desk hold.row.row) (ap (λ (h : HoldView). h.items) one) on))

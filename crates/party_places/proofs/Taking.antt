-- The places of a stretch, taken one after the other, and given back.
use Rattle.std.proofs.Common.{◌≡◌, ◌≢◌, ◌∙◌, ℕ, suc, ◌+◌, ◌-◌, ◌*◌, ◌<◌, ◌≤◌, List, [], ◌∷◌, ◌++◌, length, map, take, drop, get_or, refl, sym, ap, subst, arith, append_assoc, append-nil, length-append, take-append-drop, one-mul}
use mathlib.Core.List.{map-append}
use Rattle.std.proofs.Math.Nat.{add-mul, zero-mul, suc-mul, mul-le-mul_right}
use Rattle.std.proofs.lemmas.List.{take_all, take_more, length-map, length-take-le}
use Rattle.leg_masks.specs.Interval.{Interval, pieces, PlacedSpan as Item}
use Rattle.rail_ids.specs.declared.PlaceNo.{PlaceNo}
use Rattle.history_model.specs.declared.entry.Step.{Step}
use Rattle.history_model.specs.declared.entry.Step.TheVariants.{Give}
use Rattle.history_model.specs.History.{IsLegal}
use Rattle.claim_rule.specs.Rule.{DeskView}
use Rattle.claim_rule.specs.Desks.{AddsSteps}
use Rattle.claim_rule.specs.Calls.{AddsStepsBy}
use Rattle.claim_rule.specs.Holds.{HoldView, with_one}
use Rattle.claim_rule.proofs.Shapes.{shape_then, shape_none}
use Rattle.hold_core.specs.declared.adds.Added.{Added}
use Rattle.hold_core.specs.declared.adds.Added.TheVariants as added
use Rattle.hold_core.specs.Tries.{place_number, with_items}
use Rattle.hold_core.specs.Places.{Adds, places_won}
use Rattle.hold_core.proofs.Adding.{items_count}
use Rattle.party_places.specs.Parties.{TakesEach, LosesAt, GivesUpAt, gives_down}
use Rattle.party_places.proofs.Rows.{same_parts}

-- how many items one place gives

pub one_place : (row k : ℕ) (span : Interval) (cs : List ℕ) (won : List Item) (es : List Step) → Adds row k span 1 cs added.All won es → length won ≡ length (pieces span)
one_place row k span cs won es a =
    ap length a.items ∙ (items_count span a.tries ∙ (ap (λ (n : ℕ). n * length (pieces span)) a.adding.1 ∙ one-mul (length (pieces span))))

empty : (is : List Item) → length is ≡ 0 → is ≡ []
empty [] e = refl
empty (i ∷ is) e = absurd (omega (arith, e))

nothing_won : (row k : ℕ) (span : Interval) (cs : List ℕ) (answer : Added) (won : List Item) (es : List Step) → (a : Adds row k span 1 cs answer won es) → length (places_won a.tries) < 1 → won ≡ []
nothing_won row k span cs answer won es a few =
    let none : length (places_won a.tries) ≡ 0 = omega (arith, few) in
    empty won (ap length a.items ∙ (items_count span a.tries ∙ (ap (λ (n : ℕ). n * length (pieces span)) none ∙ zero-mul (length (pieces span)))))

pub none_short : (row k : ℕ) (span : Interval) (cs : List ℕ) (n : ℕ) (won : List Item) (es : List Step) → Adds row k span 1 cs (added.NoPlace n) won es → won ≡ []
none_short row k span cs n won es a = nothing_won row k span cs (added.NoPlace n) won es a (let many = a.adding.1 in let few = a.adding.2 in omega (arith, many, few))

pub none_contended : (row k : ℕ) (span : Interval) (cs : List ℕ) (p : PlaceNo) (won : List Item) (es : List Step) → Adds row k span 1 cs (added.Contended p) won es → won ≡ []
none_contended row k span cs p won es a = nothing_won row k span cs (added.Contended p) won es a a.adding.1

-- one more place is taken

takes_more : (row k : ℕ) (span : Interval) (ps : List ℕ) (p : ℕ) (won mine : List Item) (es first : List Step) → TakesEach row k span ps won es
    → Adds row (k + length won) span 1 (p ∷ []) added.All mine first → TakesEach row k span (ps ++ p ∷ []) (won ++ mine) (es ++ first)
takes_more row k span [] p won mine es first (none, nothing) adds =
    let here : k + length won ≡ k = let l = ap length none in omega (arith, l) in (
      mine,
      [],
      first,
      [],
      subst (λ (n : ℕ). Adds row n span 1 (p ∷ []) added.All mine first) here adds,
      (refl, refl),
      ap (λ (l : List Item). l ++ mine) none ∙ sym (append-nil mine),
      ap (λ (l : List Step). l ++ first) nothing ∙ sym (append-nil first),
    )
takes_more row k span (q ∷ ps) p won mine es first (m, more, f, others, one, rest, won_is, es_is) adds =
    let here : k + length won ≡ k + length m + length more = let l = ap length won_is ∙ length-append m more in omega (arith, l) in (
      m,
      more ++ mine,
      f,
      others ++ first,
      one,
      takes_more row (k + length m) span ps p more mine others first rest (subst (λ (n : ℕ). Adds row n span 1 (p ∷ []) added.All mine first) here adds),
      ap (λ (l : List Item). l ++ mine) won_is ∙ append_assoc m more mine,
      ap (λ (l : List Step). l ++ first) es_is ∙ append_assoc f others first,
    )

-- so many places of the stretch are taken
pub record Took (start now : DeskView) (hold held : HoldView) (span : Interval) (stretch : List PlaceNo) (n : ℕ) : Type 0 where
  pub won : List Item
  pub takes : AddsStepsBy (TakesEach hold.row.row (length hold.items) span (map place_number (take n stretch)) won) start now
  pub held_is : held ≡ with_items hold won
  pub many : length won ≡ n * length (pieces span)

none_more : (hold : HoldView) → hold ≡ with_items hold []
none_more hold = ap (λ (is : List Item). record { row = hold.row; items = is }) (sym (append-nil hold.items))

pub took_none : (start : DeskView) (hold : HoldView) (span : Interval) (stretch : List PlaceNo) → IsLegal start.layout start.seen → Took start start hold hold span stretch 0
took_none start hold span stretch legal =
    record { won = []; takes = ([], (refl, refl), shape_none start legal); held_is = none_more hold; many = sym (zero-mul (length (pieces span))) }

held_then : (hold mid held : HoldView) (xs ys : List Item) → mid ≡ with_items hold xs → held ≡ with_items mid ys → held ≡ with_items hold (xs ++ ys)
held_then hold mid held xs ys e f =
    f ∙ (ap (λ (h : HoldView). with_items h ys) e ∙ ap (λ (is : List Item). record { row = hold.row; items = is }) (append_assoc hold.items xs ys))

-- the same hold, by its row and the number of its items
as_first : (hold mid : HoldView) (xs : List Item) (span : Interval) (ps : List ℕ) (answer : Added) (won : List Item) (es : List Step) → mid ≡ with_items hold xs
    → Adds mid.row.row (length mid.items) span 1 ps answer won es → Adds hold.row.row (length hold.items + length xs) span 1 ps answer won es
as_first hold mid xs span ps answer won es e a =
    subst (λ (n : ℕ). Adds hold.row.row n span 1 ps answer won es) (length-append hold.items xs) (subst (λ (h : HoldView). Adds h.row.row (length h.items) span 1 ps answer won es) e a)

places_more : (ps : List PlaceNo) (n : ℕ) (d : PlaceNo) → n < length ps → map place_number (take (n + 1) ps) ≡ map place_number (take n ps) ++ (get_or ps n d).0 ∷ []
places_more ps n d l = ap (map place_number) (take_more ps n d l) ∙ map-append place_number (take n ps) (get_or ps n d ∷ [])

pub took_more : (a b c : DeskView) (hold mid held : HoldView) (span : Interval) (stretch : List PlaceNo) (n : ℕ) (p d : PlaceNo) (mine : List Item) → Took a b hold mid span stretch n → n < length stretch → p ≡ get_or stretch n d
    → AddsStepsBy (Adds mid.row.row (length mid.items) span 1 (map place_number (p ∷ [])) added.All mine) b c → held ≡ with_items mid mine → Took a c hold held span stretch (n + 1)
took_more a b c hold mid held span stretch n p d mine so inside is did held_is =
    let adds = as_first hold mid so.won span (p.0 ∷ []) added.All mine did.0 so.held_is did.1 in
    let ps : map place_number (take n stretch) ++ p.0 ∷ [] ≡ map place_number (take (n + 1) stretch) =
    ap (λ (q : PlaceNo). map place_number (take n stretch) ++ q.0 ∷ []) is ∙ sym (places_more stretch n d inside) in
    let l = length (pieces span) in
    record {
      won = so.won ++ mine;
      takes = (
        so.takes.0 ++ did.0,
        subst (λ (qs : List ℕ). TakesEach hold.row.row (length hold.items) span qs (so.won ++ mine) (so.takes.0 ++ did.0)) ps
            (takes_more hold.row.row (length hold.items) span (map place_number (take n stretch)) p.0 so.won mine so.takes.0 did.0 so.takes.1 adds),
        shape_then a b c so.takes.0 did.0 so.takes.2 did.2,
      );
      held_is = held_then hold mid held so.won mine so.held_is held_is;
      many = length-append so.won mine
          ∙ ((λ i. so.many i + one_place hold.row.row (length hold.items + length so.won) span (p.0 ∷ []) mine did.0 adds i) ∙ sum n l);
    }
  where
    sum : (n l : ℕ) → n * l + l ≡ (n + 1) * l
    sum n l = sym (add-mul n 1 l ∙ ap (λ (k : ℕ). n * l + k) (one-mul l))

-- or one isn't won
pub took_not : (a b c : DeskView) (hold mid held : HoldView) (span : Interval) (stretch : List PlaceNo) (n : ℕ) (p d : PlaceNo) (answer : Added) (mine : List Item) → Took a b hold mid span stretch n → n < length stretch
    → p ≡ get_or stretch n d → answer ≢ added.All → mine ≡ [] → AddsStepsBy (Adds mid.row.row (length mid.items) span 1 (map place_number (p ∷ [])) answer mine) b c → held ≡ with_items mid mine
    → (won : List Item) × AddsStepsBy (LosesAt hold.row.row (length hold.items) span (map place_number stretch) n won) a c × (held ≡ with_items hold won)
took_not a b c hold mid held span stretch n p d answer mine so inside is stopped none did held_is =
    let adds = as_first hold mid so.won span (p.0 ∷ []) answer mine did.0 so.held_is did.1 in
    let front : List ℕ = map place_number (take n stretch) in
    let back : List ℕ = map place_number (drop (n + 1) stretch) in
    let here : map place_number (take (n + 1) stretch) ≡ front ++ p.0 ∷ [] = places_more stretch n d inside ∙ ap (λ (q : PlaceNo). front ++ q.0 ∷ []) (sym is) in
    let all : map place_number stretch ≡ front ++ p.0 ∷ back =
    ap (map place_number) (sym (take-append-drop (n + 1) stretch)) ∙ (map-append place_number (take (n + 1) stretch) (drop (n + 1) stretch)
    ∙ (ap (λ (qs : List ℕ). qs ++ back) here ∙ append_assoc front (p.0 ∷ []) back)) in (
      so.won,
      (
        so.takes.0 ++ did.0,
        (
          record {
            before = front;
            place = p.0;
            behind = back;
            stretch_is = all;
            answer = answer;
            stopped = stopped;
            takes = so.takes.0;
            last = did.0;
            takes_are = so.takes.1;
            last_are = subst (λ (is : List Item). Adds hold.row.row (length hold.items + length so.won) span 1 (p.0 ∷ []) answer is did.0) none adds;
            are = refl;
          },
          length-map (take n stretch) place_number ∙ length-take-le n stretch (let e : n ≤ length stretch = omega (arith, inside) in e),
        ),
        shape_then a b c so.takes.0 did.0 so.takes.2 did.2,
      ),
      held_is ∙ (ap (with_items mid) none ∙ (sym (none_more mid) ∙ so.held_is)),
    )

-- giving back

-- of the hold's items so many above `left` are still to be given back
pub record Gave (start now : DeskView) (hold held : HoldView) (left total more : ℕ) : Type 0 where
  pub gives : List Step
  pub rest : gives ++ gives_down hold.row.row left more ≡ gives_down hold.row.row left total
  pub seen : AddsSteps start now gives
  pub gone : List Item
  pub hold_is : hold ≡ with_items held gone
  pub many : length held.items ≡ left + more

pub gave_none : (start : DeskView) (hold : HoldView) (left : ℕ) → left ≤ length hold.items → IsLegal start.layout start.seen → Gave start start hold hold left (length hold.items - left) (length hold.items - left)
gave_none start hold left few legal = record {
  gives = [];
  rest = refl;
  seen = shape_none start legal;
  gone = [];
  hold_is = none_more hold;
  many = (let e : length hold.items ≡ left + (length hold.items - left) = omega (arith, few) in e);
}

pub gave_more : (a b c : DeskView) (hold mid held : HoldView) (left total more : ℕ) (i : Item) → Gave a b hold mid left total (suc more) → mid ≡ with_one held i
    → AddsSteps b c (Give mid.row.row (length held.items) ∷ []) → Gave a c hold held left total more
gave_more a b c hold mid held left total more i so one did =
    let count : length mid.items ≡ length held.items + 1 = ap (λ (h : HoldView). length h.items) one ∙ length-append held.items (i ∷ []) in
    let many : length held.items ≡ left + more = let m = so.many in omega (arith, count, m) in
    let row : mid.row.row ≡ hold.row.row = sym (ap (λ (h : HoldView). h.row.row) so.hold_is) in
    let step : AddsSteps b c (Give hold.row.row (left + more) ∷ []) = subst (λ (n : ℕ). AddsSteps b c (Give hold.row.row n ∷ [])) many (subst (λ (r : ℕ). AddsSteps b c (Give r (length held.items) ∷ [])) row did) in
    record {
      gives = so.gives ++ Give hold.row.row (left + more) ∷ [];
      rest = append_assoc so.gives (Give hold.row.row (left + more) ∷ []) (gives_down hold.row.row left more) ∙ so.rest;
      seen = shape_then a b c so.gives (Give hold.row.row (left + more) ∷ []) so.seen step;
      gone = i ∷ so.gone;
      hold_is = so.hold_is ∙ (ap (λ (h : HoldView). with_items h so.gone) one ∙ ap (λ (is : List Item). record { row = held.row; items = is }) (append_assoc held.items (i ∷ []) so.gone));
      many = many;
    }

pub gave_all : (a b : DeskView) (hold held : HoldView) (left total : ℕ) → Gave a b hold held left total 0 → AddsSteps a b (gives_down hold.row.row left total)
gave_all a b hold held left total so = subst (AddsSteps a b) (sym (append-nil so.gives) ∙ so.rest) so.seen

-- a try that lost leaves the hold as it was
pub given_up : (a b c : DeskView) (hold mid held : HoldView) (span : Interval) (stretch : List ℕ) (n : ℕ) (won gone : List Item) → AddsStepsBy (LosesAt hold.row.row (length hold.items) span stretch n won) a b
    → mid ≡ with_items hold won → AddsSteps b c (gives_down mid.row.row (length hold.items) (length mid.items - length hold.items)) → mid ≡ with_items held gone → length held.items ≡ length hold.items
    → AddsStepsBy (GivesUpAt hold.row.row (length hold.items) span stretch n) a c × (held ≡ hold)
given_up a b c hold mid held span stretch n won gone did is gave gone_is many =
    let count : length mid.items - length hold.items ≡ length won = let l = ap (λ (h : HoldView). length h.items) is ∙ length-append hold.items won in omega (arith, l) in
    let gives : AddsSteps b c (gives_down hold.row.row (length hold.items) (length won)) =
    subst (λ (m : ℕ). AddsSteps b c (gives_down hold.row.row (length hold.items) m)) count
    (subst (λ (r : ℕ). AddsSteps b c (gives_down r (length hold.items) (length mid.items - length hold.items))) (ap (λ (h : HoldView). h.row.row) is) gave) in
    let row : held.row ≡ hold.row = sym (ap (λ (h : HoldView). h.row) gone_is) ∙ ap (λ (h : HoldView). h.row) is in
    let items : held.items ≡ hold.items =
    (same_parts held.items gone hold.items won (sym (ap (λ (h : HoldView). h.items) gone_is) ∙ ap (λ (h : HoldView). h.items) is) many).0 in (
      (did.0 ++ gives_down hold.row.row (length hold.items) (length won), (won, did.0, did.1, refl), shape_then a b c did.0 (gives_down hold.row.row (length hold.items) (length won)) did.2 gives),
      (let e : held ≡ hold = (λ i. record { row = row i; items = items i }) in e),
    )

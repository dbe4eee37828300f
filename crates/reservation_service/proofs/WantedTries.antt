-- Places with wanted traits, tried one by one.
use Rattle.std.proofs.Common.{◌≡◌, ◌≢◌, ◌∙◌, Bool, true, false, ℕ, ◌+◌, ◌<◌, cond, List, [], ◌∷◌, ◌++◌, length, map, take, drop, get_or, filter, Option, Some, None, IfSome, IfNone, refl, sym, ap, subst, arith, append-nil, length-append, take-append-drop}
use mathlib.Core.List.{map-append}
use Rattle.std.specs.List.{AllByRecursion}
use Rattle.std.proofs.lemmas.List.{take_more}
use Rattle.std.proofs.lemmas.List.Elements.{filter-append}
use Rattle.rail_ids.specs.declared.PlaceNo.{PlaceNo}
use Rattle.leg_masks.specs.Interval.{Interval}
use Rattle.claim_rule.specs.Rule.{DeskView}
use Rattle.claim_rule.specs.Desks.{AddsSteps}
use Rattle.claim_rule.specs.Holds.{HoldView}
use Rattle.hold_core.specs.declared.tries.Outcome.{Outcome}
use Rattle.hold_core.specs.declared.tries.Outcome.TheVariants.{Won, Refused, Contended}
use Rattle.hold_core.specs.declared.adds.Added.{Added}
use Rattle.hold_core.specs.declared.adds.Added.TheVariants as added
use Rattle.hold_core.specs.Tries.{Try, IsTry, try_steps, items_tried, with_items, place_number, TriesPlace}
use Rattle.hold_core.specs.Places.{items_won, place_won, places_won, tries_steps, tried, EndsWith, IsAdding, AddsPlaces}
use Rattle.hold_core.proofs.Adding.{TriedSettled, TriedLast, tried_last, still_settled}

-- ---- one candidate alone

abbrev pub outcome_of : Added → Outcome
outcome_of added.All = Won
outcome_of (added.NoPlace won) = Refused
outcome_of (added.Contended place) = Contended

-- the only one of its kind
abbrev pub IsOnly : List Try → ℕ → Outcome → Type 0
IsOnly tries place outcome = (t : Try) × (tries ≡ t ∷ []) × (t.place ≡ place) × (t.outcome ≡ outcome)

last_of_one : (t last : Try) (before : List Try) → t ∷ [] ≡ before ++ last ∷ [] → t ≡ last
last_of_one t last [] e = ap (λ (l : List Try). get_or l 0 t) e
last_of_one t last (x ∷ before) e =
    let l = ap length e in
    let m = length-append before (last ∷ []) in
    absurd (omega (arith, l, m))

ends_one : (t : Try) (outcome : Outcome) → EndsWith (t ∷ []) outcome → t.outcome ≡ outcome
ends_one t outcome ends = ap (λ (x : Try). x.outcome) (last_of_one t ends.last ends.before ends.are) ∙ ends.ends

none_ends : (outcome : Outcome) → EndsWith [] outcome → ⊥
none_ends outcome ends =
    let l = ap length ends.are in
    let m = length-append ends.before (ends.last ∷ []) in
    omega (arith, l, m)

-- won, refused and contended: which it is
refused_one : (p : ℕ) (o : Outcome) → o ≢ Contended → length (place_won p o ++ []) < 1 → o ≡ Refused
refused_one p Won ne few = absurd (omega (arith, few))
refused_one p Refused ne few = refl
refused_one p Contended ne few = absurd (ne refl)

first_place : (p q : ℕ) (more : List ℕ) → p ∷ [] ≡ q ∷ more → q ≡ p
first_place p q more e = sym (ap (λ (l : List ℕ). get_or l 0 0) e)

no_second : (p : ℕ) (t u : Try) (ts : List Try) (more : List ℕ) → p ∷ [] ≡ tried (t ∷ u ∷ ts) ++ more → ⊥
no_second p t u ts more e = let l = ap length e in omega (arith, l)

only_one : (p : ℕ) (tries : List Try) (span : Interval) (answer : Added) → IsAdding span 1 (p ∷ []) tries answer → IsOnly tries p (outcome_of answer)
only_one p [] span added.All is = absurd (none_ends Won is.0)
only_one p [] span (added.NoPlace won) is = absurd (let l = ap length is.3 in omega (arith, l))
only_one p [] span (added.Contended place) is = absurd (none_ends Contended is.0.0)
only_one p (t ∷ []) span added.All is = (t, refl, first_place p t.place is.2.0 is.2.1, ends_one t Won is.0)
only_one p (t ∷ []) span (added.NoPlace won) is =
    (t, refl, first_place p t.place [] is.3, refused_one t.place t.outcome is.0.0 (subst (λ (n : ℕ). n < 1) (sym is.1) is.2))
only_one p (t ∷ []) span (added.Contended place) is = (t, refl, first_place p t.place is.2.0 is.2.1, ends_one t Contended is.0.0)
only_one p (t ∷ u ∷ ts) span added.All is = absurd (no_second p t u ts is.2.0 is.2.1)
only_one p (t ∷ u ∷ ts) span (added.NoPlace won) is = absurd (no_second p t u ts [] (is.3 ∙ sym (append-nil (tried (t ∷ u ∷ ts)))))
only_one p (t ∷ u ∷ ts) span (added.Contended place) is = absurd (no_second p t u ts is.2.0 is.2.1)

-- so it was tried
pub tried_alone : (old new : DeskView) (hold held : HoldView) (span : Interval) (p : ℕ) (answer : Added)
    → AddsPlaces old hold span 1 (p ∷ []) answer new held → TriesPlace old hold p span new held (outcome_of answer)
tried_alone old new hold held span p answer (won, (es, adds, shape), has) =
    let only = only_one p adds.tries span answer adds.adding in
    let t : Try = only.0 in
    let o : Outcome = outcome_of answer in
    let same : t ≡ record { place = p; parts = t.parts; outcome = o } =
    (λ i. record { place = only.2 i; parts = t.parts; outcome = only.3 i }) in
    let each : IsTry span t = (subst (AllByRecursion (IsTry span)) only.1 adds.each).0 in
    let steps : es ≡ try_steps hold.row.row (length hold.items) t =
    adds.steps ∙ (ap (tries_steps hold.row.row (length hold.items) span) only.1 ∙ append-nil (try_steps hold.row.row (length hold.items) t)) in
    let items : won ≡ items_tried t.place span t.outcome =
    adds.items ∙ (ap (items_won span) only.1 ∙ append-nil (items_tried t.place span t.outcome)) in
    subst (λ (x : Try). TriesPlace old hold x.place span new held x.outcome) same
    (t.parts, each, subst (AddsSteps old new) steps shape, has ∙ ap (with_items hold) items)

-- ---- those of a list that pass

module _ (passes : PlaceNo → Bool) where
  abbrev pub passing : List PlaceNo → List ℕ
  passing ns = map place_number (filter passes ns)

  passing_append : (a b : List PlaceNo) → passing (a ++ b) ≡ passing a ++ passing b
  passing_append a b = ap (map place_number) (filter-append passes a b) ∙ map-append place_number (filter passes a) (filter passes b)

  one_passes : (n : PlaceNo) → passes n ≡ true → passing (n ∷ []) ≡ n.0 ∷ []
  one_passes n is = ap (λ (t : Bool). map place_number (cond t (n ∷ []) [])) is

  one_fails : (n : PlaceNo) → passes n ≡ false → passing (n ∷ []) ≡ []
  one_fails n not = ap (λ (t : Bool). map place_number (cond t (n ∷ []) [])) not

  pub passing_next : (ns : List PlaceNo) (i : ℕ) (d : PlaceNo) → i < length ns → passes (get_or ns i d) ≡ true
      → passing (take (i + 1) ns) ≡ passing (take i ns) ++ (get_or ns i d).0 ∷ []
  passing_next ns i d small is =
      ap passing (take_more ns i d small) ∙ (passing_append (take i ns) (get_or ns i d ∷ [])
      ∙ ap (λ (l : List ℕ). passing (take i ns) ++ l) (one_passes (get_or ns i d) is))

  pub passing_same : (ns : List PlaceNo) (i : ℕ) (d : PlaceNo) → i < length ns → passes (get_or ns i d) ≡ false
      → passing (take (i + 1) ns) ≡ passing (take i ns)
  passing_same ns i d small not =
      ap passing (take_more ns i d small) ∙ (passing_append (take i ns) (get_or ns i d ∷ [])
      ∙ (ap (λ (l : List ℕ). passing (take i ns) ++ l) (one_fails (get_or ns i d) not) ∙ append-nil (passing (take i ns))))

  pub passing_left : (ns : List PlaceNo) (n : ℕ) → passing ns ≡ passing (take n ns) ++ passing (drop n ns)
  passing_left ns n = ap passing (sym (take-append-drop n ns)) ∙ passing_append (take n ns) (drop n ns)

  -- where one passes: those before it, it, and those behind it
  pub passing_at : (ns : List PlaceNo) (i : ℕ) (d : PlaceNo) → i < length ns → passes (get_or ns i d) ≡ true
      → passing ns ≡ (passing (take i ns) ++ (get_or ns i d).0 ∷ []) ++ passing (drop (i + 1) ns)
  passing_at ns i d small is =
      passing_left ns (i + 1) ∙ ap (λ (x : List ℕ). x ++ passing (drop (i + 1) ns)) (passing_next ns i d small is)

  -- the tries of the first places, and of one more
  pub wanted_next : (a b c : DeskView) (hold mid held : HoldView) (span : Interval) (ns : List PlaceNo) (i : ℕ) (d : PlaceNo) (won : ℕ) (o : Outcome)
      → i < length ns → TriedSettled a b hold mid span (passing (take i ns)) won → o ≢ Contended → passes (get_or ns i d) ≡ true
      → TriesPlace b mid (get_or ns i d).0 span c held o
      → TriedSettled a c hold held span (passing (take (i + 1) ns)) (won + length (place_won (get_or ns i d).0 o))
  wanted_next a b c hold mid held span ns i d won o small so ne is did =
      subst (λ (l : List ℕ). TriedSettled a c hold held span l (won + length (place_won (get_or ns i d).0 o))) (sym (passing_next ns i d small is))
      (still_settled a c hold held span (passing (take i ns)) (get_or ns i d).0 won o
      (tried_last a b c hold mid held span (passing (take i ns)) (get_or ns i d).0 won o so did) ne)

  pub wanted_same : (a b c : DeskView) (hold mid held : HoldView) (span : Interval) (ns : List PlaceNo) (i : ℕ) (d : PlaceNo) (won : ℕ)
      → i < length ns → TriedSettled a b hold mid span (passing (take i ns)) won → passes (get_or ns i d) ≡ false → c ≡ b → held ≡ mid
      → TriedSettled a c hold held span (passing (take (i + 1) ns)) won
  wanted_same a b c hold mid held span ns i d won small so not e f =
      subst (λ (l : List ℕ). TriedSettled a c hold held span l won) (sym (passing_same ns i d small not))
      (subst (λ (h : HoldView). TriedSettled a c hold h span (passing (take i ns)) won) (sym f)
      (subst (λ (x : DeskView). TriedSettled a x hold mid span (passing (take i ns)) won) (sym e) so))

-- what is so of the outcome, where there is one, and where there is none
pub tried_so : (r : Option Outcome) (o : Outcome) (P : Outcome → Type 0) → IfSome r P → r ≡ Some o → P o
tried_so r o P h e = subst (λ (x : Option Outcome). IfSome x P) e h

pub let_be_so : (r : Option Outcome) (Q : Type 0) → IfNone r Q → r ≡ None → Q
let_be_so r Q h e = subst (λ (x : Option Outcome). IfNone x Q) e h

-- ---- what is answered

pub wanted_won : (a b : DeskView) (hold held : HoldView) (span : Interval) (count : ℕ) (places cs more : List ℕ) (place won : ℕ)
    → TriedLast a b hold held span places place won Won → won + 1 ≡ count → cs ≡ (places ++ place ∷ []) ++ more
    → AddsPlaces a hold span count cs added.All b held
wanted_won a b hold held span count places cs more place won l many e = (
  items_won span l.tried.tries,
  (
    tries_steps hold.row.row (length hold.items) span l.tried.tries,
    record {
      tries = l.tried.tries;
      each = l.tried.each;
      adding = (
        record { before = l.before; last = l.last; are = l.are; settled = l.settled; ends = l.ends },
        l.many ∙ many,
        (more, e ∙ ap (λ (x : List ℕ). x ++ more) l.tried.are),
      );
      items = refl;
      steps = refl;
    },
    l.tried.seen,
  ),
  l.tried.held,
)

pub wanted_contended : (a b : DeskView) (hold held : HoldView) (span : Interval) (count : ℕ) (places cs more : List ℕ) (place : PlaceNo) (won : ℕ)
    → TriedLast a b hold held span places place.0 won Contended → won < count → cs ≡ (places ++ place.0 ∷ []) ++ more
    → AddsPlaces a hold span count cs (added.Contended place) b held
wanted_contended a b hold held span count places cs more place won l few e = (
  items_won span l.tried.tries,
  (
    tries_steps hold.row.row (length hold.items) span l.tried.tries,
    record {
      tries = l.tried.tries;
      each = l.tried.each;
      adding = (
        (record { before = l.before; last = l.last; are = l.are; settled = l.settled; ends = l.ends }, l.at),
        let m : length (places_won l.tried.tries) ≡ won + 0 = l.many in omega (arith, m, few),
        (more, e ∙ ap (λ (x : List ℕ). x ++ more) l.tried.are),
      );
      items = refl;
      steps = refl;
    },
    l.tried.seen,
  ),
  l.tried.held,
)

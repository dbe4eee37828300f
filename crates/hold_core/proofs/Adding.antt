-- The tries of a call, one after the other.
use Rattle.std.proofs.Common.{◌≡◌, ◌≢◌, ℕ, zero, suc, ◌+◌, ◌-◌, ◌*◌, ◌<◌, ◌≤◌, List, [], ◌∷◌, ◌++◌, length, map, take, drop, get_or, refl, sym, ap, ◌∙◌, subst, arith, append_assoc, inl, inr, ⊎_elim, one-mul, append-nil, length-append, add-zero, add-one, take-append-drop}
use mathlib.Core.List.{map-append}
use Rattle.std.proofs.Math.Nat.{add-mul, suc-mul, zero-mul, mul-le-mul_right}
use Rattle.std.proofs.Math.Seq.{take-suc}
use Rattle.std.specs.List.{AllByRecursion, flat_map}
use Rattle.std.proofs.lemmas.List.{length-map}
use Rattle.leg_masks.specs.Interval.{Interval, IsPiece, items_at, pieces, PlacedSpan as Item}
use Rattle.leg_masks.proofs.HalfLegs.{pieces-whole, pieces_some}
use Rattle.history_model.specs.declared.entry.Step.{Step}
use Rattle.history_model.specs.History.{IsLegal}
use Rattle.claim_rule.specs.Rule.{DeskView}
use Rattle.claim_rule.specs.Desks.{AddsSteps, AddsAtMost}
use Rattle.claim_rule.specs.Holds.{HoldView}
use Rattle.claim_rule.proofs.Shapes.{shape_then, shape_none, adds_length}
use Rattle.hold_core.specs.declared.tries.Outcome.{Outcome}
use Rattle.hold_core.specs.declared.tries.Outcome.TheVariants.{Won, Refused, Contended}
use Rattle.hold_core.specs.declared.adds.Added.{Added}
use Rattle.hold_core.specs.declared.adds.Added.TheVariants as added
use Rattle.rail_ids.specs.declared.PlaceNo.{PlaceNo}
use Rattle.hold_core.specs.Tries.{Part, Try, AreParts, IsPart, IsTry, IsOutcome, looks_at, part_steps, parts_steps, undone, try_steps, won_steps, items_tried, with_items, place_number, TriesPlace}
use Rattle.hold_core.specs.Places.{won_by, items_won, place_won, places_won, tries_steps, tried, AllSettled, IsAdding, Adds}
use Rattle.hold_core.proofs.Trying.{all_more}

-- one try more

items_more : (span : Interval) (ts : List Try) (t : Try) → items_won span (ts ++ t ∷ []) ≡ items_won span ts ++ won_by span t
items_more span [] t = append-nil (won_by span t)
items_more span (x ∷ ts) t = ap (λ (is : List Item). won_by span x ++ is) (items_more span ts t) ∙ sym (append_assoc (won_by span x) (items_won span ts) (won_by span t))

tried_more : (ts : List Try) (t : Try) → tried (ts ++ t ∷ []) ≡ tried ts ++ t.place ∷ []
tried_more [] t = refl
tried_more (x ∷ ts) t = ap (λ (l : List ℕ). x.place ∷ l) (tried_more ts t)

won_more : (ts : List Try) (t : Try) → places_won (ts ++ t ∷ []) ≡ places_won ts ++ place_won t.place t.outcome
won_more [] t = append-nil (place_won t.place t.outcome)
won_more (x ∷ ts) t = ap (λ (l : List ℕ). place_won x.place x.outcome ++ l) (won_more ts t) ∙ sym (append_assoc (place_won x.place x.outcome) (places_won ts) (place_won t.place t.outcome))

regroup : (k : ℕ) (xs ys : List Item) → k + length xs + length ys ≡ k + length (xs ++ ys)
regroup k xs ys = let e = length-append xs ys in omega arith

steps_more : (row k : ℕ) (span : Interval) (ts : List Try) (t : Try) → tries_steps row k span (ts ++ t ∷ []) ≡ tries_steps row k span ts ++ try_steps row (k + length (items_won span ts)) t
steps_more row k span [] t = append-nil (try_steps row k t) ∙ ap (λ (n : ℕ). try_steps row n t) (sym (add-zero k))
steps_more row k span (x ∷ ts) t =
    ap (λ (l : List Step). try_steps row k x ++ l) (steps_more row (k + length (won_by span x)) span ts t ∙ ap (λ (n : ℕ). tries_steps row (k + length (won_by span x)) span ts ++ try_steps row n t) (regroup k (won_by span x) (items_won span ts)))
    ∙ sym (append_assoc (try_steps row k x) (tries_steps row (k + length (won_by span x)) span ts) (try_steps row (k + length (items_won span (x ∷ ts))) t))

-- the tries that a desk made for a hold, at these places
pub record Tried (start now : DeskView) (hold kept : HoldView) (span : Interval) (places : List ℕ) : Type 0 where
  pub tries : List Try
  pub each : AllByRecursion (IsTry span) tries
  pub are : places ≡ tried tries
  pub held : kept ≡ with_items hold (items_won span tries)
  pub seen : AddsSteps start now (tries_steps hold.row.row (length hold.items) span tries)

-- of which each was won or refused, and so many won
pub record TriedSettled (start now : DeskView) (hold held : HoldView) (span : Interval) (places : List ℕ) (won : ℕ) : Type 0 where
  pub tried : Tried start now hold held span places
  pub settled : AllSettled tried.tries
  pub many : length (places_won tried.tries) ≡ won

-- the tries but the last, and that one
pub record TriedLast (start now : DeskView) (hold held : HoldView) (span : Interval) (places : List ℕ) (place won : ℕ) (outcome : Outcome) : Type 0 where
  pub tried : Tried start now hold held span (places ++ place ∷ [])
  pub before : List Try
  pub last : Try
  pub are : tried.tries ≡ before ++ last ∷ []
  pub settled : AllSettled before
  pub ends : last.outcome ≡ outcome
  pub at : last.place ≡ place
  pub many : length (places_won tried.tries) ≡ won + length (place_won place outcome)

pub tried_none : (start : DeskView) (hold : HoldView) (span : Interval) → IsLegal start.layout start.seen → TriedSettled start start hold hold span [] 0
tried_none start hold span legal = record {
  tried = record { tries = []; each = tt; are = refl; held = ap (λ (is : List Item). record { row = hold.row; items = is }) (sym (append-nil hold.items)); seen = shape_none start legal };
  settled = tt;
  many = refl;
}

one_more : (hold : HoldView) (mid held : HoldView) (xs ys zs : List Item) → mid ≡ with_items hold xs → held ≡ with_items mid ys → zs ≡ xs ++ ys → held ≡ with_items hold zs
one_more hold mid held xs ys zs e f g =
    f ∙ (ap (λ (h : HoldView). with_items h ys) e ∙ ap (λ (is : List Item). record { row = hold.row; items = is }) (append_assoc hold.items xs ys ∙ ap (λ (is : List Item). hold.items ++ is) (sym g)))

-- the same hold, by its row and the number of its items
as_first : (hold mid : HoldView) (xs : List Item) (t : Try) (b c : DeskView) → mid ≡ with_items hold xs → AddsSteps b c (try_steps mid.row.row (length mid.items) t) → AddsSteps b c (try_steps hold.row.row (length hold.items + length xs) t)
as_first hold mid xs t b c e did =
    subst (λ (n : ℕ). AddsSteps b c (try_steps hold.row.row n t)) (length-append hold.items xs) (subst (λ (h : HoldView). AddsSteps b c (try_steps h.row.row (length h.items) t)) e did)

pub tried_last : (a b c : DeskView) (hold mid held : HoldView) (span : Interval) (places : List ℕ) (place won : ℕ) (outcome : Outcome) → TriedSettled a b hold mid span places won → TriesPlace b mid place span c held outcome → TriedLast a c hold held span places place won outcome
tried_last a b c hold mid held span places place won outcome so did =
    let t : Try = record { place = place; parts = did.0; outcome = outcome } in
    let ts = so.tried.tries in
    record {
      tried = record {
        tries = ts ++ t ∷ [];
        each = all_more (IsTry span) ts t so.tried.each did.1;
        are = ap (λ (l : List ℕ). l ++ place ∷ []) so.tried.are ∙ sym (tried_more ts t);
        held = one_more hold mid held (items_won span ts) (won_by span t) (items_won span (ts ++ t ∷ [])) so.tried.held did.3 (items_more span ts t);
        seen = subst (AddsSteps a c) (sym (steps_more hold.row.row (length hold.items) span ts t)) (shape_then a b c _ _ so.tried.seen (as_first hold mid (items_won span ts) t b c so.tried.held did.2));
      };
      before = ts;
      last = t;
      are = refl;
      settled = so.settled;
      ends = refl;
      at = refl;
      many = ap length (won_more ts t) ∙ (length-append (places_won ts) (place_won place outcome) ∙ ap (λ (n : ℕ). n + length (place_won place outcome)) so.many);
    }

pub still_settled : (a b : DeskView) (hold held : HoldView) (span : Interval) (places : List ℕ) (place won : ℕ) (outcome : Outcome) → TriedLast a b hold held span places place won outcome → outcome ≢ Contended → TriedSettled a b hold held span (places ++ place ∷ []) (won + length (place_won place outcome))
still_settled a b hold held span places place won outcome so ne = record {
  tried = so.tried;
  settled = subst AllSettled (sym so.are) (all_more (λ (t : Try). t.outcome ≢ Contended) so.before so.last so.settled (λ e. ne (sym so.ends ∙ e)));
  many = so.many;
}

-- what the call answers

abbrev pub AddsSo : DeskView → DeskView → HoldView → HoldView → Interval → ℕ → List ℕ → Added → Type 0
AddsSo old new hold held span count candidates answer =
    (won : List Item) × ((es : List Step) × Adds hold.row.row (length hold.items) span count candidates answer won es × AddsSteps old new es) × (held ≡ with_items hold won)

answers : (a b : DeskView) (hold held : HoldView) (span : Interval) (count : ℕ) (places candidates : List ℕ) (answer : Added) → (so : Tried a b hold held span places) → IsAdding span count candidates so.tries answer → AddsSo a b hold held span count candidates answer
answers a b hold held span count places candidates answer so is =
    (items_won span so.tries, (tries_steps hold.row.row (length hold.items) span so.tries, record { tries = so.tries; each = so.each; adding = is; items = refl; steps = refl }, so.seen), so.held)

length_kept : (a b : DeskView) (hold held : HoldView) (span : Interval) (places : List ℕ) → (so : Tried a b hold held span places) → length held.items ≡ length hold.items + length (items_won span so.tries)
length_kept a b hold held span places so = ap (λ (h : HoldView). length h.items) so.held ∙ length-append hold.items (items_won span so.tries)

-- the candidates up to one, and those behind it

places_more : (cs : List PlaceNo) (i : ℕ) (d : PlaceNo) → i < length cs → map place_number (take (i + 1) cs) ≡ map place_number (take i cs) ++ (get_or cs i d).0 ∷ []
places_more cs i d l = ap (λ (n : ℕ). map place_number (take n cs)) (add-one i) ∙ (ap (map place_number) (take-suc cs i d l) ∙ map-append place_number (take i cs) (get_or cs i d ∷ []))

places_left : (cs : List PlaceNo) (n : ℕ) → map place_number cs ≡ map place_number (take n cs) ++ map place_number (drop n cs)
places_left cs n = ap (map place_number) (sym (take-append-drop n cs)) ∙ map-append place_number (take n cs) (drop n cs)

take_whole : (cs : List PlaceNo) (n : ℕ) → length cs ≤ n → take n cs ≡ cs
take_whole [] zero l = refl
take_whole [] (suc n) l = refl
take_whole (p ∷ cs) zero l = absurd (omega arith)
take_whole (p ∷ cs) (suc n) l = ap (λ (t : List PlaceNo). p ∷ t) (take_whole cs n (omega arith))

taken_length : (cs : List PlaceNo) (n : ℕ) → length (map place_number (take n cs)) ≤ length cs
taken_length [] zero = omega arith
taken_length [] (suc n) = omega arith
taken_length (p ∷ cs) zero = omega arith
taken_length (p ∷ cs) (suc n) = let l = taken_length cs n in omega arith

-- how many items the tries won: those of each place

pub items_count : (span : Interval) (ts : List Try) → length (items_won span ts) ≡ length (places_won ts) * length (pieces span)
items_count span [] = sym (zero-mul (length (pieces span)))
items_count span (t ∷ ts) =
    let l = length-append (won_by span t) (items_won span ts) in
    let m = length-append (place_won t.place t.outcome) (places_won ts) in
    l ∙ ((λ i. one t.place t.outcome i + items_count span ts i) ∙ (sym (add-mul (length (place_won t.place t.outcome)) (length (places_won ts)) (length (pieces span))) ∙ ap (λ (n : ℕ). n * length (pieces span)) (sym m)))
  where
    one : (p : ℕ) (o : Outcome) → length (items_tried p span o) ≡ length (place_won p o) * length (pieces span)
    one p Won = length-map (pieces span) (λ (q : Interval). record { place = p; span = q }) ∙ sym (one-mul (length (pieces span)))
    one p Refused = sym (zero-mul (length (pieces span)))
    one p Contended = sym (zero-mul (length (pieces span)))

-- and which: what one who has the span at a place has there, for each place won
pub items_by_place : (span : Interval) (ts : List Try) → items_won span ts ≡ flat_map (items_at span) (places_won ts)
items_by_place span [] = refl
items_by_place span (t ∷ ts) = one t.place t.outcome (items_won span ts) (places_won ts) (items_by_place span ts)
  where
    one : (p : ℕ) (o : Outcome) (rest : List Item) (places : List ℕ) → rest ≡ flat_map (items_at span) places → items_tried p span o ++ rest ≡ flat_map (items_at span) (place_won p o ++ places)
    one p Won rest places e = ap (λ (is : List Item). items_at span p ++ is) e
    one p Refused rest places e = e
    one p Contended rest places e = e

-- how many items the hold has
pub held_count : (a b : DeskView) (hold held : HoldView) (span : Interval) (places : List ℕ) (won : ℕ) → (so : TriedSettled a b hold held span places won) → length held.items ≡ length hold.items + won * length (pieces span)
held_count a b hold held span places won so =
    length_kept a b hold held span places so.tried ∙ ap (λ (n : ℕ). length hold.items + n) (items_count span so.tried.tries ∙ ap (λ (n : ℕ). n * length (pieces span)) so.many)

-- so the hold has room for one place more
pub has_room : (a b : DeskView) (hold held : HoldView) (span : Interval) (places : List ℕ) (won count : ℕ) → TriedSettled a b hold held span places won → won < count → length hold.items + count * length (pieces span) ≤ 48 → length held.items + length (pieces span) ≤ 48
has_room a b hold held span places won count so few room =
    let n : ℕ = length (pieces span) in
    let l : length held.items ≡ length hold.items + won * n = held_count a b hold held span places won so in
    let more : won * n + n ≡ suc won * n = sym (suc-mul won n) in
    let most : suc won * n ≤ count * n = mul-le-mul_right n few in
    within (length held.items) (length hold.items) (won * n) n (count * n) l (subst (λ (x : ℕ). x ≤ count * n) (sym more) most) room
  where
    within : (h b w n c : ℕ) → h ≡ b + w → w + n ≤ c → b + c ≤ 48 → h + n ≤ 48
    within h b w n c e l m = omega arith

-- what the call answers, after the try of one candidate

pub at_contended : (a b c : DeskView) (hold mid kept : HoldView) (span : Interval) (count i won : ℕ) (cs : List PlaceNo) (d : PlaceNo) → i < length cs → TriedSettled a b hold mid span (map place_number (take i cs)) won → won < count → TriesPlace b mid (get_or cs i d).0 span c kept Contended → AddsSo a c hold kept span count (map place_number cs) (added.Contended (get_or cs i d))
at_contended a b c hold mid kept span count i won cs d inside so few did =
    let p = get_or cs i d in
    let places = map place_number (take i cs) in
    let l = tried_last a b c hold mid kept span places p.0 won Contended so did in
    answers a c hold kept span count (places ++ p.0 ∷ []) (map place_number cs) (added.Contended p) l.tried (
      (record { before = l.before; last = l.last; are = l.are; settled = l.settled; ends = l.ends }, l.at),
      subst (λ (n : ℕ). n < count) (sym l.many) (subst (λ (n : ℕ). n < count) (sym (add-zero won)) few),
      (map place_number (drop (i + 1) cs), places_left cs (i + 1) ∙ ap (λ (x : List ℕ). x ++ map place_number (drop (i + 1) cs)) (places_more cs i d inside ∙ l.tried.are)),
    )

pub won_last : (a b c : DeskView) (hold mid kept : HoldView) (span : Interval) (count i won : ℕ) (cs : List PlaceNo) (d : PlaceNo) → i < length cs → TriedSettled a b hold mid span (map place_number (take i cs)) won → won + 1 ≡ count → TriesPlace b mid (get_or cs i d).0 span c kept Won → AddsSo a c hold kept span count (map place_number cs) added.All
won_last a b c hold mid kept span count i won cs d inside so many did =
    let p = get_or cs i d in
    let places = map place_number (take i cs) in
    let l = tried_last a b c hold mid kept span places p.0 won Won so did in
    answers a c hold kept span count (places ++ p.0 ∷ []) (map place_number cs) added.All l.tried (
      record { before = l.before; last = l.last; are = l.are; settled = l.settled; ends = l.ends },
      l.many ∙ many,
      (map place_number (drop (i + 1) cs), places_left cs (i + 1) ∙ ap (λ (x : List ℕ). x ++ map place_number (drop (i + 1) cs)) (places_more cs i d inside ∙ l.tried.are)),
    )

next : (a b c : DeskView) (hold mid kept : HoldView) (span : Interval) (i won : ℕ) (cs : List PlaceNo) (d : PlaceNo) (o : Outcome) → i < length cs → TriedSettled a b hold mid span (map place_number (take i cs)) won → o ≢ Contended → TriesPlace b mid (get_or cs i d).0 span c kept o
    → TriedSettled a c hold kept span (map place_number (take (i + 1) cs)) (won + length (place_won (get_or cs i d).0 o))
next a b c hold mid kept span i won cs d o inside so ne did =
    let p = get_or cs i d in
    let places = map place_number (take i cs) in
    subst (λ (l : List ℕ). TriedSettled a c hold kept span l (won + length (place_won p.0 o))) (sym (places_more cs i d inside)) (still_settled a c hold kept span places p.0 won o (tried_last a b c hold mid kept span places p.0 won o so did) ne)

pub won_next : (a b c : DeskView) (hold mid kept : HoldView) (span : Interval) (i won : ℕ) (cs : List PlaceNo) (d : PlaceNo) → i < length cs → TriedSettled a b hold mid span (map place_number (take i cs)) won → TriesPlace b mid (get_or cs i d).0 span c kept Won → TriedSettled a c hold kept span (map place_number (take (i + 1) cs)) (won + 1)
won_next a b c hold mid kept span i won cs d inside so did = next a b c hold mid kept span i won cs d Won inside so (λ e. cc) did

pub refused_next : (a b c : DeskView) (hold mid kept : HoldView) (span : Interval) (i won : ℕ) (cs : List PlaceNo) (d : PlaceNo) → i < length cs → TriedSettled a b hold mid span (map place_number (take i cs)) won → TriesPlace b mid (get_or cs i d).0 span c kept Refused → TriedSettled a c hold kept span (map place_number (take (i + 1) cs)) won
refused_next a b c hold mid kept span i won cs d inside so did = subst (TriedSettled a c hold kept span (map place_number (take (i + 1) cs))) (add-zero won) (next a b c hold mid kept span i won cs d Refused inside so (λ e. cc) did)

pub at_end : (a b : DeskView) (hold kept : HoldView) (span : Interval) (count won n : ℕ) (cs : List PlaceNo) → length cs ≤ n → TriedSettled a b hold kept span (map place_number (take n cs)) won → won < count → AddsSo a b hold kept span count (map place_number cs) (added.NoPlace won)
at_end a b hold kept span count won n cs whole so few =
    answers a b hold kept span count (map place_number (take n cs)) (map place_number cs) (added.NoPlace won) so.tried (
      so.settled,
      so.many,
      few,
      ap (map place_number) (sym (take_whole cs n whole)) ∙ so.tried.are,
    )

-- how many entries there are

map_length : (place : ℕ) (piece : Interval) (shown : List ℕ) → length (looks_at place piece shown) ≡ length shown
map_length place piece [] = refl
map_length place piece (w ∷ ws) = ap suc (map_length place piece ws)

-- a part that is won has ten entries at most, another nine
won_length : (row k p : ℕ) (piece : Interval) (s : List ℕ) → IsOutcome piece s Won → length (looks_at p piece s ++ won_steps row k p piece Won) ≤ 10
won_length row k p piece s is =
    let l = length-append (looks_at p piece s) (won_steps row k p piece Won) in
    let m = map_length p piece s in
    let o = is.0 in omega arith

other_length : (row k p : ℕ) (piece : Interval) (s : List ℕ) (o : Outcome) → o ≢ Won → IsOutcome piece s o → length (looks_at p piece s ++ won_steps row k p piece o) ≤ 9
other_length row k p piece s Won ne is = absurd (ne refl)
other_length row k p piece s Refused ne is =
    let l = length-append (looks_at p piece s) [] in
    let m = map_length p piece s in
    let o = is.0 in omega arith
other_length row k p piece s Contended ne is =
    let l = length-append (looks_at p piece s) [] in
    let m = map_length p piece s in
    let o = is.0 in omega arith

part_won : (row k p : ℕ) (t : Part) → t.outcome ≡ Won → IsPart t → length (part_steps row k p t) ≤ 10
part_won row k p t won is = subst (λ (o : Outcome). length (looks_at p t.piece t.shown ++ won_steps row k p t.piece o) ≤ 10) (sym won) (won_length row k p t.piece t.shown (subst (IsOutcome t.piece t.shown) won is.outcome))

part_other : (row k p : ℕ) (t : Part) → t.outcome ≢ Won → IsPart t → length (part_steps row k p t) ≤ 9
part_other row k p t ne is = other_length row k p t.piece t.shown t.outcome ne is.outcome

none_steps : (row k p : ℕ) (ts : List Part) → ts ≡ [] → length (parts_steps row k p ts) ≡ 0
none_steps row k p ts none = ap (λ (l : List Part). length (parts_steps row k p l)) none

-- the parts have ten entries each at most, and one less where the last isn't won
parts_length : (row k p : ℕ) (ps : List Interval) (ts : List Part) (o : Outcome) → AreParts ps ts o → length (parts_steps row k p ts) + (1 - length (place_won p o)) ≤ 10 * length ps
parts_length row k p [] [] o are = subst (λ (q : Outcome). 0 + (1 - length (place_won p q)) ≤ 0) (sym are) (omega arith)
parts_length row k p [] (t ∷ ts) o are = absurd are
parts_length row k p (q ∷ qs) [] o are = absurd are
parts_length row k p (q ∷ qs) (t ∷ ts) o (same, is, go) =
    let l = length-append (part_steps row k p t) (parts_steps row (k + 1) p ts) in
    ⊎_elim
    (λ w. let m = part_won row k p t w.0 is in let r = parts_length row (k + 1) p qs ts o w.1 in omega (arith, l, m, r))
    (λ n. let m = part_other row k p t n.0 is in let r = none_steps row (k + 1) p ts n.1 in omega (arith, l, m, r))
    go

undone_length : (row k p : ℕ) (o : Outcome) (ts : List Part) → length (undone row k o ts) ≤ 1 - length (place_won p o)
undone_length row k p Won ts = omega arith
undone_length row k p Refused [] = omega arith
undone_length row k p Refused (t ∷ []) = omega arith
undone_length row k p Refused (t ∷ u ∷ ts) = omega arith
undone_length row k p Contended [] = omega arith
undone_length row k p Contended (t ∷ []) = omega arith
undone_length row k p Contended (t ∷ u ∷ ts) = omega arith

try_length : (row k : ℕ) (span : Interval) (t : Try) → IsTry span t → length (try_steps row k t) ≤ 20
try_length row k span t is =
    let l = length-append (parts_steps row k t.place t.parts) (undone row k t.outcome t.parts) in
    let m = parts_length row k t.place (pieces span) t.parts t.outcome is in
    let u = undone_length row k t.place t.outcome t.parts in
    let s = pieces_some span in omega (arith, l, m, u, s.1)

pub tries_length : (row k : ℕ) (span : Interval) (ts : List Try) → AllByRecursion (IsTry span) ts → length (tries_steps row k span ts) ≤ 20 * length ts
tries_length row k span [] all = omega arith
tries_length row k span (t ∷ ts) all =
    let l = length-append (try_steps row k t) (tries_steps row (k + length (won_by span t)) span ts) in
    let o = try_length row k span t all.0 in
    let p = tries_length row (k + length (won_by span t)) span ts all.1 in omega (arith, l, o, p)

-- where the span lies in one half

one_length : (row k p : ℕ) (x : Interval) (ts : List Part) (o : Outcome) → AreParts (x ∷ []) ts o → length (parts_steps row k p ts ++ undone row k o ts) ≤ 9 + length (place_won p o)
one_length row k p x [] o are = absurd are
one_length row k p x (t ∷ u ∷ ts) o (same, is, inl w) = absurd w.1
one_length row k p x (t ∷ u ∷ ts) o (same, is, inr n) = absurd (let no : u ∷ ts ≡ [] = n.1 in cc)
one_length row k p x (t ∷ []) o (same, is, inl w) =
    let m = part_won row k p t w.0 is in
    let l = length-append (part_steps row k p t) [] in
    subst (λ (q : Outcome). length ((part_steps row k p t ++ []) ++ undone row k q (t ∷ [])) ≤ 9 + length (place_won p q)) (sym w.1)
    (let n = length-append (part_steps row k p t ++ []) [] in omega (arith, l, m, n))
one_length row k p x (t ∷ []) o (same, is, inr n) =
    let m = part_other row k p t n.0 is in
    let l = length-append (part_steps row k p t) [] in
    let a = length-append (part_steps row k p t ++ []) (undone row k o (t ∷ [])) in
    let u = none_back row k o t in omega (arith, l, m, a, u)
  where
    none_back : (row k : ℕ) (o : Outcome) (t : Part) → length (undone row k o (t ∷ [])) ≡ 0
    none_back row k Won t = refl
    none_back row k Refused t = refl
    none_back row k Contended t = refl

half_length : (row k : ℕ) (span : Interval) (ts : List Try) → IsPiece span → AllByRecursion (IsTry span) ts → length (tries_steps row k span ts) ≤ 9 * length ts + length (places_won ts)
half_length row k span [] piece all = omega arith
half_length row k span (t ∷ ts) piece all =
    let l = length-append (try_steps row k t) (tries_steps row (k + length (won_by span t)) span ts) in
    let m = length-append (place_won t.place t.outcome) (places_won ts) in
    let o = one_length row k t.place span t.parts t.outcome (subst (λ (ps : List Interval). AreParts ps t.parts t.outcome) (pieces-whole span piece) all.0) in
    let p = half_length row (k + length (won_by span t)) span ts piece all.1 in omega (arith, l, m, o, p)

tried_many : (a b : DeskView) (hold kept : HoldView) (span : Interval) (places : List ℕ) → (so : Tried a b hold kept span places) → length places ≡ length so.tries
tried_many a b hold kept span places so = ap length so.are ∙ length-map so.tries (λ (t : Try). t.place)

tried_bound : (a b : DeskView) (hold kept : HoldView) (span : Interval) (places : List ℕ) (n : ℕ) → (so : Tried a b hold kept span places) → length places ≤ n → AddsAtMost (20 * n) a b
tried_bound a b hold kept span places n so few =
    let l = tries_length hold.row.row (length hold.items) span so.tries so.each in
    let k = tried_many a b hold kept span places so in
    adds_length a b (tries_steps hold.row.row (length hold.items) span so.tries) (20 * n) so.seen (omega (arith, l, k, few))

half_bound : (a b : DeskView) (hold kept : HoldView) (span : Interval) (places : List ℕ) (n : ℕ) → IsPiece span → (so : Tried a b hold kept span places) → length places ≤ n → AddsAtMost (9 * n + (length kept.items - length hold.items)) a b
half_bound a b hold kept span places n piece so few =
    let l = half_length hold.row.row (length hold.items) span so.tries piece so.each in
    let m = length_kept a b hold kept span places so in
    let c : length (items_won span so.tries) ≡ length (places_won so.tries) * 1 = items_count span so.tries ∙ ap (λ (k : ℕ). length (places_won so.tries) * k) (ap length (pieces-whole span piece)) in
    let k = tried_many a b hold kept span places so in
    adds_length a b (tries_steps hold.row.row (length hold.items) span so.tries) (9 * n + (length kept.items - length hold.items)) so.seen (omega (arith, l, m, c, k, few))

pub bound_settled : (a b : DeskView) (hold kept : HoldView) (span : Interval) (n won : ℕ) (cs : List PlaceNo) → TriedSettled a b hold kept span (map place_number (take n cs)) won → AddsAtMost (20 * length cs) a b
bound_settled a b hold kept span n won cs so = tried_bound a b hold kept span (map place_number (take n cs)) (length cs) so.tried (taken_length cs n)

pub half_settled : (a b : DeskView) (hold kept : HoldView) (span : Interval) (n won : ℕ) (cs : List PlaceNo) → TriedSettled a b hold kept span (map place_number (take n cs)) won → IsPiece span → AddsAtMost (9 * length cs + (length kept.items - length hold.items)) a b
half_settled a b hold kept span n won cs so piece = half_bound a b hold kept span (map place_number (take n cs)) (length cs) piece so.tried (taken_length cs n)

pub bound_last : (a b c : DeskView) (hold mid kept : HoldView) (span : Interval) (i won : ℕ) (cs : List PlaceNo) (d : PlaceNo) (o : Outcome) → i < length cs → TriedSettled a b hold mid span (map place_number (take i cs)) won → TriesPlace b mid (get_or cs i d).0 span c kept o → AddsAtMost (20 * length cs) a c
bound_last a b c hold mid kept span i won cs d o inside so did =
    let p = get_or cs i d in
    let places = map place_number (take i cs) in
    tried_bound a c hold kept span (places ++ p.0 ∷ []) (length cs) (tried_last a b c hold mid kept span places p.0 won o so did).tried
    (subst (λ (x : List ℕ). length x ≤ length cs) (places_more cs i d inside) (taken_length cs (i + 1)))

pub half_last : (a b c : DeskView) (hold mid kept : HoldView) (span : Interval) (i won : ℕ) (cs : List PlaceNo) (d : PlaceNo) (o : Outcome) → i < length cs → TriedSettled a b hold mid span (map place_number (take i cs)) won → TriesPlace b mid (get_or cs i d).0 span c kept o → IsPiece span → AddsAtMost (9 * length cs + (length kept.items - length hold.items)) a c
half_last a b c hold mid kept span i won cs d o inside so did piece =
    let p = get_or cs i d in
    let places = map place_number (take i cs) in
    half_bound a c hold kept span (places ++ p.0 ∷ []) (length cs) piece (tried_last a b c hold mid kept span places p.0 won o so did).tried
    (subst (λ (x : List ℕ). length x ≤ length cs) (places_more cs i d inside) (taken_length cs (i + 1)))

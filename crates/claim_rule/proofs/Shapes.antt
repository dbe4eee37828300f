-- Calls as lists of a desk's own steps.
use Rattle.std.proofs.Common.{true, ◌≡◌, ℕ, ◌≤◌, cond, Bool, List, [], ◌∷◌, ◌++◌, map, refl, sym, ap, ◌∙◌, subst, append_assoc, append-nil, eq-eqb, ◌<◌, Some, Option, ◌+◌, length, length-append, arith}
use Rattle.std.proofs.lemmas.List.{length-map}
use mathlib.Core.List.{map-append, append_cancel_left}
use Rattle.rail_ids.specs.declared.RowNo.{RowNo}
use Rattle.claim_rule.specs.Rule.{DeskView, In, Each}
use Rattle.claim_rule.specs.Holds.{HoldView, StandsFor, IsItem}
use Rattle.claim_rule.specs.Desks.{Stepped, AddsSteps, AddsAtMost}
use Rattle.history_model.proofs.Owners.{firm_making, quiet_stays}
use Rattle.history_model.proofs.Seen.{legal-rest, own-append, state_of-append}
use Rattle.history_model.specs.Booking.{Booking, Layout, State, present}
use Rattle.history_model.specs.History.{IsLegal, IsLegalFrom, entry, own, state_after, state_of}
use Rattle.history_model.specs.Laws.{is_owners}
use Rattle.history_model.specs.Quiet.{AllQuiet}
use Rattle.history_model.specs.declared.entry.Entry.{Entry}
use Rattle.history_model.specs.declared.entry.Step.{Step}

pub step_shape : (st : Step) (old new : DeskView) → Stepped st old new → AddsSteps old new (st ∷ [])
step_shape st old new did =
    let d = old.number in
    let e : List Entry = entry d st ∷ [] in
    record {
      front = (did.between ++ e, sym (append_assoc old.seen did.between e) ∙ sym did.seen);
      legal = did.legal;
      mine = ap (λ (l : List Entry). own l d) did.seen ∙ (own-append (old.seen ++ did.between) e d ∙ (ap (λ l. l ++ own e d) (own-append old.seen did.between d ∙ (ap (λ l. own old.seen d ++ l) did.others ∙ append-nil (own old.seen d)))
          ∙ ap (λ (c : Bool). own old.seen d ++ cond c e []) (eq-eqb d d refl)));
      whole = λ w. did.seen ∙ ap (λ l. l ++ e) (ap (λ l. old.seen ++ l) (did.none w) ∙ append-nil old.seen);
      same = (did.same.0, did.same.1, did.same.2, did.same.3, did.same.4);
      further = same_past old.past new.past did.same.6;
    }
  where
    same_past : (m n : ℕ) → n ≡ m → m ≤ n
    same_past m n e = omega arith

pub shape_then : (a b c : DeskView) (xs ys : List Step) → AddsSteps a b xs → AddsSteps b c ys → AddsSteps a c (xs ++ ys)
shape_then a b c xs ys p q =
    let d = a.number in
    let n = p.same.2 in
    let more : map (entry d) xs ++ map (entry d) ys ≡ map (entry d) (xs ++ ys) = sym (map-append (entry d) xs ys) in
    let here = subst (λ (k : ℕ). own c.seen k ≡ own b.seen k ++ map (entry k) ys) n q.mine in
    record {
      front = (p.front.0 ++ q.front.0, sym (append_assoc a.seen p.front.0 q.front.0) ∙ (ap (λ l. l ++ q.front.0) p.front.1 ∙ q.front.1));
      legal = q.legal;
      mine = here ∙ (ap (λ l. l ++ map (entry d) ys) p.mine ∙ (append_assoc (own a.seen d) (map (entry d) xs) (map (entry d) ys) ∙ ap (λ l. own a.seen d ++ l) more));
      whole = λ w. q.whole (ap (λ k. k) n ∙ w.0, λ j lo hi. subst (λ (ks : List ℕ). In j ks) (sym p.same.3) (w.1 j lo (subst (λ (k : ℕ). j ≤ k) p.same.4 hi)))
          ∙ (ap (λ (k : ℕ). b.seen ++ map (entry k) ys) n ∙ (ap (λ l. l ++ map (entry d) ys) (p.whole w) ∙ (append_assoc a.seen (map (entry d) xs) (map (entry d) ys) ∙ ap (λ l. a.seen ++ l) more)));
      same = (q.same.0 ∙ p.same.0, q.same.1 ∙ p.same.1, q.same.2 ∙ p.same.2, q.same.3 ∙ p.same.3, q.same.4 ∙ p.same.4);
      further = further_on a.past b.past c.past p.further q.further;
    }
  where
    further_on : (k m n : ℕ) → k ≤ m → m ≤ n → k ≤ n
    further_on k m n l r = omega arith

-- what a desk has seen since, from the state before
pub shape_rest : (old new : DeskView) (es : List Step) (did : AddsSteps old new es) → IsLegalFrom old.layout (state_of old.layout old.seen) did.front.0 × (own did.front.0 old.number ≡ map (entry old.number) es) × (state_of new.layout new.seen ≡ state_after (state_of old.layout old.seen) did.front.0)
shape_rest old new es did =
    let d = old.number in
    let rest = did.front.0 in
    let e = did.front.1 in
    let whole : IsLegal old.layout (old.seen ++ rest) = subst (λ (l : Layout). IsLegal l (old.seen ++ rest)) did.same.1 (subst (IsLegal new.layout) (sym e) did.legal) in (
      legal-rest old.layout old.seen rest whole,
      append_cancel_left (own old.seen d) (own rest d) (map (entry d) es) (sym (own-append old.seen rest d) ∙ (ap (λ (l : List Entry). own l d) e ∙ did.mine)),
      ap (λ (l : Layout). state_of l new.seen) did.same.1 ∙ (ap (state_of old.layout) (sym e) ∙ state_of-append old.layout old.seen rest),
    )

-- a row of the desk's own in the making or ending stays as it is through calls that leave it alone
pub own_through : (old new : DeskView) (es : List Step) (r : ℕ) (b : Booking) → AddsSteps old new es → AllQuiet r es → present (state_of old.layout old.seen) r ≡ Some b → b.owner ≡ old.number → is_owners b.phase ≡ true → present (state_of new.layout new.seen) r ≡ Some b
own_through old new es r b did quiet at mine firm =
    let x = shape_rest old new es did in
    ap (λ (s : State). present s r) x.2
    ∙ quiet_stays old.layout (state_of old.layout old.seen) r b did.front.0 es at firm (subst (λ (k : ℕ). own did.front.0 k ≡ map (entry k) es) (sym mine) x.1) quiet x.0

-- a hold stays the desk's through calls that leave its row alone
pub stands_through : (old new : DeskView) (es : List Step) (hold : HoldView) → AddsSteps old new es → AllQuiet hold.row.row es → StandsFor old hold → StandsFor new hold
stands_through old new es hold did quiet is = record {
  booking = is.booking;
  found = own_through old new es hold.row.row is.booking did quiet is.found is.owner (firm_making is.booking.phase is.making);
  generation = is.generation;
  owner = is.owner ∙ sym did.same.2;
  making = is.making;
  items = is.items;
  row = subst (λ (l : Layout). hold.row.row < l.rows) (sym did.same.1) is.row;
  within = subst (λ (l : Layout). Each (IsItem l) hold.items) (sym did.same.1) is.within;
}

pub shape_none : (a : DeskView) → IsLegal a.layout a.seen → AddsSteps a a []
shape_none a legal = record {
  front = ([], append-nil a.seen);
  legal = legal;
  mine = sym (append-nil (own a.seen a.number));
  whole = λ _. sym (append-nil a.seen);
  same = (refl, refl, refl, refl, refl);
  further = omega arith;
}

-- which rows a desk remembers or keeps is nothing to its entries and its rows
pub shape_past : (old new : DeskView) (es : List Step) (n : ℕ) → old.past ≤ n → AddsSteps old new es → AddsSteps old (record new { past = n }) es
shape_past old new es n further s = record { front = s.front; legal = s.legal; mine = s.mine; whole = s.whole; same = s.same; further = further }

pub shape_kept : (old new : DeskView) (es : List Step) (o : Option RowNo) → AddsSteps old new es → AddsSteps old (record new { kept = o }) es
shape_kept old new es o s = record { front = s.front; legal = s.legal; mine = s.mine; whole = s.whole; same = s.same; further = s.further }

-- how many entries there are more
pub adds_length : (old new : DeskView) (es : List Step) (n : ℕ) → AddsSteps old new es → length es ≤ n → AddsAtMost n old new
adds_length old new es n did few =
    let d = old.number in
    let l : length (own new.seen d) ≡ length (own old.seen d) + length es = ap length did.mine ∙ (length-append (own old.seen d) (map (entry d) es) ∙ ap (λ (k : ℕ). length (own old.seen d) + k) (length-map es (entry d))) in
    omega (arith, few, l)

pub stands_past : (desk : DeskView) (hold : HoldView) (n : ℕ) → StandsFor desk hold → StandsFor (record desk { past = n }) hold
stands_past desk hold n is = record { booking = is.booking; found = is.found; generation = is.generation; owner = is.owner; making = is.making; items = is.items; row = is.row; within = is.within }

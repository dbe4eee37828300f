-- Telling what was seen, and learning it, keep the rule.
use Rattle.std.proofs.Common.{Option, ◌≡◌, ◌≢◌, ◌⊎◌, ℕ, zero, suc, ◌+◌, ◌<◌, ◌≤◌, Bool, true, false, true≢false, cond, leb, List, [], ◌∷◌, ◌++◌, length, set, refl, sym, ap, ◌∙◌, subst, ⊎_elim, inl, inr, arith, append-nil, append_assoc, leb-true}
use Rattle.std.proofs.lemmas.Bool.{cases_eq, cases_Bool, cases_lt}
use Rattle.std.proofs.lemmas.List.{append_cancel_right}
use mathlib.Core.Option.{some, some-injective}
use mathlib.Core.List.{IsPrefix, append_cancel_left}
use lib.ListN.{get_elem?}
use Rattle.atomic_table.specs.Table.{State as Table, Splits, Joins}
use Rattle.atomic_table.specs.declared.shared.Seat.{Seat}
use Rattle.atomic_table.proofs.Lists.{at_set, set_here, set_else, set_again, at_longer, at_snoc}
use Rattle.rail_ids.specs.declared.RowNo.{RowNo}
use Rattle.claim_rule.specs.declared.rule.View.{View}
use Rattle.claim_rule.specs.Rule.{Added, DeskView, In, IsSpent, HasAll, Fits, Kept, as_it_was, told_by, telling, longer, learning, nobody}
use Rattle.claim_rule.specs.Desks.{Stepped}
use Rattle.claim_rule.specs.Seats.{HasMade, desk_view}
use Rattle.claim_rule.proofs.Views.{each_map, each_in, spent_stays}
use Rattle.claim_rule.proofs.Adds.{in_range, no_entry, none_in}
use Rattle.claim_rule.proofs.Meeting.{each_both, each_self, fits_views, longer_is, prefix_line}
use Rattle.history_model.proofs.Seen.{own-append, own_between, own_none}
use Rattle.history_model.specs.Booking.{Layout}
use Rattle.history_model.specs.History.{IsLegal, entry, own}
use Rattle.history_model.specs.declared.entry.Entry.{Entry}
use Rattle.history_model.specs.declared.entry.Step.TheVariants.{Met}

-- telling

-- what any seat has seen begins the history
seen_so_far : (lay : Layout) (s : Table ℕ View) (k : Kept lay s) (id : ℕ) (v : View) → get_elem? s.views id ≡ some v → IsPrefix v.seen k.history
seen_so_far lay s k id v at = ⊎_elim (λ (t : v.spent ≡ true). k.told id v at t) (λ (t : v.spent ≡ false). (k.seats id v at t).front) (cases_Bool v.spent)

kept_told : (lay : Layout) (s : Table ℕ View) → Kept lay s → (seen : List Entry) → ((k : Kept lay s) → IsPrefix seen k.history) → Kept lay record { words = s.words; homes = s.homes; views = s.views ++ telling seen ∷ [] }
kept_told lay s k seen front =
    let views = s.views ++ telling seen ∷ [] in
    let f = k.first in
    let stay : (j : ℕ) → IsSpent k.desks s.views j → IsSpent k.desks views j = λ j q. (q.0, q.1, q.2, at_longer s.views (telling seen ∷ []) q.0 q.1 q.3, q.4) in
    record {
      history = k.history;
      desks = k.desks;
      legal = k.legal;
      words = k.words;
      seats = λ j u there alive. ⊎_elim
          (λ (old : get_elem? s.views j ≡ some u). fits_views k.history k.desks k.desks s.views views (λ i seat e. e) stay j u (k.seats j u old alive))
          (λ (e : telling seen ≡ u). absurd (true≢false (ap (λ (x : View). x.spent) e ∙ alive)))
          (at_snoc s.views (telling seen) u j there);
      told = λ j u there gone. ⊎_elim
          (λ (old : get_elem? s.views j ≡ some u). k.told j u old gone)
          (λ (e : telling seen ≡ u). subst (λ (y : View). IsPrefix y.seen k.history) e (front k))
          (at_snoc s.views (telling seen) u j there);
      later = k.later;
      first = (f.0, f.1, at_longer s.views (telling seen ∷ []) f.0 f.1 f.2, f.3, f.4, f.5);
    }

pub tells : (lay : Layout) (id : ℕ) (v : View) → Splits (Kept lay) id v (as_it_was v) (told_by v)
tells lay id v s k at = subst (λ (l : List View). Kept lay record { words = s.words; homes = s.homes; views = l ++ told_by v ∷ [] }) (sym (set_again s.views id v at)) (kept_told lay s k v.seen (λ k. seen_so_far lay s k id v at))

-- learning

spent_set : (desks : List ℕ) (views : List View) (id : ℕ) (w : View) → id < length views → w.spent ≡ true → (j : ℕ) → IsSpent desks views j → IsSpent desks (set views id w) j
spent_set desks views id w inside spent j (seat, u, its, there, was) = ⊎_elim
    (λ (e : seat ≡ id). (id, w, its ∙ ap some e, set_here views id w inside, spent))
    (λ (e : seat ≡ id → ⊥). (seat, u, its, set_else views id seat w e ∙ there, was))
    (cases_eq seat id)

fits_learned : (h : List Entry) (desks : List ℕ) (views views' : List View) (id : ℕ) (v w : View) → ((j : ℕ) → IsSpent desks views j → IsSpent desks views' j) → Fits h desks views id v → IsPrefix w.seen h → Fits h desks views' id (learning v w)
fits_learned h desks views views' id v w stay f g =
    let now : List Entry = longer v.seen w.seen in
    let l = longer_is v.seen w.seen h f.front g in
    let here : (j : ℕ) → HasAll h v.seen j → HasAll h now j = λ j p. own_between j v.seen now h l.1 l.0 p in
    record {
      number = f.number;
      front = l.0;
      own_all = here v.number f.own_all;
      joined = each_map (λ j. IsSpent desks views j × HasAll h v.seen j) (λ j. IsSpent desks views' j × HasAll h now j) (λ j p. (stay j p.0, here j p.1)) v.joined f.joined;
      olds = (
        record {
          front = f.front;
          whole = (
            (f.own_all, inl refl),
            each_both (HasAll h v.seen) (λ j. (j ≡ v.number) ⊎ In j v.joined) v.joined
                (each_map (λ j. IsSpent desks views j × HasAll h v.seen j) (HasAll h v.seen) (λ j p. p.1) v.joined f.joined) (each_self (λ j. (j ≡ v.number) ⊎ In j v.joined) v.joined (λ j i. inr i)),
          );
        },
        (record { front = g; whole = tt }, tt),
      );
    }

pub learns : (lay : Layout) (id other : ℕ) (v w : View) → v.spent ≡ false → w.spent ≡ true → Joins (Kept lay) id v other w (learning v w) nobody
learns lay id other v w fresh spent s k at n there_set =
    let there : get_elem? s.views other ≡ some w = sym (set_else s.views id other (learning v w) n) ∙ there_set in
    let f = k.seats id v at fresh in
    let g = k.told other w there spent in
    let h = k.history in
    let one = set s.views id (learning v w) in
    let two = set one other nobody in
    let inside : other < length one = in_range one other w there_set in
    let stay : (j : ℕ) → IsSpent k.desks s.views j → IsSpent k.desks two j = λ j p. spent_set k.desks one other nobody inside refl j (spent_stays k.desks s.views id v (learning v w) at fresh j p) in
    let first = k.first in
    let not_first : first.0 ≡ other → ⊥ = λ e. true≢false (sym spent ∙ (sym (ap (λ (x : View). x.spent) (some-injective first.1 w (sym first.2 ∙ (ap (get_elem? s.views) e ∙ there)))) ∙ first.3)) in
    record {
      history = h;
      desks = k.desks;
      legal = k.legal;
      words = k.words;
      seats = λ j u at' alive. ⊎_elim
          (λ (t : (j ≡ other) × (nobody ≡ u)). absurd (true≢false (ap (λ (x : View). x.spent) t.1 ∙ alive)))
          (λ (t : (j ≢ other) × (get_elem? one j ≡ some u)). ⊎_elim
          (λ (r : (j ≡ id) × (learning v w ≡ u)). subst (λ (y : ℕ × View). Fits h k.desks two y.0 y.1) (λ i. (sym r.0 i, r.1 i)) (fits_learned h k.desks s.views two id v w stay f g))
          (λ (r : (j ≢ id) × (get_elem? s.views j ≡ some u)). fits_views h k.desks k.desks s.views two (λ i seat e. e) stay j u (k.seats j u r.1 alive))
          (at_set s.views id j (learning v w) u t.1))
          (at_set one other j nobody u at');
      told = λ j u at' gone. ⊎_elim
          (λ (t : (j ≡ other) × (nobody ≡ u)). subst (λ (y : View). IsPrefix y.seen h) t.1 (h, refl))
          (λ (t : (j ≢ other) × (get_elem? one j ≡ some u)). ⊎_elim
          (λ (r : (j ≡ id) × (learning v w ≡ u)). subst (λ (y : View). IsPrefix y.seen h) r.1 (longer_is v.seen w.seen h f.front g).0)
          (λ (r : (j ≢ id) × (get_elem? s.views j ≡ some u)). k.told j u r.1 gone)
          (at_set s.views id j (learning v w) u t.1))
          (at_set one other j nobody u at');
      later = k.later;
      first = ⊎_elim
          (λ (its : first.0 ≡ id). let same : first.1 ≡ v = some-injective first.1 v (sym first.2 ∙ (ap (get_elem? s.views) its ∙ at)) in
          (id, learning v w, set_else one other id nobody (λ e. n (sym e)) ∙ set_here s.views id (learning v w) (in_range s.views id v at), fresh, sym (ap (λ (y : View). y.number) same) ∙ first.4, first.5 ∙ ap (λ (y : View). y.parted + 1) same))
          (λ (e : first.0 ≡ id → ⊥). (first.0, first.1, set_else one other first.0 nobody not_first ∙ (set_else s.views id first.0 (learning v w) e ∙ first.2), first.3, first.4, first.5))
          (cases_eq first.0 id);
    }

-- what was told, to contracts

longer_least : (a b : List Entry) → length a ≤ length (longer a b)
longer_least a b = ⊎_elim
    (λ (t : leb (length a) (length b) ≡ true). subst (λ (c : Bool). length a ≤ length (cond c b a)) (sym t) (leb-true (length a) (length b) t))
    (λ (t : leb (length a) (length b) ≡ false). subst (λ (c : Bool). length a ≤ length (cond c b a)) (sym t) (omega arith))
    (cases_Bool (leb (length a) (length b)))

-- where a desk has no entry but the last more, it has none between
none_between : (j : ℕ) (old between now : List Entry) (e : Entry) → now ≡ (old ++ between) ++ e ∷ [] → own now j ≡ own old j ++ own (e ∷ []) j → own between j ≡ []
none_between j old between now e is has =
    let all : own (old ++ between) j ++ own (e ∷ []) j ≡ own old j ++ own (e ∷ []) j = sym (own-append (old ++ between) (e ∷ []) j) ∙ (ap (λ (l : List Entry). own l j) (sym is) ∙ has) in
    append_cancel_left (own old j) (own between j) [] (sym (own-append old between j) ∙ append_cancel_right (own (old ++ between) j) (own old j) (own (e ∷ []) j) all ∙ sym (append-nil (own old j)))

le_or : (j m : ℕ) → (j ≤ m) ⊎ (m < j)
le_or j m = ⊎_elim inr inl (cases_lt m j)

one_or_more : (j : ℕ) → (j ≡ 0 → ⊥) → 1 ≤ j
one_or_more zero n = absurd (n refl)
one_or_more (suc j) n = omega arith

learned_at : (lay : Layout) (a b : Seat ℕ View) (w : View) (kept : Option RowNo) (past : ℕ) → a.me.0.plan ≡ lay → b.table_id ≡ a.table_id → Added lay Met (learning a.me.0 w) b.me.0 → Stepped Met (desk_view a kept past) (desk_view b kept past) × IsPrefix w.seen b.me.0.seen
learned_at lay a b w kept past plan table m =
    let s = m.same in
    let v = a.me.0 in
    let e = entry v.number Met in
    let now : List Entry = b.me.0.seen in
    let most : List Entry = longer v.seen w.seen in
    let mine = m.olds.0 in
    let seen_all : IsPrefix most now = (m.between ++ e ∷ [], sym (append_assoc most m.between (e ∷ [])) ∙ sym m.seen) in
    let more = prefix_line v.seen most now mine.0 seen_all (longer_least v.seen w.seen) in
    let between : List Entry = more.0 ++ m.between in
    let seen : now ≡ (v.seen ++ between) ++ e ∷ [] = m.seen ∙ ap (λ (l : List Entry). l ++ e ∷ []) (ap (λ (l : List Entry). l ++ m.between) (sym more.1) ∙ append_assoc v.seen more.0 m.between) in (
      record {
        between = between;
        seen = seen;
        others = none_between v.number v.seen between now e seen mine.1.0;
        none = λ whole. no_entry between (λ j. ⊎_elim
            (λ (its : j ≡ v.number). none_between j v.seen between now e seen (subst (λ (i : ℕ). own now i ≡ own v.seen i ++ own (e ∷ []) i) (sym its) mine.1.0))
            (λ (other : j ≡ v.number → ⊥). ⊎_elim
            (λ (made : j ≤ v.parted). none_between j v.seen between now e seen (each_in (λ j. own now j ≡ own v.seen j ++ own (e ∷ []) j) v.joined j mine.1.1 (whole.1 j (one_or_more j (λ z. other (z ∙ sym whole.0))) made)))
            (λ (past : v.parted < j). none_in j v.seen between (v.seen ++ between) refl (none_front j (v.seen ++ between) e now seen (m.later whole.0 j past)))
            (le_or j v.parted))
            (cases_eq j v.number));
        legal = subst (λ (l : Layout). IsLegal l now) (sym (s.0 ∙ plan)) m.legal;
        same = (table, s.0, s.2, s.3, s.4, refl, refl);
      },
      m.olds.1.0.0,
    )
  where
    none_front : (j : ℕ) (front : List Entry) (e : Entry) (h : List Entry) → h ≡ front ++ e ∷ [] → own h j ≡ [] → own front j ≡ []
    none_front j front e h is none = own_none j front h (e ∷ [], sym is) none

pub learned : (lay : Layout) (a c b : Seat ℕ View) (w : View) (kept : Option RowNo) (past : ℕ) (old : DeskView) → desk_view a kept past ≡ old → a.me.0.plan ≡ lay → c.table_id ≡ a.table_id → c.me ≡ (learning a.me.0 w, a.me.1) → HasMade lay Met c b → Stepped Met old (desk_view b kept past) × IsPrefix w.seen b.me.0.seen
learned lay a c b w kept past old is plan table me made =
    subst (λ (d : DeskView). Stepped Met d (desk_view b kept past) × IsPrefix w.seen b.me.0.seen) is
    (learned_at lay a b w kept past plan (made.0 ∙ table) (subst (λ (v : View). Added lay Met v b.me.0) (ap (λ (m : View × List (ℕ × ℕ)). m.0) me) made.3))

-- Parting and joining keep the rule.
use Rattle.std.proofs.Common.{◌≡◌, ◌≢◌, ◌⊎◌, ℕ, zero, suc, ◌+◌, ◌<◌, ◌≤◌, Bool, true, false, true≢false, cond, leb, List, [], ◌∷◌, ◌++◌, length, set, refl, sym, ap, ◌∙◌, subst, ⊎_elim, inl, inr, arith, append-nil, length-set, length-append, leb-true}
use Rattle.std.proofs.lemmas.Bool.{cases_eq, cases_Bool, leb-false}
use mathlib.Core.Option.{some, some-injective, some-ne-none}
use mathlib.Core.List.{IsPrefix}
use lib.ListN.{get_elem?}
use Rattle.atomic_table.specs.Table.{Splits, Joins}
use Rattle.atomic_table.proofs.Lists.{at_set, set_here, set_else, at_longer, at_last}
use Rattle.claim_rule.specs.declared.rule.View.{View}
use Rattle.claim_rule.specs.Rule.{Each, In, IsSpent, HasAll, IsOld, Fits, Kept, parting, newly_parted, longer, joining, nobody}
use Rattle.claim_rule.proofs.Views.{each_map, spent_stays}
use Rattle.claim_rule.proofs.Adds.{in_range, counts}
use Rattle.history_model.proofs.Seen.{own_between, own_none}
use Rattle.history_model.specs.Booking.{Layout}
use Rattle.history_model.specs.History.{own}
use Rattle.history_model.specs.declared.entry.Entry.{Entry}

-- what is so of a view stays so where spent seats stay spent
pub fits_views : (h : List Entry) (desks desks' : List ℕ) (views views' : List View) → ((j seat : ℕ) → get_elem? desks j ≡ some seat → get_elem? desks' j ≡ some seat) → ((j : ℕ) → IsSpent desks views j → IsSpent desks' views' j)
    → (k : ℕ) (u : View) → Fits h desks views k u → Fits h desks' views' k u
fits_views h desks desks' views views' sits stay k u f = record {
  number = sits u.number k f.number;
  front = f.front;
  own_all = f.own_all;
  joined = each_map (λ j. IsSpent desks views j × HasAll h u.seen j) (λ j. IsSpent desks' views' j × HasAll h u.seen j) (λ j p. (stay j p.0, p.1)) u.joined f.joined;
  olds = f.olds;
}

snoc_at : (l : List View) (a b : View) (j : ℕ) → get_elem? (l ++ a ∷ []) j ≡ some b → (get_elem? l j ≡ some b) ⊎ ((j ≡ length l) × (a ≡ b))
snoc_at [] a b zero e = inr (refl, some-injective a b e)
snoc_at [] a b (suc j) e = absurd (some-ne-none b (sym e))
snoc_at (x ∷ xs) a b zero e = inl e
snoc_at (x ∷ xs) a b (suc j) e = ⊎_elim inl (λ t. inr (ap suc t.0, t.1)) (snoc_at xs a b j e)

pub splits : (lay : Layout) (id : ℕ) (v : View) → v.spent ≡ false → v.number ≡ 0 → Splits (Kept lay) id v (parting v) (newly_parted v)
splits lay id v fresh zero_is s k at =
    let f = k.seats id v at fresh in
    let h = k.history in
    let views = set s.views id (parting v) in
    let desks = k.desks ++ length views ∷ [] in
    let many = counts lay s k id v at fresh zero_is in
    let sits : (j seat : ℕ) → get_elem? k.desks j ≡ some seat → get_elem? desks j ≡ some seat = λ j seat e. at_longer k.desks (length views ∷ []) j seat e in
    let stay : (j : ℕ) → IsSpent k.desks s.views j → IsSpent desks (views ++ newly_parted v ∷ []) j = λ j p.
    let q = spent_stays k.desks s.views id v (parting v) at fresh j p in (q.0, q.1, sits j q.0 q.2, at_longer views (newly_parted v ∷ []) q.0 q.1 q.3, q.4) in
    let none : own h (v.parted + 1) ≡ [] = k.later (v.parted + 1) (omega arith) in
    record {
      history = h;
      desks = desks;
      legal = k.legal;
      words = k.words;
      seats = λ j u there alive. ⊎_elim
          (λ (old : get_elem? views j ≡ some u). ⊎_elim
          (λ (t : (j ≡ id) × (parting v ≡ u)). subst (λ (y : ℕ × View). Fits h desks (views ++ newly_parted v ∷ []) y.0 y.1) (λ i. (sym t.0 i, t.1 i)) (as_parting h desks (views ++ newly_parted v ∷ []) id v (fits_views h k.desks desks s.views (views ++ newly_parted v ∷ []) sits stay id v f)))
          (λ (t : (j ≢ id) × (get_elem? s.views j ≡ some u)). fits_views h k.desks desks s.views (views ++ newly_parted v ∷ []) sits stay j u (k.seats j u t.1 alive))
          (at_set s.views id j (parting v) u old))
          (λ (t : (j ≡ length views) × (newly_parted v ≡ u)). subst (λ (y : ℕ × View). Fits h desks (views ++ newly_parted v ∷ []) y.0 y.1) (λ i. (sym t.0 i, t.1 i)) record {
            number = at_last k.desks (length views) (v.parted + 1) many;
            front = f.front;
            own_all = own_none (v.parted + 1) v.seen h f.front none ∙ sym none;
            joined = tt;
            olds = tt;
          })
          (snoc_at views (newly_parted v) u j there);
      told = λ j u there gone. ⊎_elim
          (λ (old : get_elem? views j ≡ some u). ⊎_elim
          (λ (t : (j ≡ id) × (parting v ≡ u)). subst (λ (y : View). IsPrefix y.seen h) t.1 f.front)
          (λ (t : (j ≢ id) × (get_elem? s.views j ≡ some u)). k.told j u t.1 gone)
          (at_set s.views id j (parting v) u old))
          (λ (t : (j ≡ length views) × (newly_parted v ≡ u)). subst (λ (y : View). IsPrefix y.seen h) t.1 f.front)
          (snoc_at views (newly_parted v) u j there);
      later = λ j past. let total : length desks ≡ length k.desks + 1 = length-append k.desks (length views ∷ []) in k.later j (omega arith);
      first = (
        id,
        parting v,
        at_longer views (newly_parted v ∷ []) id (parting v) (set_here s.views id (parting v) (in_range s.views id v at)),
        fresh,
        zero_is,
        length-append k.desks (length views ∷ []) ∙ ap (λ (n : ℕ). n + 1) many,
      );
    }
  where
    as_parting : (h : List Entry) (desks : List ℕ) (views : List View) (id : ℕ) (v : View) → Fits h desks views id v → Fits h desks views id (parting v)
    as_parting h desks views id v f = record { number = f.number; front = f.front; own_all = f.own_all; joined = f.joined; olds = each_map (IsOld h v) (IsOld h (parting v)) (λ o p. record { front = p.front; whole = p.whole }) v.olds f.olds }

pub each_append : {A : Type 0} (P : A → Type 0) (xs ys : List A) → Each P xs → Each P ys → Each P (xs ++ ys)
each_append P [] ys p q = q
each_append P (x ∷ xs) ys p q = (p.0, each_append P xs ys p.1 q)

pub each_front : {A : Type 0} (P : A → Type 0) (xs ys : List A) → Each P (xs ++ ys) → Each P xs × Each P ys
each_front P [] ys p = (tt, p)
each_front P (x ∷ xs) ys p = let r = each_front P xs ys p.1 in ((p.0, r.0), r.1)

-- of two beginnings the shorter begins the longer
pub prefix_line : (a b h : List Entry) → IsPrefix a h → IsPrefix b h → length a ≤ length b → IsPrefix a b
prefix_line [] b h p q l = (b, refl)
prefix_line (x ∷ a) [] h p q l = absurd (omega arith)
prefix_line (x ∷ a) (y ∷ b) [] (r, e) q l = absurd (cons_nil e)
  where
    cons_nil : {z : Entry} {zs : List Entry} → z ∷ zs ≡ [] → ⊥
    cons_nil e = cc
prefix_line (x ∷ a) (y ∷ b) (z ∷ h) (r, e) (t, f) l =
    let p = prefix_line a b h (r, tail_same e) (t, tail_same f) (omega arith) in
    (p.0, λ i. (head_same e ∙ sym (head_same f)) i ∷ p.1 i)
  where
    head_or : Entry → List Entry → Entry
    head_or d [] = d
    head_or d (u ∷ us) = u

    tail_of : List Entry → List Entry
    tail_of [] = []
    tail_of (u ∷ us) = us

    head_same : {u v : Entry} {us vs : List Entry} → u ∷ us ≡ v ∷ vs → u ≡ v
    head_same {u} e = ap (head_or u) e

    tail_same : {u v : Entry} {us vs : List Entry} → u ∷ us ≡ v ∷ vs → us ≡ vs
    tail_same e = ap tail_of e

-- the longer of two beginnings is one, and both begin it
pub longer_is : (a b h : List Entry) → IsPrefix a h → IsPrefix b h → IsPrefix (longer a b) h × IsPrefix a (longer a b) × IsPrefix b (longer a b)
longer_is a b h p q = ⊎_elim
    (λ (t : leb (length a) (length b) ≡ true). subst (λ (c : Bool). IsPrefix (cond c b a) h × IsPrefix a (cond c b a) × IsPrefix b (cond c b a)) (sym t) (q, prefix_line a b h p q (leb-true (length a) (length b) t), ([], append-nil b)))
    (λ (t : leb (length a) (length b) ≡ false). subst (λ (c : Bool). IsPrefix (cond c b a) h × IsPrefix a (cond c b a) × IsPrefix b (cond c b a)) (sym t)
    (p, ([], append-nil a), let less = leb-false (length a) (length b) t in prefix_line b a h q p (omega arith)))
    (cases_Bool (leb (length a) (length b)))

in_here : (j : ℕ) (xs ys : List ℕ) → In j xs → In j (xs ++ ys)
in_here j [] ys i = absurd i
in_here j (x ∷ xs) ys i = ⊎_elim inl (λ m. inr (in_here j xs ys m)) i

in_there : (j : ℕ) (xs ys : List ℕ) → In j ys → In j (xs ++ ys)
in_there j [] ys i = i
in_there j (x ∷ xs) ys i = inr (in_there j xs ys i)

-- each member is a member
pub each_self : (P : ℕ → Type 0) (xs : List ℕ) → ((j : ℕ) → In j xs → P j) → Each P xs
each_self P [] f = tt
each_self P (x ∷ xs) f = (f x (inl refl), each_self P xs (λ j i. f j (inr i)))

pub each_both : (P Q : ℕ → Type 0) (xs : List ℕ) → Each P xs → Each Q xs → Each (λ j. P j × Q j) xs
each_both P Q [] p q = tt
each_both P Q (x ∷ xs) p q = ((p.0, q.0), each_both P Q xs p.1 q.1)

true_false : true ≡ false → ⊥
true_false e = true≢false e

-- the joined view, where the other is spent
fits_joined : (h : List Entry) (desks : List ℕ) (views views' : List View) (id other : ℕ) (v w : View) → ((j : ℕ) → IsSpent desks views j → IsSpent desks views' j) → IsSpent desks views' w.number → Fits h desks views id v → Fits h desks views other w
    → Fits h desks views' id (joining v w)
fits_joined h desks views views' id other v w stay gone f g =
    let l = longer_is v.seen w.seen h f.front g.front in
    let both : List ℕ = v.joined ++ w.number ∷ w.joined in
    let here : (j : ℕ) → HasAll h v.seen j → HasAll h (longer v.seen w.seen) j = λ j p. own_between j v.seen (longer v.seen w.seen) h l.1 l.0 p in
    let there : (j : ℕ) → HasAll h w.seen j → HasAll h (longer v.seen w.seen) j = λ j p. own_between j w.seen (longer v.seen w.seen) h l.2 l.0 p in
    let its : HasAll h w.seen w.number = g.own_all in
    let mine : HasAll h v.seen v.number = f.own_all in
    record {
      number = f.number;
      front = l.0;
      own_all = here v.number f.own_all;
      joined = each_append (λ j. IsSpent desks views' j × HasAll h (longer v.seen w.seen) j) v.joined (w.number ∷ w.joined)
          (each_map (λ j. IsSpent desks views j × HasAll h v.seen j) (λ j. IsSpent desks views' j × HasAll h (longer v.seen w.seen) j) (λ j p. (stay j p.0, here j p.1)) v.joined f.joined) (
            (gone, there w.number its),
            each_map (λ j. IsSpent desks views j × HasAll h w.seen j) (λ j. IsSpent desks views' j × HasAll h (longer v.seen w.seen) j) (λ j p. (stay j p.0, there j p.1)) w.joined g.joined,
          );
      olds = (
        record {
          front = f.front;
          whole = (
            (mine, inl refl),
            each_both (HasAll h v.seen) (λ j. (j ≡ v.number) ⊎ In j both) v.joined
                (each_map (λ j. IsSpent desks views j × HasAll h v.seen j) (HasAll h v.seen) (λ j p. p.1) v.joined f.joined) (each_self (λ j. (j ≡ v.number) ⊎ In j both) v.joined (λ j i. inr (in_here j v.joined (w.number ∷ w.joined) i))),
          );
        },
        (
          record {
            front = g.front;
            whole = (
              (its, inr (in_there w.number v.joined (w.number ∷ w.joined) (inl refl))),
              each_both (HasAll h w.seen) (λ j. (j ≡ v.number) ⊎ In j both) w.joined
                  (each_map (λ j. IsSpent desks views j × HasAll h w.seen j) (HasAll h w.seen) (λ j p. p.1) w.joined g.joined) (each_self (λ j. (j ≡ v.number) ⊎ In j both) w.joined (λ j i. inr (in_there j v.joined (w.number ∷ w.joined) (inr i)))),
            );
          },
          tt,
        ),
      );
    }

pub joins : (lay : Layout) (id other : ℕ) (v w : View) → v.spent ≡ false → w.spent ≡ false → (w.number ≡ 0 → ⊥) → Joins (Kept lay) id v other w (joining v w) nobody
joins lay id other v w fresh fresh' apart_zero s k at n there_set =
    let there : get_elem? s.views other ≡ some w = sym (set_else s.views id other (joining v w) n) ∙ there_set in
    let f = k.seats id v at fresh in
    let g = k.seats other w there fresh' in
    let h = k.history in
    let one = set s.views id (joining v w) in
    let two = set one other nobody in
    let inside : other < length one = subst (λ (m : ℕ). other < m) (sym (length-set s.views id (joining v w))) (in_range s.views other w there) in
    let gone : IsSpent k.desks two w.number = (other, nobody, g.number, set_here one other nobody inside, refl) in
    let stay : (j : ℕ) → IsSpent k.desks s.views j → IsSpent k.desks two j = λ j p.
    spent_stays k.desks one other w nobody there_set fresh' j (spent_stays k.desks s.views id v (joining v w) at fresh j p) in
    let first = k.first in
    let not_first : first.0 ≡ other → ⊥ = λ e. apart_zero (sym (ap (λ (x : View). x.number) (some-injective first.1 w (sym first.2 ∙ (ap (get_elem? s.views) e ∙ there)))) ∙ first.4) in
    record {
      history = h;
      desks = k.desks;
      legal = k.legal;
      words = k.words;
      seats = λ j u at' alive. ⊎_elim
          (λ (t : (j ≡ other) × (nobody ≡ u)). absurd (true_false (ap (λ (x : View). x.spent) t.1 ∙ alive)))
          (λ (t : (j ≢ other) × (get_elem? one j ≡ some u)). ⊎_elim
          (λ (r : (j ≡ id) × (joining v w ≡ u)). subst (λ (y : ℕ × View). Fits h k.desks two y.0 y.1) (λ i. (sym r.0 i, r.1 i)) (fits_joined h k.desks s.views two id other v w stay gone f g))
          (λ (r : (j ≢ id) × (get_elem? s.views j ≡ some u)). fits_views h k.desks k.desks s.views two (λ j seat e. e) stay j u (k.seats j u r.1 alive))
          (at_set s.views id j (joining v w) u t.1))
          (at_set one other j nobody u at');
      told = λ j u at' gone'. ⊎_elim
          (λ (t : (j ≡ other) × (nobody ≡ u)). subst (λ (y : View). IsPrefix y.seen h) t.1 (h, refl))
          (λ (t : (j ≢ other) × (get_elem? one j ≡ some u)). ⊎_elim
          (λ (r : (j ≡ id) × (joining v w ≡ u)). subst (λ (y : View). IsPrefix y.seen h) r.1 (longer_is v.seen w.seen h f.front g.front).0)
          (λ (r : (j ≢ id) × (get_elem? s.views j ≡ some u)). k.told j u r.1 gone')
          (at_set s.views id j (joining v w) u t.1))
          (at_set one other j nobody u at');
      later = k.later;
      first = ⊎_elim
          (λ (its : first.0 ≡ id). let same : first.1 ≡ v = some-injective first.1 v (sym first.2 ∙ (ap (get_elem? s.views) its ∙ at)) in
          (id, joining v w, set_else one other id nobody (λ e. n (sym e)) ∙ set_here s.views id (joining v w) (in_range s.views id v at), fresh, sym (ap (λ (y : View). y.number) same) ∙ first.4, first.5 ∙ ap (λ (y : View). y.parted + 1) same))
          (λ (e : first.0 ≡ id → ⊥). (first.0, first.1, set_else one other first.0 nobody not_first ∙ (set_else s.views id first.0 (joining v w) e ∙ first.2), first.3, first.4, first.5))
          (cases_eq first.0 id);
    }

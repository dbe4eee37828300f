-- What one more entry leaves of what is known of the views.
use Rattle.std.proofs.Common.{◌≡◌, ◌⊎◌, ℕ, Bool, true, false, true≢false, cond, List, [], ◌∷◌, ◌++◌, set, refl, sym, ap, ◌∙◌, subst, ⊎_elim, append-nil, append_assoc, ne_eqb}
use mathlib.Core.Option.{some, some-injective}
use mathlib.Core.List.{IsPrefix}
use lib.ListN.{get_elem?}
use Rattle.atomic_table.proofs.Lists.{set_else}
use Rattle.claim_rule.specs.declared.rule.View.{View}
use Rattle.claim_rule.specs.Rule.{Each, In, IsSpent, HasAll, IsOld, Fits}
use Rattle.history_model.proofs.Seen.{own-append}
use Rattle.history_model.specs.History.{entry, own}
use Rattle.history_model.specs.declared.entry.Entry.{Entry}
use Rattle.history_model.specs.declared.entry.Step.{Step}

pub each_map : {A : Type 0} (P Q : A → Type 0) → ((x : A) → P x → Q x) → (xs : List A) → Each P xs → Each Q xs
each_map P Q f [] p = tt
each_map P Q f (x ∷ xs) p = (f x p.0, each_map P Q f xs p.1)

pub each_in : (P : ℕ → Type 0) (ks : List ℕ) (j : ℕ) → Each P ks → In j ks → P j
each_in P [] j p i = absurd i
each_in P (k ∷ ks) j p i = ⊎_elim (λ (e : j ≡ k). subst P (sym e) p.0) (λ (m : In j ks). each_in P ks j p.1 m) i

pub prefix-more : (a h es : List Entry) → IsPrefix a h → IsPrefix a (h ++ es)
prefix-more a h es (r, e) = (r ++ es, sym (append_assoc a r es) ∙ ap (λ l. l ++ es) e)

pub own_other : (j d : ℕ) (st : Step) → (j ≡ d → ⊥) → own (entry d st ∷ []) j ≡ []
own_other j d st n = ap (λ (c : Bool). cond c (entry d st ∷ []) []) (ne_eqb d j (λ e. n (sym e)))

pub own_more : (j d : ℕ) (st : Step) (h : List Entry) → (j ≡ d → ⊥) → own (h ++ entry d st ∷ []) j ≡ own h j
own_more j d st h n = own-append h (entry d st ∷ []) j ∙ (ap (λ l. own h j ++ l) (own_other j d st n) ∙ append-nil (own h j))

pub has_more : (j d : ℕ) (st : Step) (h x : List Entry) → (j ≡ d → ⊥) → HasAll h x j → HasAll (h ++ entry d st ∷ []) x j
has_more j d st h x n e = e ∙ sym (own_more j d st h n)

unspent : true ≡ false → ⊥
unspent e = true≢false e

-- of one seat there is one view: none that is spent where one isn't
not_spent : (views : List View) (id : ℕ) (v : View) → get_elem? views id ≡ some v → v.spent ≡ false → (seat : ℕ) (u : View) → get_elem? views seat ≡ some u → u.spent ≡ true → seat ≡ id → ⊥
not_spent views id v at fresh seat u there spent e =
    let same : some u ≡ some v = sym there ∙ (ap (get_elem? views) e ∙ at) in
    unspent (sym spent ∙ (ap (λ (x : View). x.spent) (some-injective u v same) ∙ fresh))

-- a desk whose seat isn't spent is another one than a spent desk
pub apart : (desks : List ℕ) (views : List View) (id : ℕ) (v : View) → get_elem? desks v.number ≡ some id → get_elem? views id ≡ some v → v.spent ≡ false → (j : ℕ) → IsSpent desks views j → j ≡ v.number → ⊥
apart desks views id v sits at fresh j (seat, u, its, there, spent) e =
    not_spent views id v at fresh seat u there spent (some-injective seat id (sym its ∙ (ap (get_elem? desks) e ∙ sits)))

pub spent_stays : (desks : List ℕ) (views : List View) (id : ℕ) (v w : View) → get_elem? views id ≡ some v → v.spent ≡ false → (j : ℕ) → IsSpent desks views j → IsSpent desks (set views id w) j
spent_stays desks views id v w at fresh j (seat, u, its, there, spent) = (seat, u, its, set_else views id seat w (not_spent views id v at fresh seat u there spent) ∙ there, spent)

-- the view of another seat
pub fits_other : (h : List Entry) (desks : List ℕ) (views : List View) (d : ℕ) (st : Step) (v w : View) → get_elem? desks v.number ≡ some d → get_elem? views d ≡ some v → v.spent ≡ false → (k : ℕ) (u : View) → (k ≡ d → ⊥) → Fits h desks views k u
    → Fits (h ++ entry v.number st ∷ []) desks (set views d w) k u
fits_other h desks views d st v w sits at fresh k u n f =
    let other : u.number ≡ v.number → ⊥ = λ e. n (some-injective k d (sym f.number ∙ (ap (get_elem? desks) e ∙ sits))) in
    record {
      number = f.number;
      front = prefix-more u.seen h (entry v.number st ∷ []) f.front;
      own_all = has_more u.number v.number st h u.seen other f.own_all;
      joined = each_map (λ j. IsSpent desks views j × HasAll h u.seen j) (λ j. IsSpent desks (set views d w) j × HasAll (h ++ entry v.number st ∷ []) u.seen j)
          (λ j p. (spent_stays desks views d v w at fresh j p.0, has_more j v.number st h u.seen (apart desks views d v sits at fresh j p.0) p.1)) u.joined f.joined;
      olds = each_map (IsOld h u) (IsOld (h ++ entry v.number st ∷ []) u) (λ o p. record {
        front = prefix-more o.seen h (entry v.number st ∷ []) p.front;
        whole = each_map (λ j. HasAll h o.seen j × ((j ≡ u.number) ⊎ In j u.joined)) (λ j. HasAll (h ++ entry v.number st ∷ []) o.seen j × ((j ≡ u.number) ⊎ In j u.joined))
            (λ j q. (
              has_more j v.number st h o.seen
                  (⊎_elim (λ (e : j ≡ u.number). λ (m : j ≡ v.number). other (sym e ∙ m))
                  (λ (i : In j u.joined). apart desks views d v sits at fresh j (each_in (λ j. IsSpent desks views j × HasAll h u.seen j) u.joined j f.joined i).0) q.1) q.0,
              q.1,
            ))
            o.whole p.whole;
      }) u.olds f.olds;
    }

-- the view of the seat that made the step
abbrev pub moved : View → List Entry → View
moved v h = record { plan = v.plan; spent = v.spent; number = v.number; seen = h; joined = v.joined; parted = v.parted; olds = [] }

pub fits_own : (h now : List Entry) (desks : List ℕ) (views : List View) (d : ℕ) (v : View) → get_elem? views d ≡ some v → v.spent ≡ false → Fits h desks views d v → Fits now desks (set views d (moved v now)) d (moved v now)
fits_own h now desks views d v at fresh f = record {
  number = f.number;
  front = ([], append-nil now);
  own_all = refl;
  joined = each_map (λ j. IsSpent desks views j × HasAll h v.seen j) (λ j. IsSpent desks (set views d (moved v now)) j × HasAll now now j)
      (λ j p. (spent_stays desks views d v (moved v now) at fresh j p.0, refl)) v.joined f.joined;
  olds = tt;
}

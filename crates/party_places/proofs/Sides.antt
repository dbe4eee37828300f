-- Stretches that grow by one place.
use Rattle.std.proofs.Common.{◌≡◌, ◌⊎◌, inl, inr, ℕ, zero, suc, ◌+◌, ◌≤◌, Bool, true, false, List, [], ◌∷◌, ◌++◌, length, refl, sym, ap, ◌∙◌, subst, arith, append_assoc, append-nil, length-append}
use Rattle.std.specs.List.{AllByRecursion}
use Rattle.place_map.specs.declared.coach.Place.{Place}
use Rattle.history_model.proofs.ListLemmas.{All-append, All-left, All-right}
use Rattle.party_places.specs.Stretches.{is_beside, AreSideBySide}
use Rattle.party_places.specs.Searches.{Looked, places_looked, EndsFree, ShowsNone, next_together}
use Rattle.party_places.proofs.Rows.{by_last, same_last}

side_left : (places : List Place) (ps qs : List ℕ) → AreSideBySide places (ps ++ qs) → AreSideBySide places ps
side_left places [] qs s = tt
side_left places (p ∷ []) qs s = tt
side_left places (p ∷ q ∷ rest) qs s = (s.0, side_left places (q ∷ rest) qs s.1)

side_last : (places : List Place) (ps : List ℕ) (q p : ℕ) → AreSideBySide places (ps ++ q ∷ p ∷ []) → is_beside places q p ≡ true
side_last places [] q p s = s.0
side_last places (a ∷ []) q p s = s.1.0
side_last places (a ∷ b ∷ rest) q p s = side_last places (b ∷ rest) q p s.1

side_more : (places : List Place) (ps : List ℕ) (q p : ℕ) → AreSideBySide places (ps ++ q ∷ []) → is_beside places q p ≡ true → AreSideBySide places (ps ++ q ∷ p ∷ [])
side_more places [] q p s beside = (beside, tt)
side_more places (a ∷ []) q p s beside = (s.0, (beside, tt))
side_more places (a ∷ b ∷ rest) q p s beside = (s.0, side_more places (b ∷ rest) q p s.1 beside)

last_two : (s : List Looked) (q l : Looked) → places_looked ((s ++ q ∷ []) ++ l ∷ []) ≡ places_looked s ++ q.place ∷ l.place ∷ []
last_two [] q l = refl
last_two (x ∷ s) q l = ap (λ (ps : List ℕ). x.place ∷ ps) (last_two s q l)

last_one : (s : List Looked) (q : Looked) → places_looked (s ++ q ∷ []) ≡ places_looked s ++ q.place ∷ []
last_one [] q = refl
last_one (x ∷ s) q = ap (λ (ps : List ℕ). x.place ∷ ps) (last_one s q)

-- the last one looked at, if any, stands beside the place in front of it
abbrev pub IsBesideLast : List Place → List Looked → Looked → Type 0
IsBesideLast places looked l = (front : List Looked) → (q : Looked) → looked ≡ front ++ q ∷ [] → is_beside places q.place l.place ≡ true

module _ (places : List Place) (looked : List Looked) where
  pub ends_none : EndsFree places 0 looked
  ends_none = record { front = looked; stretch = []; are = sym (append-nil looked); many = refl; free = tt; beside = tt }

  ends_one : (l : Looked) → l.free ≡ true → EndsFree places 1 (looked ++ l ∷ [])
  ends_one l free = record { front = looked; stretch = l ∷ []; are = refl; many = refl; free = (free, tt); beside = tt }

  ends_more : (l : Looked) (n : ℕ) → EndsFree places n looked → 1 ≤ n → l.free ≡ true → IsBesideLast places looked l → EndsFree places (n + 1) (looked ++ l ∷ [])
  ends_more l n e some free beside = by (by_last e.stretch)
    where
      by : (e.stretch ≡ []) ⊎ ((s : List Looked) × (q : Looked) × (e.stretch ≡ s ++ q ∷ [])) → EndsFree places (n + 1) (looked ++ l ∷ [])
      by (inl none) = absurd (omega (arith, some, e.many, ap length none))
      by (inr (s, q, is)) =
          let at : looked ≡ (e.front ++ s) ++ q ∷ [] = e.are ∙ (ap (λ (x : List Looked). e.front ++ x) is ∙ sym (append_assoc e.front s (q ∷ []))) in
          let before : AreSideBySide places (places_looked s ++ q.place ∷ []) = subst (AreSideBySide places) (ap places_looked is ∙ last_one s q) e.beside in
          record {
            front = e.front;
            stretch = e.stretch ++ l ∷ [];
            are = ap (λ (x : List Looked). x ++ l ∷ []) e.are ∙ append_assoc e.front e.stretch (l ∷ []);
            many = length-append e.stretch (l ∷ []) ∙ ap (λ (k : ℕ). k + 1) e.many;
            free = All-append (λ (x : Looked). x.free ≡ true) e.stretch (l ∷ []) e.free (free, tt);
            beside = subst (AreSideBySide places) (sym (ap (λ (x : List Looked). places_looked (x ++ l ∷ [])) is ∙ last_two s q l))
                (side_more places (places_looked s) q.place l.place before (beside (e.front ++ s) q at));
          }

  -- a free stretch without its last place
  pub record Less (l : Looked) (n : ℕ) : Type 0 where
    pub free : l.free ≡ true
    pub ends : EndsFree places n looked
    pub beside : 1 ≤ n → (front : List Looked) × (q : Looked) × (looked ≡ front ++ q ∷ []) × (is_beside places q.place l.place ≡ true)

  ends_less : (l : Looked) (n : ℕ) → EndsFree places (suc n) (looked ++ l ∷ []) → Less l n
  ends_less l n e = by (by_last e.stretch)
    where
      by : (e.stretch ≡ []) ⊎ ((s : List Looked) × (z : Looked) × (e.stretch ≡ s ++ z ∷ [])) → Less l n
      by (inl none) = absurd (omega (arith, e.many, ap length none))
      by (inr (s, z, is)) =
          let whole : looked ++ l ∷ [] ≡ (e.front ++ s) ++ z ∷ [] = e.are ∙ (ap (λ (x : List Looked). e.front ++ x) is ∙ sym (append_assoc e.front s (z ∷ []))) in
          let same = same_last looked (e.front ++ s) l z whole in
          let all = subst (AllByRecursion (λ (x : Looked). x.free ≡ true)) is e.free in
          let count : length s + 1 ≡ suc n = sym (length-append s (z ∷ [])) ∙ (sym (ap length is) ∙ e.many) in
          let side : AreSideBySide places (places_looked s ++ z.place ∷ []) = subst (AreSideBySide places) (ap places_looked is ∙ last_one s z) e.beside in
          record {
            free = ap (λ (x : Looked). x.free) same.1 ∙ (All-right (λ (x : Looked). x.free ≡ true) s (z ∷ []) all).0;
            ends = record {
              front = e.front;
              stretch = s;
              are = same.0;
              many = (let f : length s ≡ n = omega (arith, count) in f);
              free = All-left (λ (x : Looked). x.free ≡ true) s (z ∷ []) all;
              beside = side_left places (places_looked s) (z.place ∷ []) side;
            };
            beside = λ some. before s z same side (let f : 1 ≤ length s = omega (arith, count, some) in f) (by_last s);
          }
        where
          before : (s : List Looked) (z : Looked) → (looked ≡ e.front ++ s) × (l ≡ z) → AreSideBySide places (places_looked s ++ z.place ∷ []) → 1 ≤ length s
              → (s ≡ []) ⊎ ((i : List Looked) × (q : Looked) × (s ≡ i ++ q ∷ []))
              → (front : List Looked) × (q : Looked) × (looked ≡ front ++ q ∷ []) × (is_beside places q.place l.place ≡ true)
          before s z same side some (inl none) = absurd (omega (arith, some, ap length none))
          before s z same side some (inr (i, q, is)) =
              let two : AreSideBySide places (places_looked i ++ q.place ∷ z.place ∷ []) =
              subst (AreSideBySide places) (ap (λ (x : List Looked). places_looked x ++ z.place ∷ []) is ∙ sym (last_one (i ++ q ∷ []) z) ∙ last_two i q z) side in (
                e.front ++ i,
                q,
                same.0 ∙ (ap (λ (x : List Looked). e.front ++ x) is ∙ sym (append_assoc e.front i (q ∷ []))),
                ap (λ (x : Looked). is_beside places q.place x.place) same.1 ∙ side_last places (places_looked i) q.place z.place two,
              )

-- the longest free stretch that those looked at end in has so many places
pub record Running (places : List Place) (looked : List Looked) (n : ℕ) : Type 0 where
  pub is : EndsFree places n looked
  pub longest : (m : ℕ) → EndsFree places m looked → m ≤ n

pub running_none : (places : List Place) → Running places [] 0
running_none places = record {
  is = ends_none places [];
  longest = λ m e. (let both = length-append e.front e.stretch in let all = ap length e.are in let many = e.many in let f : m ≤ 0 = omega (arith, both, all, many) in f);
}

module _ (places : List Place) (looked : List Looked) (l : Looked) (n : ℕ) (run : Running places looked n) where
  running_lost : l.free ≡ false → Running places (looked ++ l ∷ []) 0
  running_lost lost = record { is = ends_none places (looked ++ l ∷ []); longest = longest }
    where
      longest : (m : ℕ) → EndsFree places m (looked ++ l ∷ []) → m ≤ 0
      longest zero e = omega arith
      longest (suc m) e = absurd (let f : false ≡ true = sym lost ∙ (ends_less places looked l m e).free in cc)

  running_one : l.free ≡ true → (1 ≤ n → (front : List Looked) (q : Looked) → looked ≡ front ++ q ∷ [] → is_beside places q.place l.place ≡ true → ⊥) → Running places (looked ++ l ∷ []) 1
  running_one free apart = record { is = ends_one places looked l free; longest = longest }
    where
      longest : (m : ℕ) → EndsFree places m (looked ++ l ∷ []) → m ≤ 1
      longest zero e = omega arith
      longest (suc zero) e = omega arith
      longest (suc (suc m)) e =
          let less = ends_less places looked l (suc m) e in
          let b = less.beside (omega arith) in
          let long = run.longest (suc m) less.ends in
          absurd (apart (omega (arith, long)) b.0 b.1 b.2 b.3)

  running_more : l.free ≡ true → 1 ≤ n → IsBesideLast places looked l → Running places (looked ++ l ∷ []) (n + 1)
  running_more free some beside = record { is = ends_more places looked l n run.is some free beside; longest = longest }
    where
      longest : (m : ℕ) → EndsFree places m (looked ++ l ∷ []) → m ≤ n + 1
      longest zero e = omega arith
      longest (suc m) e = let long = run.longest m (ends_less places looked l m e).ends in omega (arith, long)

  -- after one more, by whether it showed free, and whether it follows those
  pub running_next : (follows : Bool) → (follows ≡ true → (1 ≤ n) × IsBesideLast places looked l)
      → (follows ≡ false → 1 ≤ n → (front : List Looked) (q : Looked) → looked ≡ front ++ q ∷ [] → is_beside places q.place l.place ≡ true → ⊥)
      → Running places (looked ++ l ∷ []) (next_together n l.free follows)
  running_next follows joins not_so = by l.free follows refl joins not_so
    where
      by : (free follows : Bool) → l.free ≡ free → (follows ≡ true → (1 ≤ n) × IsBesideLast places looked l)
          → (follows ≡ false → 1 ≤ n → (front : List Looked) (q : Looked) → looked ≡ front ++ q ∷ [] → is_beside places q.place l.place ≡ true → ⊥)
          → Running places (looked ++ l ∷ []) (next_together n free follows)
      by true true free joins not_so = running_more free (joins refl).0 (joins refl).1
      by true false free joins not_so = running_one free (not_so refl)
      by false follows free joins not_so = running_lost free

-- no front of those looked at and one more ends in a free stretch, where it doesn't with that one
pub shows_none_more : (places : List Place) (count : ℕ) (looked : List Looked) (l : Looked) → ShowsNone places count looked → ¬ EndsFree places count (looked ++ l ∷ [])
    → ShowsNone places count (looked ++ l ∷ [])
shows_none_more places count looked l none here front back is ends = by (by_last back)
  where
    by : (back ≡ []) ⊎ ((b : List Looked) × (z : Looked) × (back ≡ b ++ z ∷ [])) → ⊥
    by (inl none_left) =
        let same : looked ++ l ∷ [] ≡ front = is ∙ (ap (λ (x : List Looked). front ++ x) none_left ∙ append-nil front) in
        here (subst (EndsFree places count) (sym same) ends)
    by (inr (b, z, at)) =
        let whole : looked ++ l ∷ [] ≡ (front ++ b) ++ z ∷ [] = is ∙ (ap (λ (x : List Looked). front ++ x) at ∙ sym (append_assoc front b (z ∷ []))) in
        none front b (same_last looked (front ++ b) l z whole).0 ends

pub shows_none_first : (places : List Place) (count : ℕ) → 1 ≤ count → ShowsNone places count []
shows_none_first places count some front back is ends =
    let front_none = length-append front back in
    let all = ap length is in
    let both = length-append ends.front ends.stretch in
    let many = ends.many in
    let are = ap length ends.are in
    omega (arith, front_none, all, both, many, are, some)

-- Between a desk's looks at one place that show unlike words stand entries of others that change it.
use Rattle.std.proofs.Common.{◌≡◌, ℕ, Bool, true, false, cond, eqb, List, [], ◌∷◌, ◌++◌, map, refl, sym, ap, ◌∙◌, subst, append_assoc, eq-eqb}
use Rattle.history_model.specs.declared.entry.Entry.{Entry}
use Rattle.leg_masks.specs.Interval.{Interval, half_of}
use Rattle.history_model.specs.Looks.{look_at}
use Rattle.history_model.specs.Booking.{Layout}
use Rattle.history_model.specs.History.{IsLegal, entry, own}
use Rattle.history_model.proofs.Looks.{unlike_looks, none_own}
use Rattle.hold_core.specs.Tries.{looks_at, AreMoving}
use Rattle.hold_core.specs.Contending.{ChangesBetween}

first_or : Entry → List Entry → Entry
first_or e [] = e
first_or e (x ∷ xs) = x

rest_of : List Entry → List Entry
rest_of [] = []
rest_of (x ∷ xs) = xs

-- the entry is the first of the desk's own
abbrev Finds : ℕ → Entry → List Entry → List Entry → Type 0
Finds d e es entries = (front : List Entry) × (back : List Entry) × (entries ≡ front ++ e ∷ back) × (own front d ≡ []) × (own back d ≡ es)

none_first : (e : Entry) (es : List Entry) → [] ≡ e ∷ es → ⊥
none_first e es is = cc

find_own : (d : ℕ) (e : Entry) (es entries : List Entry) → own entries d ≡ e ∷ es → Finds d e es entries
unfolding first_or rest_of
find_own d e es [] is = absurd (none_first e es is)
find_own d e es (x ∷ xs) is = go (eqb x.desk d) refl (λ f. find_own d e es xs f) is
  where
    go : (c : Bool) → eqb x.desk d ≡ c → (own xs d ≡ e ∷ es → Finds d e es xs) → cond c (x ∷ own xs d) (own xs d) ≡ e ∷ es → Finds d e es (x ∷ xs)
    go true is rest f = ([], xs, ap (λ (y : Entry). y ∷ xs) (ap (first_or e) f), refl, ap rest_of f)
    go false is rest f = let r = rest f in (x ∷ r.0, r.1, ap (λ (l : List Entry). x ∷ l) r.2, ap (λ (c : Bool). cond c (x ∷ own r.0 d) (own r.0 d)) is ∙ r.3, r.4)

pub changes_between : (g : Layout) (d p : ℕ) (piece : Interval) (shown : List ℕ) (history entries : List Entry) → IsLegal g (history ++ entries) → own entries d ≡ map (entry d) (looks_at p piece shown) → AreMoving shown
    → ChangesBetween g history p (half_of piece) d entries shown
changes_between g d p piece [] history entries l is moving = tt
changes_between g d p piece (a ∷ []) history entries l is moving = tt
changes_between g d p piece (a ∷ b ∷ more) history entries l is moving =
    let one : Entry = entry d (look_at p piece a) in
    let two : Entry = entry d (look_at p piece b) in
    let f = find_own d one (map (entry d) (looks_at p piece (b ∷ more))) entries is in
    let n = find_own d two (map (entry d) (looks_at p piece more)) f.1 f.4 in
    let h : List Entry = history ++ f.0 in
    let all : entries ≡ f.0 ++ one ∷ (n.0 ++ two ∷ n.1) = f.2 ∙ ap (λ (l : List Entry). f.0 ++ one ∷ l) n.2 in
    let whole : IsLegal g (h ++ one ∷ (n.0 ++ two ∷ n.1)) = subst (IsLegal g) (ap (λ (l : List Entry). history ++ l) all ∙ sym (append_assoc history f.0 (one ∷ (n.0 ++ two ∷ n.1)))) l in
    let change = unlike_looks g h n.0 n.1 d d p (half_of piece) a b (λ e. moving.0 (sym e)) whole in
    let later : IsLegal g ((h ++ one ∷ n.0) ++ two ∷ n.1) = subst (IsLegal g) (sym (append_assoc h (one ∷ n.0) (two ∷ n.1))) whole in
    let left : own (two ∷ n.1) d ≡ map (entry d) (looks_at p piece (b ∷ more)) = ap (λ (c : Bool). cond c (two ∷ own n.1 d) (own n.1 d)) (eq-eqb d d refl) ∙ ap (λ (l : List Entry). two ∷ l) n.4 in (
      f.0,
      n.0,
      n.1,
      all,
      (change.0, change.1, change.2, change.3, none_own change.0 change.2 change.1 d (subst (λ (l : List Entry). own l d ≡ []) change.3 n.3), change.4),
      changes_between g d p piece (b ∷ more) (h ++ one ∷ n.0) (two ∷ n.1) later left moving.1,
    )

-- The successors that are noted are those of the bookings, in rising row.
use Rattle.std.proofs.Common.{◌≡◌, ◌≢◌, ◌⊎◌, ⊎_elim, inl, inr, ℕ, zero, suc, ◌+◌, ◌<◌, ◌≤◌, List, [], ◌∷◌, ◌++◌, length, map, filter_map, option_map, get_or, Option, Some, None, IfSome, Any, refl, sym, ap, ◌∙◌, subst, arith}
use Rattle.std.specs.List.{AllByRecursion, Contains, cons_option}
use Rattle.history_model.specs.Lists.{Pairwise}
use Rattle.cold_store.specs.declared.draft.Follows.{Follows}
use Rattle.line_text.specs.declared.ends.SaidRow.{SaidRow}
use Rattle.cold_store.specs.Drafts.{AreRisingRows, HasLineOf, follows_of, row_said}
use Rattle.line_text.specs.Lines.{SaidBooking}
use Rattle.cold_store.specs.Right.{HasLine}
use Rattle.cold_store.proofs.Pairs.{Pairwise-under_map}

-- membership by recursion
abbrev pub In : {X : Type 0} → X → List X → Type 0
In x [] = ⊥
In x (y ∷ ys) = (y ≡ x) ⊎ In x ys

at_in : {X : Type 0} (xs : List X) (k : ℕ) (x : X) → k < length xs → get_or xs k x ≡ x → In x xs
at_in [] k x l e = absurd (omega arith)
at_in (y ∷ ys) zero x l e = inl e
at_in (y ∷ ys) (suc k) x l e = inr (at_in ys k x (omega arith) e)

pub in_of : {X : Type 0} (xs : List X) (x : X) → Contains xs x → In x xs
in_of xs x h = at_in xs h.0 x h.1 h.2

pub of_in : {X : Type 0} (xs : List X) (x : X) → In x xs → Contains xs x
of_in [] x h = absurd h
of_in (y ∷ ys) x (inl e) = (0, omega arith, e)
of_in (y ∷ ys) x (inr h) = let r = of_in ys x h in let l = r.1 in (suc r.0, omega arith, r.2)

pub All-in : {X : Type 0} (P : X → Type 0) (xs : List X) (x : X) → AllByRecursion P xs → In x xs → P x
All-in P [] x h i = absurd i
All-in P (y ∷ ys) x h (inl e) = subst P e h.0
All-in P (y ∷ ys) x h (inr i) = All-in P ys x h.1 i

pub All-from_in : {X : Type 0} (P : X → Type 0) (xs : List X) → ((x : X) → In x xs → P x) → AllByRecursion P xs
All-from_in P [] h = tt
All-from_in P (x ∷ xs) h = (h x (inl refl), All-from_in P xs (λ y i. h y (inr i)))

pub in_left : {X : Type 0} (xs ys : List X) (x : X) → In x xs → In x (xs ++ ys)
in_left [] ys x h = absurd h
in_left (y ∷ xs) ys x (inl e) = inl e
in_left (y ∷ xs) ys x (inr h) = inr (in_left xs ys x h)

pub in_right : {X : Type 0} (xs ys : List X) (x : X) → In x ys → In x (xs ++ ys)
in_right [] ys x h = h
in_right (y ∷ xs) ys x h = inr (in_right xs ys x h)

pub in_cases : {X : Type 0} (xs ys : List X) (x : X) → In x (xs ++ ys) → In x xs ⊎ In x ys
in_cases [] ys x h = inr h
in_cases (y ∷ xs) ys x (inl e) = inl (inl e)
in_cases (y ∷ xs) ys x (inr h) = ⊎_elim (λ i. inl (inr i)) (λ i. inr i) (in_cases xs ys x h)

-- where a member stands
pub in_parts : {X : Type 0} (xs : List X) (x : X) → In x xs → (before : List X) × (behind : List X) × (xs ≡ before ++ x ∷ behind)
in_parts [] x h = absurd h
in_parts (y ∷ ys) x (inl e) = ([], ys, ap (λ z. z ∷ ys) e)
in_parts (y ∷ ys) x (inr h) = let r = in_parts ys x h in (y ∷ r.0, r.1, ap (λ zs. y ∷ zs) r.2)

pub in_map : {X Y : Type 0} (f : X → Y) (xs : List X) (y : Y) → In y (map f xs) → (x : X) × In x xs × (f x ≡ y)
in_map f [] y h = absurd h
in_map f (x ∷ xs) y (inl e) = (x, inl refl, e)
in_map f (x ∷ xs) y (inr h) = let r = in_map f xs y h in (r.0, inr r.1, r.2)

pub map_in : {X Y : Type 0} (f : X → Y) (xs : List X) (x : X) → In x xs → In (f x) (map f xs)
map_in f [] x h = absurd h
map_in f (y ∷ ys) x (inl e) = inl (ap f e)
map_in f (y ∷ ys) x (inr h) = inr (map_in f ys x h)

-- the rows behind a booking are greater, and those before it less
pub rows_before : (before : List SaidBooking) (b : SaidBooking) (behind : List SaidBooking) → Pairwise (λ (x y : SaidBooking). x.row < y.row) (before ++ b ∷ behind) → (a : SaidBooking) → In a before → a.row < b.row
rows_before [] b behind rising a h = absurd h
rows_before (x ∷ xs) b behind rising a (inl e) = subst (λ (y : SaidBooking). y.row < b.row) e (All-in (λ (y : SaidBooking). x.row < y.row) (xs ++ b ∷ behind) b rising.0 (in_right xs (b ∷ behind) b (inl refl)))
rows_before (x ∷ xs) b behind rising a (inr h) = rows_before xs b behind rising.1 a h

pub rows_behind : (before : List SaidBooking) (b : SaidBooking) (behind : List SaidBooking) → Pairwise (λ (x y : SaidBooking). x.row < y.row) (before ++ b ∷ behind) → (a : SaidBooking) → In a (b ∷ behind) → b.row ≤ a.row
rows_behind [] b behind rising a (inl e) = subst (λ (y : SaidBooking). b.row ≤ y.row) e (omega arith)
rows_behind [] b behind rising a (inr h) = let less : b.row < a.row = All-in (λ (y : SaidBooking). b.row < y.row) behind a rising.0 h in omega arith
rows_behind (x ∷ xs) b behind rising a h = rows_behind xs b behind rising.1 a h

-- the successors that are noted

cons_in : (o : Option Follows) (fs : List Follows) (f : Follows) → (o ≡ Some f) ⊎ In f fs → In f (cons_option o fs)
cons_in None fs f (inl e) = absurd (let none : ◌≡◌ {A = Option Follows} None (Some f) = e in cc)
cons_in None fs f (inr h) = h
cons_in (Some g) fs f (inl e) = inl (let same : g ≡ f = cc in same)
cons_in (Some g) fs f (inr h) = inr h

in_cons : (o : Option Follows) (fs : List Follows) (f : Follows) → In f (cons_option o fs) → (o ≡ Some f) ⊎ In f fs
in_cons None fs f h = inr h
in_cons (Some g) fs f (inl e) = inl (ap (λ (x : Follows). Some x) e)
in_cons (Some g) fs f (inr h) = inr h

abbrev follow : ℕ → SaidRow → Follows
follow row s = record { row = row; successor = s }

pub follows_in : (said : List SaidBooking) (a : SaidBooking) (s : SaidRow) → In a said → a.end.successor ≡ Some s → In (follow a.row s) (filter_map follows_of said)
follows_in [] a s h e = absurd h
follows_in (b ∷ bs) a s (inl same) e = cons_in (follows_of b) (filter_map follows_of bs) (follow a.row s) (inl (ap follows_of same ∙ ap (option_map (follow a.row)) e))
follows_in (b ∷ bs) a s (inr h) e = cons_in (follows_of b) (filter_map follows_of bs) (follow a.row s) (inr (follows_in bs a s h e))

followed : (row : ℕ) (o : Option SaidRow) (f : Follows) → option_map (follow row) o ≡ Some f → (row ≡ f.row) × (o ≡ Some f.successor)
followed row None f e = absurd (let none : ◌≡◌ {A = Option Follows} None (Some f) = e in cc)
followed row (Some s) f e = let same : follow row s ≡ f = cc in (ap (λ (x : Follows). x.row) same, ap (λ (x : Follows). Some x.successor) same)

pub in_follows : (said : List SaidBooking) (f : Follows) → In f (filter_map follows_of said) → (a : SaidBooking) × In a said × (a.row ≡ f.row) × (a.end.successor ≡ Some f.successor)
in_follows [] f h = absurd h
in_follows (b ∷ bs) f h = ⊎_elim
    (λ (e : follows_of b ≡ Some f). let is = followed b.row b.end.successor f e in (b, inl refl, is.0, is.1))
    (λ (i : In f (filter_map follows_of bs)). let r = in_follows bs f i in (r.0, inr r.1, r.2, r.3))
    (in_cons (follows_of b) (filter_map follows_of bs) f h)

pub follows_rise : (said : List SaidBooking) → Pairwise (λ (x y : SaidBooking). x.row < y.row) said → Pairwise (λ (x y : Follows). x.row < y.row) (filter_map follows_of said)
follows_rise [] h = tt
follows_rise (b ∷ bs) h = cons_rise (follows_of b) refl (follows_rise bs h.1)
  where
    above : AllByRecursion (λ (f : Follows). b.row < f.row) (filter_map follows_of bs)
    above = All-from_in (λ (f : Follows). b.row < f.row) (filter_map follows_of bs) (λ f i. let r = in_follows bs f i in
        subst (λ (n : ℕ). b.row < n) r.2 (All-in (λ (y : SaidBooking). b.row < y.row) bs r.0 h.0 r.1))

    cons_rise : (o : Option Follows) → follows_of b ≡ o → Pairwise (λ (x y : Follows). x.row < y.row) (filter_map follows_of bs) → Pairwise (λ (x y : Follows). x.row < y.row) (cons_option o (filter_map follows_of bs))
    cons_rise None e rest = rest
    cons_rise (Some f) e rest = (subst (λ (n : ℕ). AllByRecursion (λ (g : Follows). n < g.row) (filter_map follows_of bs)) (followed b.row b.end.successor f e).0 above, rest)

-- the lines of bookings

pub said_rise : (lines : List SaidRow) (said : List SaidBooking) → lines ≡ map row_said said → AreRisingRows lines → Pairwise (λ (x y : SaidBooking). x.row < y.row) said
said_rise lines said is rising = Pairwise-under_map (λ (x y : SaidRow). x.row < y.row) row_said said (subst AreRisingRows is rising)

pub line_said : (lines : List SaidRow) (said : List SaidBooking) (s : SaidRow) → lines ≡ map row_said said → HasLineOf lines s → HasLine said s
line_said lines said s is has =
    let there : In has.1 (map row_said said) = subst (In has.1) is (at_in lines has.0 has.1 has.2 has.3) in
    let b = in_map row_said said has.1 there in
    (b.0, of_in said b.0 b.1, ap (λ (l : SaidRow). l.row) b.2 ∙ has.4.0, subst (λ (l : SaidRow). s.generation ≤ l.generation) (sym b.2) has.4.1)

pub said_line : (lines : List SaidRow) (said : List SaidBooking) (s : SaidRow) → lines ≡ map row_said said → HasLine said s → HasLineOf lines s
said_line lines said s is has =
    let there : In (row_said has.0) lines = subst (In (row_said has.0)) (sym is) (map_in row_said said has.0 (in_of said has.0 has.1)) in
    let k = of_in lines (row_said has.0) there in
    (k.0, row_said has.0, k.1, k.2, (has.2, has.3))

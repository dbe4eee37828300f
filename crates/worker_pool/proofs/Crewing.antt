-- Crews that gain and lose a member.
use Rattle.std.proofs.Common.{◌≡◌, ◌∙◌, ◌<◌, ◌≤◌, ◌+◌, ◌-◌, ℕ, zero, suc, List, [], ◌∷◌, ◌++◌, length, take, drop, slice_index_or, refl, sym, ap, subst, inl, inr, arith, append-nil, append_assoc}
use Rattle.std.proofs.Math.Logic.{⊎_elim}
use Rattle.std.proofs.lemmas.Bool.{cases_lt}
use Rattle.std.proofs.lemmas.List.{drop_all, get_or_append_left, length-append, take_all}
use Rattle.std.proofs.Math.Seq.{get_or-append_seam}
use Rattle.std.specs.List.{AllByRecursion}
use mathlib.Core.List.{IsPrefix}
use Rattle.history_model.specs.History.{entry, own}
use Rattle.history_model.specs.declared.entry.Entry.{Entry}
use Rattle.history_model.proofs.ListLemmas.{All-append}
use Rattle.claim_rule.specs.Rule.{BooksView, DeskView, In, IsWhole}
use Rattle.history_model.specs.declared.entry.Step.TheVariants.{Met}
use Rattle.claim_rule.specs.Desks.{IsOf, IsNew, HasMet, Stepped}
use Rattle.claim_rule.specs.Out.{IsTidy}
use Rattle.claim_rule.proofs.Shapes.{step_shape}
use Rattle.claim_rule.proofs.Views.{each_in}
use Rattle.worker_pool.specs.Turns.{KeepsDesk, EachMember}
use Rattle.worker_pool.specs.declared.member.Member.{Member}
use Rattle.worker_pool.specs.Crews.{OnlyMet, IsFirst, IsDesk, IsMember, IsCrew, HasGiven, HasMetAll, Held, of_member, sum_below}

-- what begins a beginning begins the whole
pub begins : (a b c : List Entry) → IsPrefix a b → IsPrefix b c → IsPrefix a c
begins a b c p q = (p.0 ++ q.0, sym (append_assoc a p.0 q.0) ∙ (ap (λ l. l ++ q.0) p.1 ∙ q.1))

-- one meeting more
pub one_more : (n : ℕ) (old new : List Entry) → n ≡ 0 → own new n ≡ own old n ++ entry n Met ∷ [] → OnlyMet old → OnlyMet new
one_more n old new first added meets =
    let here : own new 0 ≡ own old 0 ++ entry 0 Met ∷ [] = subst (λ (k : ℕ). own new k ≡ own old k ++ entry k Met ∷ []) first added in
    subst (λ (es : List Entry). AllByRecursion (λ e. e.step ≡ Met) es) (sym here) (All-append (λ e. e.step ≡ Met) (own old 0) (entry 0 Met ∷ []) meets (refl, tt {0}))

in_left : (j : ℕ) (a b : List ℕ) → In j a → In j (a ++ b)
in_left j [] b i = elim i [ ]
in_left j (k ∷ ks) b (inl e) = inl e
in_left j (k ∷ ks) b (inr i) = inr (in_left j ks b i)

in_right : (j : ℕ) (a b : List ℕ) → In j b → In j (a ++ b)
in_right j [] b i = i
in_right j (k ∷ ks) b i = inr (in_right j ks b i)

-- what is so of each, by its place, is so with one more
pub joined_each : {M : Type 0} (so : ℕ → M → Type 0) (crew : List M) (m : M) → ((i : ℕ) (none : M) → i < length crew → so i (slice_index_or crew i none)) → so (length crew) m
    → (i : ℕ) (none : M) → i < length (crew ++ m ∷ []) → so i (slice_index_or (crew ++ m ∷ []) i none)
joined_each {M} so crew m is new i none lt = ⊎_elim
    (λ (here : i < length crew). subst (so i) (sym (get_or_append_left crew (m ∷ []) none i here)) (is i none here))
    (λ (past : length crew ≤ i).
    let count : length (crew ++ m ∷ []) ≡ length crew + 1 = length-append crew (m ∷ []) in
    let at : length crew ≡ i = omega (arith, lt, past, count) in
    subst (λ (k : ℕ). so k (slice_index_or (crew ++ m ∷ []) k none)) at (subst (so (length crew)) (sym (get_or-append_seam crew m [] none)) new))
    (cases_lt i (length crew))

module _ {W : Type 0} (Fits : W → BooksView → Type 0) (books : BooksView) where
  -- one member more
  pub joined : (crew : List (Member W)) (m : Member W) → IsCrew Fits books crew → IsMember Fits books (length crew + 1) m → IsCrew Fits books (crew ++ m ∷ [])
  joined crew m is new = joined_each (λ i n. IsMember Fits books (i + 1) n) crew m is new

  -- the members before a last one, and it
  pub last_of : (all crew : List (Member W)) (m : Member W) → IsCrew Fits books all → IsPrefix (crew ++ m ∷ []) all → IsMember Fits books (length crew + 1) m × (length crew < length all)
  last_of all crew m is front =
      let whole : all ≡ crew ++ m ∷ front.0 = sym front.1 ∙ append_assoc crew (m ∷ []) front.0 in
      let count : length all ≡ length crew + length (m ∷ front.0) = ap length whole ∙ length-append crew (m ∷ front.0) in
      let lt : length crew < length all = omega (arith, count) in (
        subst (λ (n : Member W). IsMember Fits books (length crew + 1) n)
            (ap (λ (l : List (Member W)). slice_index_or l (length crew) m) whole ∙ get_or-append_seam crew m front.0 m) (is (length crew) m lt),
        lt,
      )

  -- the same of the last of the members that are left
  pub popped : (all crew rest : List (Member W)) (m : Member W) → IsCrew Fits books all → IsPrefix crew all → crew ≡ rest ++ m ∷ [] → IsMember Fits books (length rest + 1) m
  popped all crew rest m is front whole = (last_of all rest m is (subst (λ (l : List (Member W)). IsPrefix l all) whole front)).0

  -- it stands there
  pub stands : (all crew : List (Member W)) (m none : Member W) → IsPrefix (crew ++ m ∷ []) all → slice_index_or all (length crew) none ≡ m
  stands all crew m none front =
      let whole : all ≡ crew ++ m ∷ front.0 = sym front.1 ∙ append_assoc crew (m ∷ []) front.0 in
      ap (λ (l : List (Member W)). slice_index_or l (length crew) none) whole ∙ get_or-append_seam crew m front.0 none

  pub front_of : (all crew : List (Member W)) (m : Member W) → IsPrefix (crew ++ m ∷ []) all → IsPrefix crew all
  front_of all crew m front = (m ∷ front.0, sym (append_assoc crew (m ∷ []) front.0) ∙ front.1)

-- one desk more is joined
pub met_one : {W : Type 0} (Fits : W → BooksView → Type 0) (books : BooksView) (all crew : List (Member W)) (m : Member W) (old new : DeskView)
    → IsPrefix (crew ++ m ∷ []) all → IsMember Fits books (length crew + 1) m → HasMetAll books all (length crew + 1) old
    → HasMet old m.desk new → IsOf books new → IsTidy new → HasMetAll books all (length crew) new
met_one {W} Fits books all crew m old new front is before met of tidy = record {
  own = of;
  tidy = tidy;
  number = met.same.2 ∙ before.number;
  parted = met.same.3 ∙ before.parted;
  meets = one_more old.number old.seen new.seen before.number met.mine before.meets;
  met = λ i none low high. ⊎_elim
      (λ (later : length crew < i).
      let was = before.met i none (omega (arith, later)) high in (
        subst (λ (ks : List ℕ). In (i + 1) ks) (sym met.joined) (in_left (i + 1) old.joined (m.desk.number ∷ m.desk.joined) was.0),
        each_in (λ (j : ℕ). own new.seen j ≡ own old.seen j) old.joined (i + 1) met.before was.0 ∙ was.1,
        begins (slice_index_or all i none).desk.seen old.seen new.seen was.2 met.front,
      ))
      (λ (not_later : i ≤ length crew).
      let at : length crew ≡ i = omega (arith, low, not_later) in
      let number : i + 1 ≡ m.desk.number = sym (is.desk.number ∙ ap (λ (k : ℕ). k + 1) at) in
      let member : slice_index_or all i none ≡ m = subst (λ (k : ℕ). slice_index_or all k none ≡ m) at (stands Fits books all crew m none front) in (
        subst (λ (ks : List ℕ). In (i + 1) ks) (sym met.joined) (in_right (i + 1) old.joined (m.desk.number ∷ m.desk.joined) (inl number)),
        subst (λ (n : Member W). own new.seen (i + 1) ≡ own n.desk.seen (i + 1)) (sym member)
            (subst (λ (k : ℕ). own new.seen k ≡ own m.desk.seen k) (sym number) met.theirs.0),
        subst (λ (n : Member W). IsPrefix n.desk.seen new.seen) (sym member) met.other_front,
      ))
      (cases_lt (length crew) i);
}

-- a sum with one number more
sum_step : (f : ℕ → ℕ) (n : ℕ) → sum_below f (n + 1) ≡ sum_below f n + f n
sum_step f n = let at : n + 1 ≡ suc n = omega arith in ap (λ (k : ℕ). sum_below f k) at

-- one member more has given what it had
pub given_one : {W : Type 0} (Fits : W → BooksView → Type 0) (books : BooksView) (has counts : W → ℕ) (all crew : List (Member W)) (m : Member W) (old mid new : Held)
    → IsPrefix (crew ++ m ∷ []) all → HasGiven has counts all (length crew + 1) old mid → new.parts ≡ mid.parts + has m.worker
    → new.amount ≡ mid.amount + counts m.worker → HasGiven has counts all (length crew) old new
given_one {W} Fits books has counts all crew m old mid new front given parts amount = record {
  all_parts = λ none. step has none mid.parts new.parts old.parts parts (given.all_parts none);
  all_counted = λ none. step counts none mid.amount new.amount old.amount amount (given.all_counted none);
}
  where
    step : (of : W → ℕ) (none : Member W) (b c a : ℕ) → c ≡ b + of m.worker
        → b + sum_below (of_member of all none) (length crew + 1) ≡ a + sum_below (of_member of all none) (length all)
        → c + sum_below (of_member of all none) (length crew) ≡ a + sum_below (of_member of all none) (length all)
    step of none b c a more given =
        let split : sum_below (of_member of all none) (length crew + 1) ≡ sum_below (of_member of all none) (length crew) + of (slice_index_or all (length crew) none).worker =
        sum_step (of_member of all none) (length crew) in
        let this : of (slice_index_or all (length crew) none).worker ≡ of m.worker = ap (λ (n : Member W). of n.worker) (stands Fits books all crew m none front) in
        omega (arith, split, this, more, given)

-- a sum of ones
pub sum_ones : (f : ℕ → ℕ) (n : ℕ) → ((i : ℕ) → i < n → f i ≡ 1) → sum_below f n ≡ n
sum_ones f zero ones = refl
sum_ones f (suc n) ones =
    let before : sum_below f n ≡ n = sum_ones f n (λ i lt. ones i (omega (arith, lt))) in
    let last : f n ≡ 1 = ones n (omega arith) in
    omega (arith, before, last)

-- a sum of which all after the first ones is nothing
pub sum_rest : (f : ℕ → ℕ) (k n : ℕ) → k ≤ n → ((i : ℕ) → k ≤ i → i < n → f i ≡ 0) → sum_below f n ≡ sum_below f k
sum_rest f k zero low none = let at : k ≡ 0 = omega (arith, low) in ap (λ (j : ℕ). sum_below f j) (sym at)
sum_rest f k (suc n) low none = ⊎_elim
    (λ (more : n < k). let at : suc n ≡ k = omega (arith, low, more) in ap (λ (j : ℕ). sum_below f j) at)
    (λ (less : k ≤ n).
    let before : sum_below f n ≡ sum_below f k = sum_rest f k n less (λ i has lt. none i has (omega (arith, lt))) in
    let last : f n ≡ 0 = none n less (omega arith) in
    omega (arith, before, last))
    (cases_lt n k)

-- a sum whose first number alone is greater
pub sum_more : (f g : ℕ → ℕ) (more n : ℕ) → g 0 ≡ f 0 + more → ((i : ℕ) → g (suc i) ≡ f (suc i)) → 1 ≤ n → sum_below g n ≡ sum_below f n + more
sum_more f g more zero first same some = absurd (omega (arith, some))
sum_more f g more (suc zero) first same some = omega (arith, first)
sum_more f g more (suc (suc n)) first same some =
    let before : sum_below g (suc n) ≡ sum_below f (suc n) + more = sum_more f g more (suc n) first same (omega arith) in
    let last : g (suc n) ≡ f (suc n) = same n in
    omega (arith, before, last)

-- a desk more was parted
pub parted_first : (books : BooksView) (n : ℕ) (old new : DeskView) → IsFirst books n old → IsOf books new → Stepped Met old (record new { parted = old.parted })
    → new.parted ≡ old.parted + 1 → IsTidy new → IsFirst books (n + 1) new
parted_first books n old new first of met made tidy = record {
  own = of;
  tidy = tidy;
  number = met.same.2 ∙ first.number;
  parted = made ∙ ap (λ (k : ℕ). k + 1) first.parted;
  joined = met.same.3 ∙ first.joined;
  meets = one_more old.number old.seen new.seen first.number (step_shape Met old (record new { parted = old.parted }) met).mine first.meets;
}

pub parted_desk : (books : BooksView) (n : ℕ) (old new desk : DeskView) → IsFirst books n old → new.parted ≡ old.parted + 1 → IsNew desk new.parted new.seen
    → IsOf books desk → IsTidy desk → IsDesk books (n + 1) desk
parted_desk books n old new desk first made is of tidy = record {
  own = of;
  tidy = tidy;
  number = is.number ∙ (made ∙ ap (λ (k : ℕ). k + 1) first.parted);
  joined = is.joined;
}

-- it has no entries of its own
pub parted_empty : (n : ℕ) (new desk : DeskView) → new.parted ≡ n + 1 → IsNew desk new.parted new.seen → own new.seen new.parted ≡ [] → own desk.seen (n + 1) ≡ []
parted_empty n new desk made is none =
    subst (λ (k : ℕ). own desk.seen k ≡ []) made (ap (λ (es : List Entry). own es new.parted) is.seen ∙ none)

-- the members of a crew that has run stand at their desks
pub after_run : {W : Type 0} (Fits : W → BooksView → Type 0) (books : BooksView) (old crew : List (Member W)) → IsCrew Fits books old → length crew ≡ length old
    → EachMember (λ _ m. Fits m.worker books) old crew → EachMember (λ _ m. IsOf books m.desk) old crew → EachMember (λ _ m. IsTidy m.desk) old crew
    → EachMember (λ m n. KeepsDesk m.desk n.desk) old crew → IsCrew Fits books crew
after_run Fits books old crew is count fits of tidy keeps i none lt =
    let low : i < length old = omega (arith, lt, count) in
    let was = is i none low in
    let kept = keeps i none low in
    record {
      fits = fits i none low;
      desk = record {
        own = of i none low;
        tidy = tidy i none low;
        number = kept.number ∙ was.desk.number;
        joined = kept.joined ∙ was.desk.joined;
      };
    }

-- The first desk has joined all others once it has met the first member's
pub complete : {W : Type 0} (books : BooksView) (crew : List (Member W)) (none : Member W) (first other new : DeskView) → HasMetAll books crew 1 first
    → HasMet first other new → other.number ≡ 1 → IsWhole new.number new.parted new.joined × (new.parted ≡ length crew)
complete {W} books crew none first other new all met number =
    let made : new.parted ≡ length crew = met.same.3 ∙ all.parted in (
      (
        met.same.2 ∙ all.number,
        λ j low high. subst (λ (ks : List ℕ). In j ks) (sym met.joined) (⊎_elim
            (λ (later : 1 < j).
            let at : j - 1 + 1 ≡ j = omega (arith, later) in
            in_left j first.joined (other.number ∷ other.joined)
            (subst (λ (k : ℕ). In k first.joined) at (all.met (j - 1) none (omega (arith, later)) (omega (arith, later, high, made))).0))
            (λ (one : j ≤ 1).
            let at : j ≡ 1 = omega (arith, one, low) in
            in_right j first.joined (other.number ∷ other.joined) (inl (at ∙ sym number)))
            (cases_lt 1 j)),
      ),
      made,
    )

-- the first desk has then seen what each of them had seen, and of its entries no more
pub has_in : {W : Type 0} (books : BooksView) (crew : List (Member W)) (first other new : DeskView) → HasMetAll books crew 1 first → HasMet first other new
    → (i : ℕ) (none : Member W) → 1 ≤ i → i < length crew
    → (own new.seen (i + 1) ≡ own (slice_index_or crew i none).desk.seen (i + 1)) × IsPrefix (slice_index_or crew i none).desk.seen new.seen
has_in books crew first other new all met i none low high =
    let was = all.met i none low high in (
      each_in (λ (j : ℕ). own new.seen j ≡ own first.seen j) first.joined (i + 1) met.before was.0 ∙ was.1,
      begins (slice_index_or crew i none).desk.seen first.seen new.seen was.2 met.front,
    )

-- what is so of the members of a crew that is the same
pub since : {W : Type 0} (so : Member W → Member W → Type 0) (was old crew : List (Member W)) → was ≡ old → EachMember so was crew → EachMember so old crew
since so was old crew same each = subst (λ l. EachMember so l crew) same each

-- a list that is written over another of its length stands alone
pub all_written : {A : Type 0} (n : ℕ) (old new : List A) → length new ≡ n → length new ≡ length old → take n (new ++ drop (length new) old) ≡ new
all_written n old new len same =
    let none : drop (length new) old ≡ [] = drop_all (length new) old (omega (arith, same)) in
    ap (λ l. take n (new ++ l)) none ∙ (ap (take n) (append-nil new) ∙ take_all n new (omega (arith, len)))

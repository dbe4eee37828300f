-- The first wrong line, by the first that is wrong by itself and the successors in order.
use Rattle.std.proofs.Common.{◌≡◌, ◌≢◌, ◌⊎◌, ⊎_elim, inl, inr, ℕ, ◌+◌, ◌<◌, ◌≤◌, List, [], ◌∷◌, ◌++◌, length, map, filter_map, get_or, Option, Some, None, IfSome, IfNone, IsSomeAnd, refl, sym, ap, ◌∙◌, subst, arith}
use Rattle.std.specs.List.{AllByRecursion, Contains}
use Rattle.std.proofs.lemmas.Bool.{cases_lt, cases_eq}
use Rattle.std.proofs.lemmas.List.{get_or_default}
use Rattle.history_model.specs.Lists.{Pairwise}
use Rattle.cold_store.specs.declared.draft.Follows.{Follows}
use Rattle.line_text.specs.declared.ends.SaidRow.{SaidRow}
use Rattle.cold_store.specs.Drafts.{DraftView, EachDraft, HasLineOf, IsBeforeWrong, IsDraftOf, IsDrafted, IsFirstWrongAlone, IsLeastOwn, follows_of}
use Rattle.line_text.specs.Lines.{SaidBooking}
use Rattle.cold_store.specs.Right.{AreRight, HasLine, IsFirstWrong, IsRight, IsRightAlone, OwnsSuccessor}
use Rattle.cold_store.proofs.Follows.{All-from_in, All-in, In, follows_in, follows_rise, in_cases, in_follows, in_left, in_of, in_parts, in_right, line_said, of_in, rows_before, rows_behind, said_line, said_rise}
use Rattle.cold_store.proofs.SearchLines.{Pairwise-at}

-- the successors so far have lines, and their rows are less than the first wrong one
pub record AreChecked (d : DraftView) (k : ℕ) : Type 0 where
  pub lines : (j : ℕ) (x : Follows) → j < k → HasLineOf d.lines (get_or d.follows j x).successor
  pub before : (j : ℕ) (x : Follows) → j < k → IsBeforeWrong d.wrong (get_or d.follows j x).row

-- all successors of rows below this one are among the first
abbrev pub Reaches : DraftView → ℕ → ℕ → Type 0
Reaches d k row = (j : ℕ) (x : Follows) → j < length d.follows → (get_or d.follows j x).row < row → j < k

some_is : {X : Type 0} {x y : X} → Some x ≡ Some y → x ≡ y
some_is e = cc

module _ (legs : List ℕ) (said : List SaidBooking) (d : DraftView) (was : IsDraftOf legs d.rows said d) where
  rising : Pairwise (λ (x y : SaidBooking). x.row < y.row) said
  rising = said_rise d.lines said was.lines was.rising

  follows_rising : Pairwise (λ (x y : Follows). x.row < y.row) d.follows
  follows_rising = subst (Pairwise (λ (x y : Follows). x.row < y.row)) (sym was.follows) (follows_rise said rising)

  pub reaches_to : (k row : ℕ) (x : Follows) → k < length d.follows → row ≤ (get_or d.follows k x).row → Reaches d k row
  reaches_to k row x within most j y l less = ⊎_elim
      (λ (lt : j < k). lt)
      (λ (le : k ≤ j).
      let same : (get_or d.follows j y).row ≡ (get_or d.follows j x).row = ap (λ (f : Follows). f.row) (get_or_default d.follows j y x l) in
      absurd (⊎_elim
      (λ (e : k ≡ j). let s : (get_or d.follows k x).row ≡ (get_or d.follows j x).row = ap (λ (n : ℕ). (get_or d.follows n x).row) e in omega arith)
      (λ (n : k ≢ j). let r = Pairwise-at (λ (a b : Follows). a.row < b.row) d.follows k j x follows_rising (omega arith) l in omega arith)
      (cases_eq k j)))
      (cases_lt j k)

  pub reaches_all : (row : ℕ) → Reaches d (length d.follows) row
  reaches_all row j x l less = l

  -- the successors of lower rows have lines
  lines_below : (k row : ℕ) → AreChecked d k → Reaches d k row → (a : SaidBooking) → In a said → a.row < row → IfSome a.end.successor (HasLine said)
  lines_below k row checked reaches a there less = go a.end.successor refl
    where
      go : (o : Option SaidRow) → a.end.successor ≡ o → IfSome o (HasLine said)
      go None e = tt
      go (Some s) e =
          let noted : In (record { row = a.row; successor = s }) d.follows = subst (In (record { row = a.row; successor = s })) (sym was.follows) (follows_in said a s there e) in
          let at = of_in d.follows (record { row = a.row; successor = s }) noted in
          let f : Follows = record { row = a.row; successor = s } in
          let low : (get_or d.follows at.0 f).row < row = subst (λ (g : Follows). g.row < row) (sym at.2) less in
          let j = reaches at.0 f at.1 low in
          line_said d.lines said s was.lines (subst (λ (g : Follows). HasLineOf d.lines g.successor) at.2 (checked.lines at.0 f j))

  -- bookings of lower rows than the first wrong one are right by themselves
  alone_below : (row : ℕ) → IsBeforeWrong d.wrong row ⊎ (d.wrong ≡ Some row) → (a : SaidBooking) → In a said → a.row < row → IsRightAlone legs d.rows a
  alone_below row first a there low = go d.wrong refl
    where
      go : (o : Option ℕ) → d.wrong ≡ o → IsRightAlone legs d.rows a
      go None e = All-in (IsRightAlone legs d.rows) said a (subst (λ (o : Option ℕ). IfNone o (IsDrafted legs d.rows said d)) e was.right).right there
      go (Some w) e =
          let f : IsFirstWrongAlone legs d.rows said w = subst (λ (o : Option ℕ). IfSome o (IsFirstWrongAlone legs d.rows said)) e was.wrong in
          let most : row ≤ w = ⊎_elim
          (λ (before : IsBeforeWrong d.wrong row). let r : row < w = subst (λ (o : Option ℕ). IsBeforeWrong o row) e before in let x : row ≤ w = omega arith in x)
          (λ (is : d.wrong ≡ Some row). let r : row ≡ w = some_is (sym is ∙ e) in let x : row ≤ w = omega arith in x)
          first in
          let parts = rw f.parts at rising in
          ⊎_elim
          (λ (i : In a f.before). All-in (IsRightAlone legs d.rows) f.before a f.right i)
          (λ (i : In a (f.booking ∷ f.behind)). let more = rows_behind f.before f.booking f.behind parts a i in let is = f.is in absurd (omega arith))
          (in_cases f.before (f.booking ∷ f.behind) a (subst (In a) f.parts there))

  -- the bookings before this one are right
  right_before : (k : ℕ) (before : List SaidBooking) (b : SaidBooking) (behind : List SaidBooking) → said ≡ before ++ b ∷ behind → AreChecked d k → Reaches d k b.row → IsBeforeWrong d.wrong b.row ⊎ (d.wrong ≡ Some b.row) → AreRight legs d.rows said before
  right_before k before b behind parts checked reaches first =
      let rise = rw parts at rising in
      All-from_in (IsRight legs d.rows said) before
      (λ a i. let there : In a said = subst (In a) (sym parts) (in_left before (b ∷ behind) a i) in
      let less = rows_before before b behind rise a i in
      record { alone = alone_below b.row first a there less; successor = lines_below k b.row checked reaches a there less })

  -- the first that is wrong by itself is the first wrong one
  pub wrong_itself : (k w : ℕ) → AreChecked d k → Reaches d k w → d.wrong ≡ Some w → IsFirstWrong legs d.rows said w
  wrong_itself k w checked reaches e =
      let f : IsFirstWrongAlone legs d.rows said w = subst (λ (o : Option ℕ). IfSome o (IsFirstWrongAlone legs d.rows said)) e was.wrong in
      record {
        before = f.before;
        booking = f.booking;
        behind = f.behind;
        parts = f.parts;
        right = right_before k f.before f.booking f.behind f.parts checked (subst (Reaches d k) (sym f.is) reaches) (inr (e ∙ ap (λ (n : ℕ). Some n) (sym f.is)));
        wrong = λ right. f.wrong right.alone;
        is = f.is;
      }

  -- or that of the first successor without a line
  pub wrong_successor : (k : ℕ) (x : Follows) → k < length d.follows → AreChecked d k → IsBeforeWrong d.wrong (get_or d.follows k x).row → (HasLineOf d.lines (get_or d.follows k x).successor → ⊥) → IsFirstWrong legs d.rows said (get_or d.follows k x).row
  wrong_successor k x within checked before none =
      let f : Follows = get_or d.follows k x in
      let in_ : In f d.follows = in_of d.follows f (k, within, get_or_default d.follows k f x within) in
      let b = in_follows said f (subst (In f) was.follows in_) in
      let parts = in_parts said b.0 b.1 in
      record {
        before = parts.0;
        booking = b.0;
        behind = parts.1;
        parts = parts.2;
        right = right_before k parts.0 b.0 parts.1 parts.2 checked (subst (Reaches d k) (sym b.2) (reaches_to k f.row x within (omega arith))) (inl (subst (IsBeforeWrong d.wrong) (sym b.2) before));
        wrong = λ right. none (said_line d.lines said f.successor was.lines (subst (λ (o : Option SaidRow). IfSome o (HasLine said)) b.3 right.successor));
        is = b.2;
      }

  -- or all are right
  pub none_wrong : AreChecked d (length d.follows) → d.wrong ≡ None → AreRight legs d.rows said said
  none_wrong checked none =
      All-from_in (IsRight legs d.rows said) said
      (λ a there. record {
        alone = All-in (IsRightAlone legs d.rows) said a (subst (λ (o : Option ℕ). IfNone o (IsDrafted legs d.rows said d)) none was.right).right there;
        successor = lines_below (length d.follows) (a.row + 1) checked (reaches_all (a.row + 1)) a there (omega arith);
      })

  -- successors in their own rows

  owned : (row : ℕ) → OwnsSuccessor said row → (j : ℕ) × (j < length d.follows) × ((x : Follows) → ((get_or d.follows j x).row ≡ row) × ((get_or d.follows j x).successor.row ≡ row))
  owned row own = go own.0.end.successor refl own.3
    where
      go : (o : Option SaidRow) → own.0.end.successor ≡ o → IsSomeAnd o (λ (s : SaidRow). s.row ≡ row) → (j : ℕ) × (j < length d.follows) × ((x : Follows) → ((get_or d.follows j x).row ≡ row) × ((get_or d.follows j x).successor.row ≡ row))
      go None e h = absurd h
      go (Some s) e h =
          let f : Follows = record { row = own.0.row; successor = s } in
          let noted : In f d.follows = subst (In f) (sym was.follows) (follows_in said own.0 s (in_of said own.0 own.1) e) in
          let at = of_in d.follows f noted in
          (at.0, at.1, λ x. let is : get_or d.follows at.0 x ≡ f = get_or_default d.follows at.0 x f at.1 ∙ at.2 in (ap (λ (g : Follows). g.row) is ∙ own.2, ap (λ (g : Follows). g.successor.row) is ∙ h))

  -- none so far is its own
  pub none_own : ((j : ℕ) (x : Follows) → j < length d.follows → (get_or d.follows j x).successor.row ≢ (get_or d.follows j x).row) → (row : ℕ) → ¬ OwnsSuccessor said row
  none_own others row own =
      let j = owned row own in
      let x : Follows = record { row = 0; successor = record { row = 0; generation = 0 } } in
      others j.0 x j.1 ((j.2 x).1 ∙ sym (j.2 x).0)

  pub least_own : (k : ℕ) (x : Follows) → k < length d.follows → (get_or d.follows k x).successor.row ≡ (get_or d.follows k x).row
      → ((j : ℕ) (y : Follows) → j < k → (get_or d.follows j y).successor.row ≢ (get_or d.follows j y).row) → IsLeastOwn said (get_or d.follows k x).row
  least_own k x within own others =
      let f : Follows = get_or d.follows k x in
      let in_ : In f d.follows = in_of d.follows f (k, within, get_or_default d.follows k f x within) in
      let b = in_follows said f (subst (In f) was.follows in_) in (
        (b.0, of_in said b.0 b.1, b.2, subst (λ (o : Option SaidRow). IsSomeAnd o (λ (s : SaidRow). s.row ≡ f.row)) (sym b.3) own),
        λ lower less has.
            let j = owned lower has in
            let before = reaches_to k f.row x within (omega arith) j.0 x j.1 (let e = (j.2 x).0 in omega arith) in
            others j.0 x before ((j.2 x).1 ∙ sym (j.2 x).0),
      )

-- what the loops show

pub checked-more : (d : DraftView) (k : ℕ) (x : Follows) → k < length d.follows → AreChecked d k → HasLineOf d.lines (get_or d.follows k x).successor → IsBeforeWrong d.wrong (get_or d.follows k x).row → AreChecked d (k + 1)
checked-more d k x within checked line before =
    record {
      lines = last_line;
      before = last_before;
    }
  where
    same : (j : ℕ) (y : Follows) → j ≡ k → get_or d.follows k x ≡ get_or d.follows j y
    same j y e = get_or_default d.follows k x y within ∙ ap (λ (n : ℕ). get_or d.follows n y) (sym e)

    last_line : (j : ℕ) (y : Follows) → j < k + 1 → HasLineOf d.lines (get_or d.follows j y).successor
    last_line j y l = ⊎_elim
        (λ (less : j < k). checked.lines j y less)
        (λ (more : k ≤ j). subst (λ (f : Follows). HasLineOf d.lines f.successor) (same j y (omega arith)) line)
        (cases_lt j k)

    last_before : (j : ℕ) (y : Follows) → j < k + 1 → IsBeforeWrong d.wrong (get_or d.follows j y).row
    last_before j y l = ⊎_elim
        (λ (less : j < k). checked.before j y less)
        (λ (more : k ≤ j). subst (λ (f : Follows). IsBeforeWrong d.wrong f.row) (same j y (omega arith)) before)
        (cases_lt j k)

pub wrong_early : (d : DraftView) (o : Option ℕ) (k : ℕ) (x : Follows) → o ≡ d.wrong → k < length d.follows → AreChecked d k → (IsBeforeWrong o (get_or d.follows k x).row → ⊥) → IfSome o (λ row. EachDraft d (λ legs said. IsFirstWrong legs d.rows said row))
wrong_early d None k x e within checked after = absurd (after tt)
wrong_early d (Some w) k x e within checked after =
    let row : ℕ = (get_or d.follows k x).row in
    let le : w ≤ row = ⊎_elim (λ (less : row < w). absurd (after less)) (λ (more : w ≤ row). more) (cases_lt row w) in
    λ legs said was. wrong_itself legs said d was k w checked (reaches_to legs said d was k w x within le) (sym e)

pub wrong_late : (d : DraftView) (o : Option ℕ) → o ≡ d.wrong → AreChecked d (length d.follows) → IfSome o (λ row. EachDraft d (λ legs said. IsFirstWrong legs d.rows said row))
wrong_late d None e checked = tt
wrong_late d (Some w) e checked = λ legs said was. wrong_itself legs said d was (length d.follows) w checked (reaches_all legs said d was w) (sym e)

pub right_late : (d : DraftView) (o : Option ℕ) → o ≡ d.wrong → AreChecked d (length d.follows) → IfNone o (EachDraft d (λ legs said. AreRight legs d.rows said said))
right_late d None e checked = λ legs said was. none_wrong legs said d was checked (sym e)
right_late d (Some w) e checked = tt

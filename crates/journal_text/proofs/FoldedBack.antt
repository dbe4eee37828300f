-- What is written is folded as its own lines.
use Rattle.std.proofs.Common.{◌≡◌, ◌≢◌, ◌⊎◌, inl, inr, ℕ, zero, suc, ◌+◌, ◌^◌, ◌<◌, ◌≤◌, List, [], ◌∷◌, ◌++◌, length, refl, sym, ap, subst, ◌∙◌, arith, append_assoc, append-nil}
use Rattle.std.specs.List.{AllByRecursion}
use Rattle.std.proofs.lemmas.List.{length-append}
use Rattle.history_model.specs.Lists.{Pairwise}
use Rattle.line_text.specs.Lines.{text_of}
use Rattle.journal_text.specs.declared.fault.JournalFault.{JournalFault}
use Rattle.journal_text.specs.declared.fault.JournalFault.TheVariants.{BrokenCut, NoMemory, NotAJournal, WrongLine}
use Rattle.journal_text.specs.Faults.{HasBrokenCut, HasWrongLine, IsJournalFault, StopsAfter}
use Rattle.journal_text.specs.Folds.{FoldView, IsFold, fold_of}
use Rattle.journal_text.specs.Laws.{IsFoldedBack}
use Rattle.journal_text.specs.Texts.{AreLines, Begins, HoldsCut, IsHead, IsJournal, IsRowLine, RowLine, SaidCut, SaidHead, cut_of, cut_text, cuts_text, end_sum, head_text, journal_text, lines_text, own_sum, row_text, sum_after, sum_of}
use Rattle.journal_text.proofs.OneWay.{GoOn, after_form, can_say, prefix_cuts, prefix_lines, same_cut, same_head}
use Rattle.journal_text.proofs.SumForm.{sum_form}

front_all : {A : Type 0} (P : A → Type 0) (xs ys : List A) → AllByRecursion P (xs ++ ys) → AllByRecursion P xs
front_all P [] ys all = tt
front_all P (x ∷ xs) ys all = (all.0, front_all P xs ys all.1)

back_all : {A : Type 0} (P : A → Type 0) (xs ys : List A) → AllByRecursion P (xs ++ ys) → AllByRecursion P ys
back_all P [] ys all = all
back_all P (x ∷ xs) ys all = back_all P xs ys all.1

front_rising : (xs ys : List RowLine) → Pairwise (λ (a b : RowLine). a.row < b.row) (xs ++ ys) → Pairwise (λ (a b : RowLine). a.row < b.row) xs
front_rising [] ys all = tt
front_rising (x ∷ xs) ys all = (front_all (λ (b : RowLine). x.row < b.row) xs ys all.0, front_rising xs ys all.1)

lines_append : (xs ys : List RowLine) → lines_text (xs ++ ys) ≡ lines_text xs ++ lines_text ys
lines_append [] ys = refl
lines_append (x ∷ xs) ys =
    ap (λ (t : List ℕ). (row_text x ++ 10 ∷ []) ++ t) (lines_append xs ys) ∙ sym (append_assoc (row_text x ++ 10 ∷ []) (lines_text xs) (lines_text ys))

-- lines that begin those of a cut are lines of a cut
front_lines : (rows : ℕ) (xs ys : List RowLine) → AreLines rows (xs ++ ys) → AreLines rows xs
front_lines rows xs ys are =
    record {
      each = front_all (IsRowLine rows) xs ys are.each;
      rising = front_rising xs ys are.rising;
      size = (let size = are.size in let len = ap (λ (t : List ℕ). length t) (lines_append xs ys) ∙ length-append (lines_text xs) (lines_text ys) in omega arith);
    }

no_cut : HoldsCut [] → ⊥
no_cut holds = go holds.front holds.is
  where
    go : (front : List ℕ) → [] ≡ front ++ (cut_text holds.cut ++ holds.rest) → ⊥
    go [] e = cc
    go (c ∷ front) e = cc

module _ (h : SaidHead) (cuts : List (List RowLine)) (is : IsHead h) (each : AllByRecursion (AreLines h.rows) cuts) (few : length cuts < 2 ^ 64) where
  abbrev start : SaidHead → List ℕ
  start k = sum_of (head_text k)

  -- another beginning has the same first line, and the cuts go on after its cuts
  known : (k : SaidHead) (others : List (List RowLine)) (rest : List ℕ) → Begins (journal_text h cuts) k others rest → (h ≡ k) × GoOn 1 (sum_of (head_text k)) cuts others rest
  known k others rest b =
      let s = same_head h k (cuts_text 1 (start h) cuts) (cuts_text 1 (start k) others ++ rest) is b.head (b.is ∙ append_assoc (head_text k) (cuts_text 1 (start k) others) rest) in
      let lines : AllByRecursion (AreLines k.rows) cuts = subst (λ (z : SaidHead). AllByRecursion (AreLines z.rows) cuts) s.0 each in
      let many = b.few in (
        s.0,
        prefix_cuts k.rows 1 (start k) cuts others rest b.head.rows (sum_form _) (omega arith) (omega arith) lines b.each
            (ap (λ (z : SaidHead). cuts_text 1 (start z) cuts) (sym s.0) ∙ s.1),
      )

  -- the next cut, where the cuts go on
  module _ (k : SaidHead) (others : List (List RowLine)) (c : List RowLine) (more : List (List RowLine)) (same : h ≡ k) (parts : cuts ≡ others ++ (c ∷ more)) where
    next : SaidCut
    next = cut_of (1 + length others) (sum_after 1 (sum_of (head_text k)) others) c

    lines_next : AreLines k.rows c
    lines_next =
        (back_all (AreLines k.rows) others (c ∷ more) (subst (AllByRecursion (AreLines k.rows)) parts
        (subst (λ (z : SaidHead). AllByRecursion (AreLines z.rows) cuts) same each))).0

  next_fits : (others : List (List RowLine)) (c : List RowLine) (more : List (List RowLine)) → cuts ≡ others ++ (c ∷ more) → 1 + length others < 2 ^ 64
  next_fits others c more parts =
      let len = ap (λ (z : List (List RowLine)). length z) parts ∙ length-append others (c ∷ more) in
      let tail : length (c ∷ more) ≡ suc (length more) = refl in
      omega arith

  folded_same : (view : FoldView) → IsFold (journal_text h cuts) view → view ≡ fold_of h cuts
  folded_same view f =
      let g = known f.head f.cuts f.rest f.is.begins in
      go g.0 g.1.0 g.1.1 g.1.2
    where
      go : h ≡ f.head → (more : List (List RowLine)) → cuts ≡ f.cuts ++ more → f.rest ≡ cuts_text (1 + length f.cuts) (sum_after 1 (sum_of (head_text f.head)) f.cuts) more → view ≡ fold_of h cuts
      go same [] parts rest =
          let all : f.cuts ≡ cuts = sym (parts ∙ append-nil f.cuts) in
          f.fold ∙ (λ j. fold_of (sym same j) (all j))
      go same (c ∷ more) parts rest =
          absurd (f.is.torn (record {
            front = [];
            cut = cut_of (1 + length f.cuts) (sum_after 1 (sum_of (head_text f.head)) f.cuts) c;
            rest = _;
            said = can_say _ _ f.head.rows c (next_fits f.cuts c more parts) (after_form 1 (sum_of (head_text f.head)) f.cuts (sum_form _)) (lines_next f.head f.cuts c more same parts);
            is = rest;
          }))

  no_broken : (cut : ℕ) → HasBrokenCut (journal_text h cuts) cut → ⊥
  no_broken cut w =
      let g = known w.head w.cuts w.rest w.begins in
      go g.0 g.1.0 g.1.1 g.1.2
    where
      go : h ≡ w.head → (more : List (List RowLine)) → cuts ≡ w.cuts ++ more → w.rest ≡ cuts_text (1 + length w.cuts) (sum_after 1 (sum_of (head_text w.head)) w.cuts) more → ⊥
      go same [] parts rest = no_cut (subst HoldsCut rest w.holds)
      go same (c ∷ more) parts rest =
          let number : 1 + length w.cuts ≡ length w.cuts + 1 = omega arith in
          w.broken (cut_of (1 + length w.cuts) (sum_after 1 (sum_of (head_text w.head)) w.cuts) c) _
          (can_say _ _ w.head.rows c (next_fits w.cuts c more parts) (after_form 1 (sum_of (head_text w.head)) w.cuts (sum_form _)) (lines_next w.head w.cuts c more same parts))
          (record { number = number; before = refl }) rest

  no_wrong : (cut line : ℕ) → HasWrongLine (journal_text h cuts) cut line → ⊥
  no_wrong cut line w =
      let g = known w.head w.cuts w.rest w.begins in
      go g.0 g.1.0 g.1.1 g.1.2
    where
      stop : (c zs : List RowLine) → AreLines w.head.rows c → w.wrong.count ≡ length c → c ≡ w.lines ++ zs → w.left ≡ lines_text zs → StopsAfter w.head.rows w.wrong w.lines w.left → ⊥
      stop c [] are count parts left (inl (whole, some)) = some left
      stop c (z ∷ zs) are count parts left (inl (whole, some)) =
          let len = ap (λ (l : List RowLine). length l) parts ∙ length-append w.lines (z ∷ zs) in
          let tail : length (z ∷ zs) ≡ suc (length zs) = refl in
          omega arith
      stop c [] are count parts left (inr (fewer, none)) =
          let len = ap (λ (l : List RowLine). length l) (parts ∙ append-nil w.lines) in omega arith
      stop c (z ∷ zs) are count parts left (inr (fewer, none)) =
          let shape : c ≡ (w.lines ++ z ∷ []) ++ zs = parts ∙ sym (append_assoc w.lines (z ∷ []) zs) in
          none z (lines_text zs) (front_lines w.head.rows (w.lines ++ z ∷ []) zs (subst (AreLines w.head.rows) shape are))
          (left ∙ ap (λ (t : List ℕ). t ++ lines_text zs) (sym (append-nil (row_text z ++ 10 ∷ []))))

      go : h ≡ w.head → (more : List (List RowLine)) → cuts ≡ w.cuts ++ more → w.rest ≡ cuts_text (1 + length w.cuts) (sum_after 1 (sum_of (head_text w.head)) w.cuts) more → ⊥
      go same [] parts rest = let e : [] ≡ cut_text w.wrong ++ w.more = sym rest ∙ w.next in cc
      go same (c ∷ more) parts rest =
          let are = lines_next w.head w.cuts c more same parts in
          let s = same_cut (cut_of (1 + length w.cuts) (sum_after 1 (sum_of (head_text w.head)) w.cuts) c) w.wrong _ w.more
          (can_say _ _ w.head.rows c (next_fits w.cuts c more parts) (after_form 1 (sum_of (head_text w.head)) w.cuts (sum_form _)) are) w.said (sym rest ∙ w.next) in
          let body : lines_text c ≡ lines_text w.lines ++ w.left = ap (λ (z : SaidCut). z.body) s.0 ∙ w.parts in
          let r = prefix_lines w.head.rows c w.lines w.left w.begins.head.rows are.each w.right.each body in
          stop c r.0 are (sym (ap (λ (z : SaidCut). z.count) s.0)) r.1 r.2 w.stops

  accepts : (fault : JournalFault) → IsJournalFault (journal_text h cuts) fault → fault ≡ NoMemory
  accepts NotAJournal never = absurd (never h (cuts_text 1 (sum_of (head_text h)) cuts) is refl)
  accepts (WrongLine cut line) w = absurd (no_wrong cut line w)
  accepts (BrokenCut cut) w = absurd (no_broken cut w)
  accepts NoMemory w = refl

  pub folded_back : IsFoldedBack (journal_text h cuts) h cuts
  folded_back =
      record {
        is = record {
          begins = record { head = is; each = each; few = few; is = sym (append-nil (journal_text h cuts)) };
          torn = no_cut;
        };
        only = folded_same;
        accepted = accepts;
      }

-- A text is a journal in one way alone.
use Rattle.std.proofs.Common.{◌≡◌, ℕ, zero, suc, ◌+◌, ◌^◌, ◌<◌, ◌≤◌, List, [], ◌∷◌, ◌++◌, codes, decimal, length, map, refl, sym, ap, subst, ◌∙◌, arith, append_assoc, append-nil}
use Rattle.std.specs.List.{AllByRecursion}
use Rattle.std.proofs.lemmas.List.{append_cancel_left, length-append}
use Rattle.history_model.specs.Booking.{most_rows}
use Rattle.line_text.specs.Lines.{IsNumber, field, number_field, text_of}
use Rattle.line_text.specs.Reads.{IsCut}
use Rattle.line_text.proofs.Numbers.{same_number}
use Rattle.journal_text.specs.Reads.{said_opening_text}
use Rattle.journal_text.specs.Texts.{AreLines, HasSumForm, IsHead, IsRowLine, IsSaidCut, RowLine, SaidCut, SaidHead, cut_of, cut_text, cuts_text, head_text, lines_text, own_sum, row_text, sum_after}
use Rattle.journal_text.proofs.CutRead.{end_of, opening_of, parts_of}
use Rattle.journal_text.proofs.LineRead.{same_line}
use Rattle.journal_text.proofs.SumForm.{sum_form}

same_field : (m n : ℕ) (x y : List ℕ) → m < 2 ^ 64 → n < 2 ^ 64 → IsCut x → IsCut y → number_field m ++ x ≡ number_field n ++ y → (m ≡ n) × (x ≡ y)
same_field m n x y fm fn cx cy e = same_number m n x y fm fn cx cy (append_cancel_left (32 ∷ []) (decimal m ++ x) (decimal n ++ y) e)

same_parts : (a b x y : List ℕ) → length a ≡ length b → a ++ x ≡ b ++ y → (a ≡ b) × (x ≡ y)
same_parts [] [] x y long e = (refl, e)
same_parts [] (c ∷ b) x y long e = absurd (omega arith)
same_parts (d ∷ a) [] x y long e = absurd (omega arith)
same_parts (d ∷ a) (c ∷ b) x y long e =
    let first : d ≡ c = cc in
    let l : length (d ∷ a) ≡ length (c ∷ b) = long in
    let r = same_parts a b x y (omega arith) (let t : a ++ x ≡ b ++ y = cc in t) in
    ((λ j. first j ∷ r.0 j), r.1)

-- the first line

head_parts : (h : SaidHead) (x : List ℕ) → head_text h ++ x ≡ codes "rail-journal 1" ++ (number_field h.places ++ (number_field h.rows ++ (32 ∷ (h.print ++ (10 ∷ x)))))
head_parts h x = simp append_assoc

pub same_head : (h k : SaidHead) (x y : List ℕ) → IsHead h → IsHead k → head_text h ++ x ≡ head_text k ++ y → (h ≡ k) × (x ≡ y)
same_head h k x y p q e =
    let e1 = append_cancel_left (codes "rail-journal 1") (number_field h.places ++ (number_field h.rows ++ (32 ∷ (h.print ++ (10 ∷ x)))))
    (number_field k.places ++ (number_field k.rows ++ (32 ∷ (k.print ++ (10 ∷ y))))) (sym (head_parts h x) ∙ (e ∙ head_parts k y)) in
    let a = same_field h.places k.places (number_field h.rows ++ (32 ∷ (h.print ++ (10 ∷ x)))) (number_field k.rows ++ (32 ∷ (k.print ++ (10 ∷ y)))) p.places q.places refl refl e1 in
    let hr : h.rows < 2 ^ 64 = small h.rows p.rows in
    let kr : k.rows < 2 ^ 64 = small k.rows q.rows in
    let b = same_field h.rows k.rows (32 ∷ (h.print ++ (10 ∷ x))) (32 ∷ (k.print ++ (10 ∷ y))) hr kr refl refl a.1 in
    let c = same_parts h.print k.print (10 ∷ x) (10 ∷ y) (p.print.0 ∙ sym q.print.0) (append_cancel_left (32 ∷ []) (h.print ++ (10 ∷ x)) (k.print ++ (10 ∷ y)) b.1) in
    ((λ j. record { places = a.0 j; rows = b.0 j; print = c.0 j }), append_cancel_left (10 ∷ []) x y c.1)
  where
    small : (n : ℕ) → n ≤ most_rows → n < 2 ^ 64
    small n l = omega arith

-- a cut

opening_parts : (c : SaidCut) (x : List ℕ) → said_opening_text (opening_of c) ++ x ≡ codes "cut" ++ (number_field c.number ++ (number_field c.count ++ (number_field (length c.body) ++ (32 ∷ (c.before ++ (10 ∷ x))))))
opening_parts c x = simp append_assoc

pub same_cut : (c d : SaidCut) (x y : List ℕ) → IsSaidCut c → IsSaidCut d → cut_text c ++ x ≡ cut_text d ++ y → (c ≡ d) × (x ≡ y)
same_cut c d x y p q e =
    let u = c.body ++ (end_of c ++ x) in
    let v = d.body ++ (end_of d ++ y) in
    let e1 = append_cancel_left (codes "cut") (number_field c.number ++ (number_field c.count ++ (number_field (length c.body) ++ (32 ∷ (c.before ++ (10 ∷ u))))))
    (number_field d.number ++ (number_field d.count ++ (number_field (length d.body) ++ (32 ∷ (d.before ++ (10 ∷ v))))))
    (sym (parts_of c x ∙ opening_parts c u) ∙ (e ∙ (parts_of d y ∙ opening_parts d v))) in
    let n = same_field c.number d.number (number_field c.count ++ (number_field (length c.body) ++ (32 ∷ (c.before ++ (10 ∷ u))))) (number_field d.count ++ (number_field (length d.body) ++ (32 ∷ (d.before ++ (10 ∷ v)))))
    p.number q.number refl refl e1 in
    let m = same_field c.count d.count (number_field (length c.body) ++ (32 ∷ (c.before ++ (10 ∷ u)))) (number_field (length d.body) ++ (32 ∷ (d.before ++ (10 ∷ v)))) p.count q.count refl refl n.1 in
    let k = same_field (length c.body) (length d.body) (32 ∷ (c.before ++ (10 ∷ u))) (32 ∷ (d.before ++ (10 ∷ v))) p.size q.size refl refl m.1 in
    let b = same_parts c.before d.before (10 ∷ u) (10 ∷ v) (p.before.0 ∙ sym q.before.0) (append_cancel_left (32 ∷ []) (c.before ++ (10 ∷ u)) (d.before ++ (10 ∷ v)) k.1) in
    let body = same_parts c.body d.body (end_of c ++ x) (end_of d ++ y) k.0 (append_cancel_left (10 ∷ []) u v b.1) in
    let same : c ≡ d = λ j. record { number = n.0 j; count = m.0 j; before = b.0 j; body = body.0 j } in
    (same, append_cancel_left (end_of c) x y (body.1 ∙ ap (λ (z : SaidCut). end_of z ++ y) (sym same)))

-- lines

row_parts : (l : RowLine) (x : List ℕ) → (row_text l ++ 10 ∷ []) ++ x ≡ codes "row" ++ (number_field l.row ++ (32 ∷ (l.more ++ (10 ∷ x))))
row_parts l x = simp append_assoc

same_row : (rows : ℕ) (l k : RowLine) (x y : List ℕ) → rows ≤ most_rows → IsRowLine rows l → IsRowLine rows k → (row_text l ++ 10 ∷ []) ++ x ≡ (row_text k ++ 10 ∷ []) ++ y → (l ≡ k) × (x ≡ y)
same_row rows l k x y few p q e =
    let e1 = append_cancel_left (codes "row") (number_field l.row ++ (32 ∷ (l.more ++ (10 ∷ x)))) (number_field k.row ++ (32 ∷ (k.more ++ (10 ∷ y)))) (sym (row_parts l x) ∙ (e ∙ row_parts k y)) in
    let a = same_field l.row k.row (32 ∷ (l.more ++ (10 ∷ x))) (32 ∷ (k.more ++ (10 ∷ y))) (small l.row p.row few) (small k.row q.row few) refl refl e1 in
    let b = same_line l.more k.more x y p.line q.line (append_cancel_left (32 ∷ []) (l.more ++ (10 ∷ x)) (k.more ++ (10 ∷ y)) a.1) in
    ((λ j. record { row = a.0 j; more = b.0 j }), b.1)
  where
    small : (n : ℕ) → n < rows → rows ≤ most_rows → n < 2 ^ 64
    small n l m = omega arith

-- lines that begin a text of lines begin them
pub prefix_lines : (rows : ℕ) (xs ys : List RowLine) (left : List ℕ) → rows ≤ most_rows → AllByRecursion (IsRowLine rows) xs → AllByRecursion (IsRowLine rows) ys → lines_text xs ≡ lines_text ys ++ left
    → (zs : List RowLine) × (xs ≡ ys ++ zs) × (left ≡ lines_text zs)
prefix_lines rows xs [] left few p q e = (xs, refl, sym e)
prefix_lines rows [] (y ∷ ys) left few p q e = absurd cc
prefix_lines rows (x ∷ xs) (y ∷ ys) left few p q e =
    let s = same_row rows x y (lines_text xs) (lines_text ys ++ left) few p.0 q.0 (e ∙ append_assoc (row_text y ++ 10 ∷ []) (lines_text ys) left) in
    let r = prefix_lines rows xs ys left few p.1 q.1 s.1 in
    (r.0, (λ j. s.0 j ∷ r.1 j), r.2)

no_lines : (zs : List RowLine) → [] ≡ lines_text zs → zs ≡ []
no_lines [] e = refl
no_lines (z ∷ zs) e = absurd cc

same_lines : (rows : ℕ) (xs ys : List RowLine) → rows ≤ most_rows → AllByRecursion (IsRowLine rows) xs → AllByRecursion (IsRowLine rows) ys → lines_text xs ≡ lines_text ys → xs ≡ ys
same_lines rows xs ys few p q e =
    let r = prefix_lines rows xs ys [] few p q (e ∙ sym (append-nil (lines_text ys))) in
    r.1 ∙ (ap (λ (zs : List RowLine). ys ++ zs) (no_lines r.0 r.2) ∙ append-nil ys)

-- cuts

few_lines : (xs : List RowLine) → length xs ≤ length (lines_text xs)
few_lines [] = omega arith
few_lines (x ∷ xs) =
    let few = few_lines xs in
    let len = length-append (row_text x ++ 10 ∷ []) (lines_text xs) in
    let one = length-append (row_text x) (10 ∷ []) in
    omega arith

pub can_say : (n : ℕ) (b : List ℕ) (rows : ℕ) (lines : List RowLine) → n < 2 ^ 64 → HasSumForm b → AreLines rows lines → IsSaidCut (cut_of n b lines)
can_say n b rows lines fits form are =
    record { number = fits; count = (let few = few_lines lines in let size = are.size in omega arith); size = are.size; before = form }

pub after_form : (n : ℕ) (b : List ℕ) (cuts : List (List RowLine)) → HasSumForm b → HasSumForm (sum_after n b cuts)
after_form n b [] form = form
after_form n b (lines ∷ cuts) form = after_form (n + 1) (own_sum (cut_of n b lines)) cuts (sum_form _)

-- the cuts go on after these, and that is the rest
abbrev pub GoOn : ℕ → List ℕ → List (List RowLine) → List (List RowLine) → List ℕ → Type 0
GoOn n b cuts known rest =
    (more : List (List RowLine)) × (cuts ≡ known ++ more) × (rest ≡ cuts_text (n + length known) (sum_after n b known) more)

pub prefix_cuts : (rows n : ℕ) (b : List ℕ) (cuts known : List (List RowLine)) (rest : List ℕ) → rows ≤ most_rows → HasSumForm b → n + length cuts ≤ 2 ^ 64 → n + length known ≤ 2 ^ 64
    → AllByRecursion (AreLines rows) cuts → AllByRecursion (AreLines rows) known → cuts_text n b cuts ≡ cuts_text n b known ++ rest → GoOn n b cuts known rest
prefix_cuts rows n b cuts [] rest few form fits fit each all e =
    (cuts, refl, sym e ∙ ap (λ (k : ℕ). cuts_text k b cuts) (let z : n ≡ n + 0 = omega arith in z))
prefix_cuts rows n b [] (k ∷ known) rest few form fits fit each all e = absurd cc
prefix_cuts rows n b (c ∷ cuts) (k ∷ known) rest few form fits fit each all e =
    let own = own_sum (cut_of n b c) in
    let its = own_sum (cut_of n b k) in
    let s = same_cut (cut_of n b c) (cut_of n b k) (cuts_text (n + 1) own cuts) (cuts_text (n + 1) its known ++ rest)
    (can_say n b rows c (omega arith) form each.0) (can_say n b rows k (omega arith) form all.0)
    (e ∙ append_assoc (cut_text (cut_of n b k)) (cuts_text (n + 1) its known) rest) in
    let lines : c ≡ k = same_lines rows c k few each.0.each all.0.each (ap (λ (z : SaidCut). z.body) s.0) in
    let sums : own ≡ its = ap (λ (z : List RowLine). own_sum (cut_of n b z)) lines in
    let r = prefix_cuts rows (n + 1) own cuts known rest few (sum_form _) (omega arith) (omega arith) each.1 all.1
    (s.1 ∙ ap (λ (z : List ℕ). cuts_text (n + 1) z known ++ rest) (sym sums)) in
    let count : (n + 1) + length known ≡ n + suc (length known) = omega arith in (
      r.0,
      (λ j. lines j ∷ r.1 j),
      r.2 ∙ (λ j. cuts_text (count j) (sum_after (n + 1) (sums j) known) r.0),
    )

-- The lines of a cut, put one by one.
use Rattle.std.proofs.Common.{◌≡◌, ◌≢◌, ℕ, ◌+◌, ◌*◌, ◌==◌, ◌<◌, ◌≤◌, Bool, true, false, List, [], ◌∷◌, ◌++◌, Some, None, filter, length, option_map, slice_set, inl, inr, refl, sym, ap, subst, ◌∙◌, arith, append_assoc, append-nil}
use Rattle.std.proofs.lemmas.List.{get_or-set_other, get_or-set_same, length-append, length-set}
use Rattle.std.proofs.lemmas.Bool.Decides.{nat_tests}
use Rattle.std.specs.List.{AllByRecursion}
use Rattle.std.specs.Borrow.{Bor}
use Rattle.history_model.specs.Lists.{Pairwise}
use Rattle.line_text.specs.Lines.{IsNumber, text_of}
use Rattle.journal_text.specs.Folds.{last_of, line_of}
use Rattle.journal_text.specs.declared.lines.Line.{Line}
use Rattle.journal_text.specs.Reads.{IsAnyLine, IsLineOf}
use Rattle.journal_text.specs.Rooms.{IsTable, IsWrongIn, PutsLines, ReadsBetween, Table, fed, shown}
use Rattle.journal_text.specs.Texts.{AreLines, IsRowLine, RowLine, SaidCut, lines_text, row_text}

-- lists with one more at the end

pub lines_both : (a b : List RowLine) → lines_text (a ++ b) ≡ lines_text a ++ lines_text b
lines_both [] b = refl
lines_both (l ∷ a) b = ap (λ (x : List ℕ). fed l ++ x) (lines_both a b) ∙ sym (append_assoc (fed l) (lines_text a) (lines_text b))

pub each_more : (P : RowLine → Type 0) (a : List RowLine) (l : RowLine) → AllByRecursion P a → P l → AllByRecursion P (a ++ l ∷ [])
each_more P [] l h p = (p, tt)
each_more P (x ∷ a) l h p = (h.0, each_more P a l h.1 p)

pub each_first : (P : RowLine → Type 0) (a : List RowLine) (l : RowLine) → AllByRecursion P (a ++ l ∷ []) → AllByRecursion P a × P l
each_first P [] l h = (tt, h.0)
each_first P (x ∷ a) l h = let r = each_first P a l h.1 in ((h.0, r.0), r.1)

last_is : (a : List RowLine) (l : RowLine) → last_of (a ++ l ∷ []) ≡ Some l
last_is [] l = refl
last_is (x ∷ []) l = refl
last_is (x ∷ (y ∷ a)) l = last_is (y ∷ a) l

abbrev of_row : ℕ → List RowLine → List RowLine
of_row row lines = filter (λ (l : RowLine). l.row == row) lines

filter_more : (row : ℕ) (x : RowLine) (a b : List RowLine) → of_row row (a ++ b) ≡ of_row row a ++ of_row row b → (t : Bool) → (x.row == row) ≡ t → of_row row ((x ∷ a) ++ b) ≡ of_row row (x ∷ a) ++ of_row row b
filter_more row x a b same true is = rw is (ap (λ (y : List RowLine). x ∷ y) same)
filter_more row x a b same false is = rw is same

filter_both : (row : ℕ) (a b : List RowLine) → of_row row (a ++ b) ≡ of_row row a ++ of_row row b
filter_both row [] b = refl
filter_both row (x ∷ a) b = filter_more row x a b (filter_both row a b) (x.row == row) refl

-- the last line of a row, with one line more

pub own_line : (seen : List RowLine) (l : RowLine) → line_of (seen ++ l ∷ []) l.row ≡ Some l
own_line seen l =
    let own : of_row l.row (l ∷ []) ≡ l ∷ [] = let t : (l.row == l.row) ≡ true = grind (arith, nat_tests) in rw t refl in
    ap (λ (x : List RowLine). last_of x) (filter_both l.row seen (l ∷ []) ∙ ap (λ (x : List RowLine). of_row l.row seen ++ x) own)
    ∙ last_is (of_row l.row seen) l

pub other_line : (seen : List RowLine) (l : RowLine) (row : ℕ) → l.row ≢ row → line_of (seen ++ l ∷ []) row ≡ line_of seen row
other_line seen l row other =
    let none : of_row row (l ∷ []) ≡ [] = let t : (l.row == row) ≡ false = grind (arith, nat_tests) in rw t refl in
    ap (λ (x : List RowLine). last_of x)
    (filter_both row seen (l ∷ []) ∙ (ap (λ (x : List RowLine). of_row row seen ++ x) none ∙ append-nil (of_row row seen)))

-- the first lines of a cut are in their places, and were put in the table. The next has at least this row
pub record IsPut (old now : Table) (c : SaidCut) (left : List ℕ) (least count : ℕ) : Type 0 where
  pub lines : List RowLine
  pub are : AreLines (length old) lines
  pub body : c.body ≡ lines_text lines ++ left
  pub counted : count ≡ length lines
  pub most : count ≤ c.count
  pub above : AllByRecursion (λ (l : RowLine). l.row < least) lines
  pub bound : (next : RowLine) → AreLines (length old) (lines ++ next ∷ []) → least ≤ next.row
  pub room : 2 * length lines + length left ≤ length c.body
  pub same : length now ≡ length old
  pub table : (seen : List RowLine) → IsTable seen old → IsTable (seen ++ lines) now

pub at_start : (old : Table) (c : SaidCut) → IsPut old old c c.body 0 0
at_start old c =
    record {
      lines = [];
      are = record { each = tt; rising = tt; size = omega arith };
      body = refl;
      counted = refl;
      most = omega arith;
      above = tt;
      bound = λ next h. omega arith;
      room = omega arith;
      same = refl;
      table = λ seen h. subst (λ (x : List RowLine). IsTable x old) (sym (append-nil seen)) h;
    }

-- the table with one line more

step_at : (seen : List RowLine) (table : Table) (l : RowLine) (b : Bor (List ℕ)) → IsTable seen table → l.row < length table → b.now ≡ fed l → (row : ℕ) → row < length table → (t : Bool) → (l.row == row) ≡ t → shown (slice_set table l.row (Some b)) row ≡ option_map fed (line_of (seen ++ l ∷ []) row)
step_at seen table l b t below is row h true same =
    let e : row ≡ l.row = grind (arith, nat_tests) in
    rw (e, get_or-set_same table l.row (Some b) None below, own_line seen l, is) refl
step_at seen table l b t below is row h false other =
    let e : l.row ≢ row = λ s. grind (arith, nat_tests) in
    let f : row ≢ l.row = λ s. e (sym s) in
    rw (get_or-set_other table l.row row (Some b) None f, other_line seen l row e) (t row h)

pub table_step : (seen : List RowLine) (table : Table) (l : RowLine) (b : Bor (List ℕ)) → IsTable seen table → l.row < length table → b.now ≡ fed l → (row : ℕ) → row < length table → shown (slice_set table l.row (Some b)) row ≡ option_map fed (line_of (seen ++ l ∷ []) row)
table_step seen table l b t below is row h = step_at seen table l b t below is row h (l.row == row) refl

-- rising rows

abbrev Rises : List RowLine → Type 0
Rises lines = Pairwise (λ (a b : RowLine). a.row < b.row) lines

pub rises_more : (a : List RowLine) (l : RowLine) → Rises a → AllByRecursion (λ (x : RowLine). x.row < l.row) a → Rises (a ++ l ∷ [])
rises_more [] l r h = (tt, tt)
rises_more (x ∷ a) l r h = (each_more (λ (y : RowLine). x.row < y.row) a l r.0 h.0, rises_more a l r.1 h.1)

pub rises_last : (a : List RowLine) (l next : RowLine) → Rises ((a ++ l ∷ []) ++ next ∷ []) → l.row < next.row
rises_last [] l next r = r.0.0
rises_last (x ∷ a) l next r = rises_last a l next r.1

pub below_more : (a : List RowLine) (m n : ℕ) → m ≤ n → AllByRecursion (λ (x : RowLine). x.row < m) a → AllByRecursion (λ (x : RowLine). x.row < n) a
below_more [] m n le h = tt
below_more (x ∷ a) m n le h = (omega arith, below_more a m n le h.1)

one_text : (l : RowLine) → lines_text (l ∷ []) ≡ fed l
one_text l = append-nil (fed l)

long_enough : (l : RowLine) → 2 ≤ length (fed l)
long_enough l = omega arith

pub put_step : (old now : Table) (c : SaidCut) (left new : List ℕ) (least count : ℕ) (line : Line) → IsPut old now c left least count → IsNumber (length c.body) → count < c.count → (l : RowLine) → IsAnyLine l → IsLineOf l line → left ≡ line.text.now ++ new → least ≤ line.row → line.row < length now → IsPut old (slice_set now line.row (Some line.text)) c new (line.row + 1) (count + 1)
put_step old now c left new least count line p size more l any of is low high =
    let row : line.row ≡ l.row = of.0 in
    let same = p.same in
    let inside : l.row < length old = omega arith in
    let text : line.text.now ≡ fed l = of.1 in
    let all : lines_text (p.lines ++ l ∷ []) ≡ lines_text p.lines ++ fed l =
    lines_both p.lines (l ∷ []) ∙ ap (λ (x : List ℕ). lines_text p.lines ++ x) (one_text l) in
    let body : c.body ≡ lines_text (p.lines ++ l ∷ []) ++ new =
    p.body
    ∙ (ap (λ (x : List ℕ). lines_text p.lines ++ x) (is ∙ ap (λ (x : List ℕ). x ++ new) text)
    ∙ (sym (append_assoc (lines_text p.lines) (fed l) new) ∙ ap (λ (x : List ℕ). x ++ new) (sym all))) in
    let whole = ap (λ (x : List ℕ). length x) body ∙ length-append (lines_text (p.lines ++ l ∷ [])) new in
    let many = length-append p.lines (l ∷ []) in
    let taken = ap (λ (x : List ℕ). length x) (is ∙ ap (λ (x : List ℕ). x ++ new) text) ∙ length-append (fed l) new in
    let long = long_enough l in
    let room = p.room in
    let counted = p.counted in
    record {
      lines = p.lines ++ l ∷ [];
      are = record {
        each = each_more (IsRowLine (length old)) p.lines l p.are.each (record { row = inside; line = any.line });
        rising = rises_more p.lines l p.are.rising (below_more p.lines least l.row (omega arith) p.above);
        size = omega arith;
      };
      body = body;
      counted = omega arith;
      most = omega arith;
      above = each_more (λ (x : RowLine). x.row < line.row + 1) p.lines l (below_more p.lines least (line.row + 1) (omega arith) p.above) (omega arith);
      bound = λ next h. let r = rises_last p.lines l next h.rising in omega arith;
      room = omega arith;
      same = length-set now line.row (Some line.text) ∙ same;
      table = λ seen h.
          let before = p.table seen h in
          let step = table_step (seen ++ p.lines) now l line.text before (omega arith) text in
          λ k below. rw (row, ← append_assoc seen p.lines (l ∷ [])) (step k (subst (λ (x : ℕ). k < x) (length-set now line.row (Some line.text)) below));
    }

pub next_is : (left : List ℕ) (next : RowLine) (more : List ℕ) → left ≡ text_of (row_text next ∷ []) ++ more → left ≡ row_text next ++ 10 ∷ more
next_is left next more at =
    at ∙ (ap (λ (x : List ℕ). x ++ more) (append-nil (fed next)) ∙ append_assoc (row_text next) (10 ∷ []) more)

pub no_line : (old now : Table) (c : SaidCut) (left new : List ℕ) (least count : ℕ) → IsPut old now c left least count → IsNumber (length old) → count < c.count → ReadsBetween least (length now) left new None → IsWrongIn (length old) c c.number (count + 1)
no_line old now c left new least count p size more r =
    let same = p.same in
    let counted = p.counted in
    record {
      is = refl;
      lines = p.lines;
      left = left;
      right = p.are;
      parts = p.body;
      stops = inr
          ((
            omega arith,
            λ next rest are at.
                let last = (each_first (IsRowLine (length old)) p.lines next are.each).1 in
                let inside = last.row in
                absurd (r.only next rest (record { row = omega arith; line = last.line }) (p.bound next are) (omega arith) (next_is left next rest at)).0,
          ));
      counted = omega arith;
    }

pub too_many : (old now : Table) (c : SaidCut) (left : List ℕ) (least count : ℕ) → IsPut old now c left least count → (count < c.count → ⊥) → left ≢ [] → IsWrongIn (length old) c c.number (count + 1)
too_many old now c left least count p most some =
    let counted = p.counted in
    let at_most = p.most in
    record {
      is = refl;
      lines = p.lines;
      left = left;
      right = p.are;
      parts = p.body;
      stops = inl ((omega arith, some));
      counted = omega arith;
    }

pub all_put : (old now : Table) (c : SaidCut) (left : List ℕ) (least count : ℕ) → IsPut old now c left least count → (count < c.count → ⊥) → left ≡ [] → PutsLines old c now
all_put old now c left least count p most none =
    let counted = p.counted in
    let at_most = p.most in
    record {
      lines = p.lines;
      are = p.are;
      count = omega arith;
      body = p.body ∙ (ap (λ (x : List ℕ). lines_text p.lines ++ x) none ∙ append-nil (lines_text p.lines));
      table = p.table;
    }

-- A line of a row, read.
use Rattle.std.proofs.Common.{◌≡◌, ◌≢◌, ℕ, zero, suc, ◌+◌, ◌-◌, ◌==◌, ◌<◌, ◌≤◌, true, List, [], ◌∷◌, ◌++◌, codes, get_or, length, take, drop, Some, None, refl, sym, ap, subst, ◌∙◌, arith, append_assoc}
use Rattle.std.proofs.lemmas.List.{append_cancel_left}
use Rattle.std.proofs.lemmas.Bool.Decides.{nat_tests}
use Rattle.line_text.specs.Lines.{IsLine, IsNumber, field, number_field}
use Rattle.line_text.specs.Reads.{Eats, Reads}
use Rattle.journal_text.specs.declared.lines.Line.{Line}
use Rattle.journal_text.specs.Texts.{RowLine, row_text}
use Rattle.journal_text.specs.Reads.{IsAnyLine, ReadsLine}
use Rattle.journal_text.proofs.Splits.{before_rest, length_of}

abbrev pub IsFeed : List ℕ → ℕ → Type 0
IsFeed text k = (get_or text k 0 == 10) ≡ true

-- up to the first line feed there is a line
pub line_at : (text : List ℕ) (e : ℕ) → e < length text → ((k : ℕ) → k < e → ¬ IsFeed text k) → IsFeed text e → IsLine (take e text) × (text ≡ take e text ++ 10 ∷ drop (e + 1) text)
line_at [] e h none feed = absurd (omega arith)
line_at (x ∷ text) zero h none feed = (tt, let is : x ≡ 10 = grind (arith, nat_tests) in ap (λ (y : ℕ). y ∷ text) is)
line_at (x ∷ text) (suc e) h none feed =
    let first : x ≢ 10 = λ is. none 0 (omega arith) (rw is refl) in
    let r = line_at text e (omega arith) (λ k l. none (suc k) (omega arith)) feed in
    let one : suc e + 1 ≡ suc (e + 1) = omega arith in
    ((first, r.0), rw one (ap (λ (y : List ℕ). x ∷ y) r.1))

-- where a line ends, the first line feed is
pub ends_at : (line rest : List ℕ) → IsLine line → ((k : ℕ) → k < length line → ¬ IsFeed (line ++ 10 ∷ rest) k) × IsFeed (line ++ 10 ∷ rest) (length line)
ends_at [] rest is = (λ k h. absurd (omega arith), refl)
ends_at (x ∷ line) rest is =
    let r = ends_at line rest is.1 in
    (λ k. match_of x line rest is k r.0, r.1)
  where
    match_of : (x : ℕ) (line rest : List ℕ) → IsLine (x ∷ line) → (k : ℕ) → ((k : ℕ) → k < length line → ¬ IsFeed (line ++ 10 ∷ rest) k) → k < length (x ∷ line) → ¬ IsFeed (x ∷ (line ++ 10 ∷ rest)) k
    match_of x line rest is zero none h feed = is.0 (grind (arith, nat_tests))
    match_of x line rest is (suc k) none h feed = none k (omega arith) feed

-- a line and what stands after it are known from the text
pub same_line : (a b x y : List ℕ) → IsLine a → IsLine b → a ++ 10 ∷ x ≡ b ++ 10 ∷ y → (a ≡ b) × (x ≡ y)
same_line [] [] x y p q is = (refl, append_cancel_left (10 ∷ []) x y is)
same_line [] (c ∷ b) x y p q is = absurd (q.0 (let e = is in cc))
same_line (c ∷ a) [] x y p q is = absurd (p.0 (let e = is in cc))
same_line (c ∷ a) (d ∷ b) x y p q is =
    let first : c ≡ d = let e = is in cc in
    let r = same_line a b x y p.1 q.1 (let e = is in cc) in
    (rw (first, r.0) refl, r.1)

module _ {old m₁ m₂ m₃ : List ℕ} {row : ℕ} (w : Eats (codes "row") old m₁ true) (f : Reads number_field IsNumber m₁ m₂ (Some row)) (g : Eats (32 ∷ []) m₂ m₃ true) where
  split_so : (l : RowLine) (rest : List ℕ) → row_text l ++ rest ≡ codes "row" ++ (number_field l.row ++ (32 ∷ (l.more ++ rest)))
  split_so l rest =
      append_assoc (codes "row") (number_field l.row ++ field l.more) rest
      ∙ ap (λ (x : List ℕ). codes "row" ++ x) (append_assoc (number_field l.row) (field l.more) rest)

  more_is : (l : RowLine) (rest : List ℕ) → IsAnyLine l → old ≡ row_text l ++ (10 ∷ rest) → (row ≡ l.row) × (m₃ ≡ l.more ++ (10 ∷ rest))
  more_is l rest is at =
      let first = append_cancel_left (codes "row") m₁ (number_field l.row ++ (32 ∷ (l.more ++ (10 ∷ rest)))) (sym (w.found refl) ∙ (at ∙ split_so l (10 ∷ rest))) in
      let h = f.only l.row (32 ∷ (l.more ++ (10 ∷ rest))) is.row refl first in
      ((let k = h.0 in cc), append_cancel_left (32 ∷ []) m₃ (l.more ++ (10 ∷ rest)) (sym (g.found refl) ∙ h.1))

  pub no_end : {new : List ℕ} → ((k : ℕ) → k < length m₃ → ¬ IsFeed m₃ k) → ReadsLine old new None
  no_end none =
      record {
        found = tt;
        only = λ l rest is at.
            let h = (more_is l rest is at).1 in
            let len = length_of m₃ l.more (10 ∷ rest) h in
            absurd (none (length l.more) (omega arith) (subst (λ (x : List ℕ). IsFeed x (length l.more)) (sym h) (ends_at l.more rest is.line).1));
      }

  module _ {e : ℕ} (below : e < length m₃) (none : (k : ℕ) → k < e → ¬ IsFeed m₃ k) (feed : IsFeed m₃ e) where
    abbrev pub said : RowLine
    said = record { row = row; more = take e m₃ }

    parts : m₃ ≡ take e m₃ ++ 10 ∷ drop (e + 1) m₃
    parts = (line_at m₃ e below none feed).1

    pub all : old ≡ row_text said ++ 10 ∷ drop (e + 1) m₃
    all =
        w.found refl
        ∙ (ap (λ (x : List ℕ). codes "row" ++ x)
        (f.found.1 ∙ ap (λ (x : List ℕ). number_field row ++ x) (g.found refl ∙ ap (λ (x : List ℕ). 32 ∷ x) parts))
        ∙ sym (split_so said (10 ∷ drop (e + 1) m₃)))

    pub shorter : {new : List ℕ} → new ≡ drop (e + 1) m₃ → length new ≤ length old
    shorter {new = new} n =
        let len = length_of old (row_text said) (10 ∷ drop (e + 1) m₃) all in
        let same = ap (λ (x : List ℕ). length x) n in
        omega arith

    pub line_read : {new : List ℕ} → new ≡ drop (e + 1) m₃ → (line : Line) → line.row ≡ row → line.text.now ≡ take (length old - length new) old → ReadsLine old new (Some line)
    line_read {new = new} n line is_row text =
        let whole : old ≡ (row_text said ++ 10 ∷ []) ++ new =
        all ∙ (ap (λ (x : List ℕ). row_text said ++ 10 ∷ x) (sym n) ∙ sym (append_assoc (row_text said) (10 ∷ []) new)) in
        let is_text : line.text.now ≡ row_text said ++ 10 ∷ [] = text ∙ before_rest old (row_text said ++ 10 ∷ []) new whole in
        record {
          found = (said, record { row = f.found.0; line = (line_at m₃ e below none feed).0 }, (is_row, is_text), whole ∙ ap (λ (x : List ℕ). x ++ new) (sym is_text));
          only = λ l rest is at.
              let h = more_is l rest is at in
              let s = same_line (take e m₃) l.more (drop (e + 1) m₃) rest (line_at m₃ e below none feed).0 is.line (sym parts ∙ h.1) in
              let same_text : row_text said ≡ row_text l = rw (h.0, s.0) refl in
              ((is_row ∙ h.0, is_text ∙ ap (λ (x : List ℕ). x ++ 10 ∷ []) same_text), n ∙ s.1);
        }

-- What a fold of a journal is.
use Rattle.std.specs.Prelude.{◌≡◌, ℕ, ◌==◌, List, [], ◌∷◌, ◌++◌, Option, Some, None, map, length, filter, filter_map, flat_map}
use Rattle.std.specs.List.{range_with_len}
use Rattle.line_text.specs.Lines.{first_line, last_line, text_of}
use Rattle.journal_text.specs.Texts.{IsJournal, RowLine, SaidHead, end_sum, journal_text, row_text}

-- the last of a list
abbrev pub last_of : {A : Type 0} → List A → Option A
last_of [] = None
last_of (x ∷ []) = Some x
last_of (x ∷ (y ∷ more)) = last_of (y ∷ more)

-- the last line of a row
abbrev pub line_of : List RowLine → ℕ → Option RowLine
line_of lines row = last_of (filter (λ (l : RowLine). l.row == row) lines)

abbrev pub all_lines : List (List RowLine) → List RowLine
all_lines cuts = flat_map (λ lines. lines) cuts

-- the last lines of all rows, in rising row
abbrev pub last_lines : ℕ → List RowLine → List RowLine
last_lines rows lines = filter_map (line_of lines) (range_with_len 0 rows)

-- as the text of an export
abbrev pub fold_text : ℕ → ℕ → List RowLine → List ℕ
fold_text places rows lines =
    text_of (first_line places rows ∷ (map row_text (last_lines rows lines)
    ++ last_line (length (last_lines rows lines)) ∷ []))

-- a fold
pub record FoldView : Type 0 where
  pub export : List ℕ
  pub places : ℕ
  pub rows : ℕ
  pub print : List ℕ
  pub cuts : ℕ
  pub whole : ℕ
  pub sum : List ℕ

abbrev pub fold_of : SaidHead → List (List RowLine) → FoldView
fold_of h cuts =
    record {
      export = fold_text h.places h.rows (all_lines cuts);
      places = h.places;
      rows = h.rows;
      print = h.print;
      cuts = length cuts;
      whole = length (journal_text h cuts);
      sum = end_sum h cuts;
    }

-- the text is a journal with this fold
pub record IsFold (text : List ℕ) (view : FoldView) : Type 0 where
  pub head : SaidHead
  pub cuts : List (List RowLine)
  pub rest : List ℕ
  pub is : IsJournal text head cuts rest
  pub fold : view ≡ fold_of head cuts

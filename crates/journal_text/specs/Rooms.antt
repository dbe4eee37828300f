-- What the rooms within the fold answer.
use Rattle.std.specs.Prelude.{◌≡◌, ◌≢◌, ℕ, ◌+◌, ◌<◌, ◌≤◌, List, [], ◌∷◌, ◌++◌, Option, None, IfSome, IsSomeAnd, filter_map, flat_map, length, option_map, slice_index_or}
use Rattle.std.specs.List.{AllByRecursion}
use Rattle.std.specs.Borrow.{Bor}
use Rattle.line_text.specs.Lines.{first_line, last_line}
use Rattle.journal_text.specs.declared.fault.JournalFault.{JournalFault}
use Rattle.journal_text.specs.declared.fault.JournalFault.TheVariants.{WrongLine}
use Rattle.journal_text.specs.declared.folded.Folded.{Folded}
use Rattle.journal_text.specs.declared.lines.Line.{Line}
use Rattle.journal_text.specs.declared.folded.Cuts.{Cuts}
use Rattle.journal_text.specs.Faults.{StopsAfter}
use Rattle.journal_text.specs.Folds.{FoldView, all_lines, line_of}
use Rattle.journal_text.specs.Reads.{IsAnyLine, IsLineOf}
use Rattle.journal_text.specs.Texts.{AreLines, IsSaidCut, RowLine, SaidCut, cut_text, cuts_text, lines_text, row_text, sum_after}

abbrev pub fold_view : Folded → FoldView
fold_view f =
    record {
      export = f.export.items;
      places = f.places;
      rows = f.rows;
      print = f.print.digits;
      cuts = f.cuts;
      whole = f.whole;
      sum = f.sum.digits;
    }

-- a line with its line feed
abbrev pub fed : RowLine → List ℕ
fed l = row_text l ++ 10 ∷ []

abbrev pub Table : Type 0
Table = List (Option (Bor (List ℕ)))

abbrev pub shown : Table → ℕ → Option (List ℕ)
shown table row = option_map (λ (b : Bor (List ℕ)). b.now) (slice_index_or table row None)

-- the table has the last line of each row
abbrev pub IsTable : List RowLine → Table → Type 0
IsTable lines table = (row : ℕ) → row < length table → shown table row ≡ option_map fed (line_of lines row)

-- the lines that stand in a table, in rising row
abbrev pub kept : Table → List (List ℕ)
kept table = filter_map (λ o. option_map (λ (b : Bor (List ℕ)). b.now) o) table

-- and their export
abbrev pub table_text : ℕ → ℕ → Table → List ℕ
table_text places rows table =
    (first_line places rows ++ 10 ∷ []) ++ (flat_map (λ line. line) (kept table)
    ++ (last_line (length (kept table)) ++ 10 ∷ []))

-- the cut's lines are in their places, and were put in the table
pub record PutsLines (old : Table) (c : SaidCut) (new : Table) : Type 0 where
  pub lines : List RowLine
  pub are : AreLines (length old) lines
  pub count : c.count ≡ length lines
  pub body : c.body ≡ lines_text lines
  pub table : (seen : List RowLine) → IsTable seen old → IsTable (seen ++ lines) new

-- the first line of a cut that isn't in its place
pub record IsWrongIn (rows : ℕ) (c : SaidCut) (cut line : ℕ) : Type 0 where
  pub is : cut ≡ c.number
  pub lines : List RowLine
  pub left : List ℕ
  pub right : AreLines rows lines
  pub parts : c.body ≡ lines_text lines ++ left
  pub stops : StopsAfter rows c lines left
  pub counted : line ≡ length lines + 1

abbrev pub IsLineFault : ℕ → SaidCut → JournalFault → Type 0
IsLineFault rows c (WrongLine cut line) = IsWrongIn rows c cut line
IsLineFault rows c _ = ⊥

-- a line whose row is in these bounds; where there is none, what is left doesn't begin with one
pub record ReadsBetween (least rows : ℕ) (old new : List ℕ) (read : Option Line) : Type 0 where
  pub found : IfSome read (λ line. (l : RowLine) × IsAnyLine l × IsLineOf l line × (old ≡ line.text.now ++ new)
      × (least ≤ line.row) × (line.row < rows))
  pub only : (l : RowLine) (rest : List ℕ) → IsAnyLine l → least ≤ l.row → l.row < rows
      → old ≡ row_text l ++ (10 ∷ rest) → IsSomeAnd read (IsLineOf l) × (new ≡ rest)

-- no next cut stands at the front
abbrev pub HasNoNext : ℕ → List ℕ → List ℕ → Type 0
HasNoNext number before rest =
    (c : SaidCut) (more : List ℕ) → IsSaidCut c → c.number ≡ number → c.before ≡ before → rest ≢ cut_text c ++ more

-- all cuts that follow each other from the front are read, and their lines are in the table
pub record ReadsCuts (rows : ℕ) (first old new : List ℕ) (lasts : Table) (read : Cuts) : Type 0 where
  pub cuts : List (List RowLine)
  pub each : AllByRecursion (AreLines rows) cuts
  pub is : old ≡ cuts_text 1 first cuts ++ new
  pub count : read.count ≡ length cuts
  pub sum : read.sum.digits ≡ sum_after 1 first cuts
  pub table : IsTable (all_lines cuts) lasts
  pub few : read.count + length new ≤ length old
  pub last : HasNoNext (length cuts + 1) (sum_after 1 first cuts) new

-- after cuts that follow each other there is one with a line that isn't in its place
pub record StopsInCut (rows : ℕ) (first old : List ℕ) (cut line : ℕ) : Type 0 where
  pub cuts : List (List RowLine)
  pub each : AllByRecursion (AreLines rows) cuts
  pub wrong : SaidCut
  pub said : IsSaidCut wrong
  pub more : List ℕ
  pub is : old ≡ cuts_text 1 first cuts ++ (cut_text wrong ++ more)
  pub number : wrong.number ≡ length cuts + 1
  pub before : wrong.before ≡ sum_after 1 first cuts
  pub stops : IsWrongIn rows wrong cut line

abbrev pub IsCutFault : ℕ → List ℕ → List ℕ → JournalFault → Type 0
IsCutFault rows first old (WrongLine cut line) = StopsInCut rows first old cut line
IsCutFault rows first old _ = ⊥

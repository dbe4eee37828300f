-- The cause of each fault of a journal.
use Rattle.std.specs.Prelude.{◌≡◌, ◌≢◌, ◌⊎◌, ℕ, ◌+◌, ◌<◌, List, [], ◌∷◌, ◌++◌, length}
use Rattle.line_text.specs.Lines.{text_of}
use Rattle.journal_text.specs.declared.fault.JournalFault.{JournalFault}
use Rattle.journal_text.specs.declared.fault.JournalFault.TheVariants.{NotAJournal, WrongLine, BrokenCut, NoMemory}
use Rattle.journal_text.specs.Texts.{AreLines, Begins, HoldsCut, IsHead, IsSaidCut, RowLine, SaidCut, SaidHead, cut_text, head_text, end_sum, lines_text, row_text}

-- the first line is none
abbrev pub HasNoHead : List ℕ → Type 0
HasNoHead text = (h : SaidHead) (rest : List ℕ) → IsHead h → text ≢ head_text h ++ rest

-- the cut is the next one by its number and the sum before it
pub record Follows (h : SaidHead) (cuts : List (List RowLine)) (c : SaidCut) : Type 0 where
  pub number : c.number ≡ length cuts + 1
  pub before : c.before ≡ end_sum h cuts

-- after these first lines of a body, what is left is no line in its place, or there are fewer or more than is said
abbrev pub StopsAfter : ℕ → SaidCut → List RowLine → List ℕ → Type 0
StopsAfter rows c lines left =
    ((length lines ≡ c.count) × (left ≢ []))
    ⊎ ((length lines < c.count)
    × ((next : RowLine) (more : List ℕ) → AreLines rows (lines ++ next ∷ [])
    → left ≢ text_of (row_text next ∷ []) ++ more))

-- the first line of a whole cut that isn't in its place, counted from 1
pub record HasWrongLine (text : List ℕ) (cut line : ℕ) : Type 0 where
  pub head : SaidHead
  pub cuts : List (List RowLine)
  pub rest : List ℕ
  pub more : List ℕ
  pub begins : Begins text head cuts rest
  pub wrong : SaidCut
  pub said : IsSaidCut wrong
  pub next : rest ≡ cut_text wrong ++ more
  pub follows : Follows head cuts wrong
  pub lines : List RowLine
  pub left : List ℕ
  pub right : AreLines head.rows lines
  pub parts : wrong.body ≡ lines_text lines ++ left
  pub stops : StopsAfter head.rows wrong lines left
  pub number : cut ≡ length cuts + 1
  pub counted : line ≡ length lines + 1

-- what stands after these cuts isn't the next cut, and a whole cut begins somewhere in it
pub record HasBrokenCut (text : List ℕ) (cut : ℕ) : Type 0 where
  pub head : SaidHead
  pub cuts : List (List RowLine)
  pub rest : List ℕ
  pub begins : Begins text head cuts rest
  pub broken : (c : SaidCut) (more : List ℕ) → IsSaidCut c → Follows head cuts c → rest ≢ cut_text c ++ more
  pub holds : HoldsCut rest
  pub number : cut ≡ length cuts + 1

abbrev pub IsJournalFault : List ℕ → JournalFault → Type 0
IsJournalFault text NotAJournal = HasNoHead text
IsJournalFault text (WrongLine cut line) = HasWrongLine text cut line
IsJournalFault text (BrokenCut cut) = HasBrokenCut text cut
IsJournalFault text NoMemory = Unit {0}

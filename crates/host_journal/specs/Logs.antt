-- What the log of a journal writes.
use Rattle.std.specs.Prelude.{◌≡◌, ◌⊎◌, ℕ, ◌+◌, ◌++◌, Bool, true, false, List, [], Option}
use Rattle.std.specs.List.{range_with_len}
use Rattle.claim_rule.specs.Calls.{AddsStepsBy, Calls}
use Rattle.claim_rule.specs.Rule.{DeskView}
use Rattle.rail_io.specs.Journals.{Appends, Replaces}
use Rattle.journal_text.specs.Texts.{SaidCut, SaidHead, cut_text, head_text, own_sum, sum_of}
use Rattle.row_cuts.specs.Lines.{WritesLines, WritesMarked}
use Rattle.host_journal.specs.declared.log.Head.{Head}
use Rattle.host_journal.specs.declared.log.Lines.{Lines}
use Rattle.host_journal.specs.declared.log.Log.{Log}

abbrev pub head_of : Head → SaidHead
head_of head = record { places = head.places; rows = head.rows; print = head.print.digits }

-- the cut of these lines, by its number and the sum before it
abbrev pub cut_with : ℕ → List ℕ → Lines → SaidCut
cut_with number before lines = record { number = number; count = lines.count; before = before; body = lines.text.items }

-- the first cut of a journal
abbrev pub first_cut : Head → Lines → SaidCut
first_cut head lines = cut_with 1 (sum_of (head_text (head_of head))) lines

-- a journal with this head and one cut of these lines
abbrev pub whole_text : Head → Lines → List ℕ
whole_text head lines = head_text (head_of head) ++ cut_text (first_cut head lines)

-- where a log has come to: the number of the last cut, and its sum
pub record LogEnd : Type 0 where
  pub number : ℕ
  pub sum : List ℕ

abbrev pub log_end : {J : Type 0} → Log J → LogEnd
log_end log = record { number = log.number; sum = log.sum.digits }

-- A journal of one cut was put in the place of what was kept; or, where that failed, it may have been.
abbrev pub BeginsAnew : Option (List ℕ) → Option (List ℕ) → Head → Lines → LogEnd → Bool → Type 0
BeginsAnew before after head lines end true =
    Replaces before after (whole_text head lines) true × (end.number ≡ 1) × (end.sum ≡ own_sum (first_cut head lines))
BeginsAnew before after head lines end false = (after ≡ before) ⊎ Replaces before after (whole_text head lines) false

-- The cut of these lines that follows was appended; or, where that failed, its first bytes may have been.
abbrev pub GrowsBy : Option (List ℕ) → Option (List ℕ) → LogEnd → Lines → LogEnd → Bool → Type 0
GrowsBy before after old lines new true =
    Appends before after (cut_text (cut_with (old.number + 1) old.sum lines)) true × (new.number ≡ old.number + 1)
    × (new.sum ≡ own_sum (cut_with (old.number + 1) old.sum lines))
GrowsBy before after old lines new false =
    (after ≡ before) ⊎ Appends before after (cut_text (cut_with (old.number + 1) old.sum lines)) false

-- the lines of all rows, or of those that are set in some marks, as looks showed them
abbrev pub WritesRows : Bool → ℕ → Lines → Calls
WritesRows true rows lines es = WritesLines (range_with_len 0 rows) [] lines.text.items lines.count es
WritesRows false rows lines es = WritesMarked rows [] lines.text.items lines.count es

-- the lines are kept: as the one cut of a new journal, or as the cut that follows, where there are any
abbrev pub KeepsLines : Bool → Option (List ℕ) → Option (List ℕ) → Head → LogEnd → Lines → LogEnd → Type 0
KeepsLines true before after head old lines new = BeginsAnew before after head lines new true
KeepsLines false before after head old lines new =
    ((lines.count ≡ 0) × (after ≡ before) × (new ≡ old)) ⊎ GrowsBy before after old lines new true

-- A call of the journal put these lines there: as the one cut of a new journal, or as the cut that follows, where there
-- are any.
abbrev pub PutsLines : {J : Type 0} → (J → List ℕ → J → Type 0) → (J → List ℕ → J → Type 0) → Bool → J → J → Head
    → LogEnd → Lines → Type 0
PutsLines puts adds true before after head old lines = puts before (whole_text head lines) after
PutsLines puts adds false before after head old lines =
    (lines.count ≡ 0) ⊎ adds before (cut_text (cut_with (old.number + 1) old.sum lines)) after

-- A cut was kept: its lines are what the desk's looks showed of all rows, or of just those that are set in some marks;
-- and the journal keeps them.
pub record KeepsCut (rows : ℕ) (before after : Option (List ℕ)) (head : Head) (old new : LogEnd)
    (began ended : DeskView) : Type 0 where
  pub whole : Bool
  pub lines : Lines
  pub looks : AddsStepsBy (WritesRows whole rows lines) began ended
  pub kept : KeepsLines whole before after head old lines new

-- What is so of every journal.
use Rattle.std.specs.Prelude.{◌≡◌, ℕ, List, [], length}
use Rattle.std.specs.List.{AllByRecursion}
use Rattle.line_text.specs.Lines.{IsNumber}
use Rattle.journal_text.specs.declared.fault.JournalFault.{JournalFault}
use Rattle.journal_text.specs.declared.fault.JournalFault.TheVariants.{NoMemory}
use Rattle.journal_text.specs.Texts.{AreLines, IsHead, IsJournal, RowLine, SaidHead, journal_text}
use Rattle.journal_text.specs.Folds.{FoldView, IsFold, fold_of}
use Rattle.journal_text.specs.Faults.{IsJournalFault}

-- what was written is folded as its own lines, and with no fault but lack of memory
pub record IsFoldedBack (text : List ℕ) (h : SaidHead) (cuts : List (List RowLine)) : Type 0 where
  pub is : IsJournal text h cuts []
  pub only : (view : FoldView) → IsFold text view → view ≡ fold_of h cuts
  pub accepted : (fault : JournalFault) → IsJournalFault text fault → fault ≡ NoMemory

abbrev pub CutsAreFoldedBack : Type 0
CutsAreFoldedBack =
    (h : SaidHead) (cuts : List (List RowLine)) → IsHead h → AllByRecursion (AreLines h.rows) cuts
    → IsNumber (length cuts) → IsFoldedBack (journal_text h cuts) h cuts
